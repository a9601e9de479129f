-- Each way that the call ends meets its contract.
use mathlib.Core.Path.{◌≡◌, refl, sym, ap, subst, ◌∙◌}
use mathlib.Core.Bool.{Bool, not}
use mathlib.Core.List.{List, []}
use Prim.Native.Nat.{ℕ, ◌+◌, ◌*◌, ◌≤◌, ◌<◌}
use native.Mathlib.Omega.{arith}
use lib.IntN.{ℤ}
use lib.ListN.{length}
use Rattle.std.specs.Prelude.{Option, Some, None, Result, Ok, Err}
use Rattle.integers.specs.declared.refused.Refusal.{Refusal}
use Rattle.integers.specs.declared.refused.Refusal.TheVariants as refusal
use Rattle.integers.specs.Answers.{refused_by}
use Rattle.integers.specs.Refused.{number_of}
use Rattle.integers.proofs.RefusalNumbers.{never_zero}
use Rattle.integers.specs.Limits.{TASKS}
use Rattle.integers.proofs.Words.{overwrites}
use Rattle.records.specs.declared.record.DisjunctivePropagator.{DisjunctivePropagator}
use Rattle.records.specs.Refusals.{input_number}
use Rattle.records.proofs.RefusedRuns.{accepted_input}
use Rattle.text.specs.DecimalText.{Puts}
use Rattle.conflicts.specs.declared.answer.Found.TheVariants as found
use Rattle.conflicts.specs.declared.answer.Conflict.{Conflict}
use Rattle.conflicts.specs.ConflictOf.{conflict_of}
use Rattle.conflicts.specs.Conflicts.{ConflictFound}
use Rattle.conflict_pages.specs.Lines.{LINE}
use Rattle.conflict_pages.specs.Numbers.{numbers_of_conflict_page}
use Rattle.conflict_pages.specs.TaskLines.{tasks_of}
use Rattle.conflict_pages.specs.Pages.{conflict_page_number, page_of, OneLineEach, PageLeft, ConflictPaged}
use Rattle.conflict_pages.specs.Sayable.{Pageable}
use Rattle.conflict_pages.proofs.LineOfEach.{one_line_each}
use Rattle.conflict_pages.proofs.WrittenPages.{linable}
use Rattle.conflict_pages.proofs.RightNumbers.{sayable}
use Rattle.conflict_pages.proofs.RefusedPages.{not_refused, refused_number, accepted, call_first, no_room, room_enough, page_many}

module _ (r : DisjunctivePropagator) (es ls : List ℤ) (bars : Bool) (out : List ℕ) where
  abbrev number : ℕ
  number = conflict_page_number r es ls bars (length out)

  pub refused_by_is : {page : Result (Option ℕ) Refusal} {out' : List ℕ} → (conflict_page_number r es ls bars (length out) ≡ 0 → ⊥)
      → numbers_of_conflict_page page ≡ refused_by (conflict_page_number r es ls bars (length out)) → out' ≡ out → ConflictPaged r es ls bars out page out'
  refused_by_is not e k = record {
    refused = λ _. record { answer = e; keeps = k };
    right = λ z. absurd (not z);
    nothing = λ z _. absurd (not z);
    written = λ z _. absurd (not z);
    lines = λ z. absurd (not z);
  }

  module _ (c : Conflict) (x : ConflictFound r es ls bars c) where
    -- the call is refused
    pub call_refused : {out' : List ℕ} (why : Refusal) → c.found ≡ found.Refused why → out' ≡ out → ConflictPaged r es ls bars out (Err why) out'
    call_refused why e k =
        let i = refused_number r es ls bars c x why e in
        let z : number ≡ number_of why = call_first r es ls bars (length out) (λ z. not_refused r es ls bars c x z why e) ∙ sym i in
        refused_by_is (λ y. never_zero why (sym z ∙ y)) (ap refused_by (sym z)) k

    -- or it is not
    module _ (none : (why : Refusal) → c.found ≡ found.Refused why → ⊥) where
      passed : input_number r es ls bars ≡ 0
      passed = accepted r es ls bars c x none

      pub few_tasks : r.count ≤ TASKS
      few_tasks = ((accepted_input r es ls bars).0 passed).0.lawful.few

      pub room_refused : {out' : List ℕ} → length out < LINE * (r.count + 5) → out' ≡ out → ConflictPaged r es ls bars out (Err refusal.PageRoom) out'
      room_refused h k = let z = no_room r es ls bars (length out) passed h in refused_by_is (λ y. omega (arith, z, y)) (ap refused_by (sym z)) k

      module _ (room : LINE * (r.count + 5) ≤ length out) (long : length r.durations ≡ TASKS) where
        enough : number ≡ 0
        enough = room_enough r es ls bars (length out) passed room

        same : c ≡ conflict_of r es ls
        same = x.answer passed

        pub pageable : Pageable r es ls c (length out)
        pageable = let i = ((accepted_input r es ls bars).0 passed).0 in record { input = i; sayable = sayable r es ls i long c x; space = room }

        of_each : OneLineEach r es ls (conflict_of r es ls) (tasks_of (conflict_of r es ls).set.tasks (length es))
        of_each = subst (λ (d : Conflict). OneLineEach r es ls d (tasks_of d.set.tasks (length es))) same (one_line_each r es ls c (linable r es ls c out pageable))

        pub nothing_found : {out' : List ℕ} → c.found ≡ found.NothingFound → out' ≡ out → ConflictPaged r es ls bars out (Ok None) out'
        nothing_found g k = record {
          refused = λ not. absurd (not enough);
          right = λ _. subst (ConflictFound r es ls bars) same x;
          nothing = λ _ _. record { answer = refl; keeps = k };
          written = λ _ not. absurd (not (ap (λ (d : Conflict). d.found) (sym same) ∙ g));
          lines = λ _. of_each;
        }

        pub page_written : {out' : List ℕ} (n : ℕ) → (c.found ≡ found.NothingFound → ⊥) → Puts out out' 0 (page_of r es ls c) n → n ≤ length out
            → ConflictPaged r es ls bars out (Ok (Some n)) out'
        page_written {out'} n some p fits = record {
          refused = λ not. absurd (not enough);
          right = λ _. subst (ConflictFound r es ls bars) same x;
          nothing = λ _ g. absurd (some (ap (λ (d : Conflict). d.found) same ∙ g));
          written = λ _ _. subst (λ (d : Conflict). PageLeft (page_of r es ls d) out (Ok (Some n)) out') same left;
          lines = λ _. of_each;
        }
          where
            size : n ≡ length (page_of r es ls c)
            size = omega (arith, p.end)

            left : PageLeft (page_of r es ls c) out (Ok (Some n)) out'
            left = record { answer = ap (λ (m : ℕ). numbers_of_conflict_page (Ok (Some m))) size; text = p.text ∙ overwrites out (page_of r es ls c) (omega (arith, size, fits)) }

-- too many ranges are refused as none are
pub too_many : (r : DisjunctivePropagator) (es ls : List ℤ) (bars bars' : Bool) (out : List ℕ) (page : Result (Option ℕ) Refusal) (out' : List ℕ) → TASKS < length es → ConflictPaged r [] [] bars out page out'
    → ConflictPaged r es ls bars' out page out'
too_many r es ls bars bars' out page out' many p =
    let (same, not) = page_many r es ls bars bars' (length out) many in
    let k = p.refused (λ z. not (sym same ∙ z)) in
    refused_by_is r es ls bars' out not (k.answer ∙ ap refused_by same) k.keeps
