-- What the call leaves of an instance is the text that is promised.
use mathlib.Core.Logic.{◌⊎◌, inl, inr}
use mathlib.Core.Path.{◌≡◌, refl, sym, ap, ◌∙◌}
use mathlib.Core.Bool.{true}
use mathlib.Core.List.{List}
use Prim.Native.Nat.{ℕ, zero, suc, ◌≤◌}
use native.Mathlib.Omega.{arith}
use native.Mathlib.Decide.{ℕ_discrete}
use Rattle.std.specs.Prelude.{None, Some, Ok, Err}
use lib.IntN.{ℤ}
use lib.ListN.{length, drop, length-append}
use Rattle.integers.specs.Answers.{Answer}
use Rattle.integers.specs.Refused.{number_of}
use Rattle.integers.specs.declared.refused.Refusal.{Refusal}
use Rattle.integers.proofs.RefusalNumbers.{never_zero}
use Rattle.integers.specs.Tests.{refusal}
use Rattle.integers.specs.Texts.{bytes_of}
use Rattle.integers.proofs.Answers.{same_kind, same_count}
use Rattle.integers.proofs.Words.{overwrites}
use Rattle.records.specs.declared.record.DisjunctivePropagator.{DisjunctivePropagator}
use Rattle.records.specs.declared.record.Created.{Created}
use Rattle.records.specs.Records.{creation_tests, number_of_creation, new_record, Creates}
use Rattle.records.specs.Refusals.{input_number}
use Rattle.records.proofs.Creation.{created_new}
use Rattle.records.proofs.RefusedRuns.{accepted_input}
use Rattle.text.specs.DecimalText.{Puts}
use Rattle.conflicts.specs.declared.answer.Found.{Found}
use Rattle.conflicts.specs.declared.answer.Found.TheVariants as found
use Rattle.conflicts.specs.ConflictOf.{conflict_of}
use Rattle.conflict_pages.specs.Pages.{conflict_page_number, conflict_page_of, ConflictPaged}
use Rattle.conflict_pages.proofs.RefusedPages.{call_first, room_enough}
use Rattle.plan_cli.specs.Lines.{refused_line}
use Rattle.why_cli.specs.Written.{ROOM, found_text, refused_or, why_on, why_of}

or_refused : (n : ℕ) (text : List ℕ) → (n ≡ 0 → ⊥) → refused_or n text ≡ refused_line n
or_refused zero text h = absurd (h refl)
or_refused (suc n) text h = refl

-- nothing was found, or the text is the page
abbrev Paging : Found → Type 0
Paging f = (f ≡ found.NothingFound → ⊥) × ((page : List ℕ) → found_text f page ≡ page)

is_nothing : (f : Found) → (f ≡ found.NothingFound) ⊎ Paging f
is_nothing found.NothingFound = inl refl
is_nothing found.Overload = inr ((λ e. let y : ◌≡◌ {A = ℕ} 0 1 = cc in omega arith), λ page. refl)
is_nothing (found.Late i l b) = inr ((λ e. let y : ◌≡◌ {A = ℕ} 0 1 = cc in omega arith), λ page. refl)
is_nothing (found.Refused m) = inr ((λ e. let y : ◌≡◌ {A = ℕ} 0 1 = cc in omega arith), λ page. refl)

module _ (r : DisjunctivePropagator) (es ls : List ℤ) (out : List ℕ) (room : ROOM ≤ length out) where
  -- the room is enough, so that the number is the call's
  number_is : conflict_page_number r es ls true (length out) ≡ input_number r es ls true
  number_is = elim (ℕ_discrete (input_number r es ls true) 0) [
    | yes z ↦ (let few = ((accepted_input r es ls true).0 z).0.lawful.few in room_enough r es ls true (length out) z (omega (arith, few, room)) ∙ sym z)
    | no z ↦ call_first r es ls true (length out) z
  ]

  abbrev n : ℕ
  n = conflict_page_number r es ls true (length out)

  abbrev shown : Found
  shown = (conflict_of r es ls).found

  accepted_text : n ≡ 0 → why_on r es ls ≡ found_text shown (conflict_page_of r es ls)
  accepted_text z = ap (λ (m : ℕ). refused_or m (found_text shown (conflict_page_of r es ls))) (sym number_is ∙ z)

  refused_text : (n ≡ 0 → ⊥) → why_on r es ls ≡ refused_line n
  refused_text h = or_refused (input_number r es ls true) _ (λ z. h (number_is ∙ z)) ∙ ap refused_line (sym number_is)

  -- ---- by what the call answered
  pub page_text : {out' : List ℕ} (k : ℕ) → ConflictPaged r es ls true out (Ok (Some k)) out' → length out' ≡ length out → Puts out out' 0 (why_on r es ls) k × (k ≤ length out)
  page_text {out'} k x same = by (ℕ_discrete n 0) (is_nothing shown)
    where
      by : Dec (n ≡ 0) → (shown ≡ found.NothingFound) ⊎ Paging shown → Puts out out' 0 (why_on r es ls) k × (k ≤ length out)
      by (no h) g = absurd (omega (arith, same_kind (x.refused h).answer))
      by (yes z) (inl g) = absurd (omega (arith, same_kind (x.nothing z g).answer))
      by (yes z) (inr g) =
          let l = x.written z g.0 in
          let e : k ≡ length (conflict_page_of r es ls) = same_count l.answer 0 in
          let fits : length (conflict_page_of r es ls) ≤ length out = omega (arith, ap length l.text, length-append (conflict_page_of r es ls) (drop (length (conflict_page_of r es ls)) out), same) in (
            rw (accepted_text z, g.1 (conflict_page_of r es ls)) (record { text = l.text ∙ sym (overwrites out (conflict_page_of r es ls) fits); end = omega (arith, e) }),
            omega (arith, e, fits),
          )

  pub nothing_text : {out' : List ℕ} → ConflictPaged r es ls true out (Ok None) out' → (out' ≡ out) × (bytes_of "nothing found\n" ≡ why_on r es ls)
  nothing_text {out'} x = by (ℕ_discrete n 0) (is_nothing shown)
    where
      by : Dec (n ≡ 0) → (shown ≡ found.NothingFound) ⊎ Paging shown → (out' ≡ out) × (bytes_of "nothing found\n" ≡ why_on r es ls)
      by (no h) g = absurd (omega (arith, same_kind (x.refused h).answer))
      by (yes z) (inl g) = ((x.nothing z g).keeps, sym (accepted_text z ∙ ap (λ (f : Found). found_text f (conflict_page_of r es ls)) g))
      by (yes z) (inr g) = absurd (omega (arith, same_kind (x.written z g.0).answer))

  pub refused_texts : {out' : List ℕ} (why : Refusal) → ConflictPaged r es ls true out (Err why) out' → (out' ≡ out) × (refused_line (number_of why) ≡ why_on r es ls)
  refused_texts {out'} why x = by (ℕ_discrete n 0) (is_nothing shown)
    where
      by : Dec (n ≡ 0) → (shown ≡ found.NothingFound) ⊎ Paging shown → (out' ≡ out) × (refused_line (number_of why) ≡ why_on r es ls)
      by (no h) g = ((x.refused h).keeps, sym (refused_text h ∙ ap refused_line (sym (ap (λ (a : Answer). a.number) (x.refused h).answer))))
      by (yes z) (inl g) = absurd (omega (arith, same_kind (x.nothing z g).answer))
      by (yes z) (inr g) = absurd (omega (arith, same_kind (x.written z g.0).answer))

-- ---- a record is made of the durations, or not
module _ (es ls ds : List ℤ) (r : Created) (creates : Creates ds r) where
  pub accepted_why : r.answer ≡ Ok tt → why_on r.«record» es ls ≡ why_of es ls ds
  accepted_why h =
      let z : refusal (creation_tests ds) ≡ 0 = sym creates.number ∙ ap number_of_creation h in
      ap (λ (x : DisjunctivePropagator). why_on x es ls) (creates.made ∙ ap (λ (x : Created). x.«record») (created_new ds z))
      ∙ ap (λ (k : ℕ). refused_or k (why_on (new_record ds) es ls)) (sym z)

  pub refused_why : (why : Refusal) → r.answer ≡ Err why → refused_line (number_of why) ≡ why_of es ls ds
  refused_why why h = by (refusal (creation_tests ds)) (ap number_of_creation (sym h) ∙ creates.number)
    where
      by : (k : ℕ) → number_of why ≡ k → refused_line (number_of why) ≡ refused_or k (why_on (new_record ds) es ls)
      by zero z = absurd (never_zero why z)
      by (suc k) z = ap refused_line z
