-- What refuses a conflict's page: the call's number, then the room; and the sole ground for each number.
use mathlib.Core.Path.{◌≡◌, refl, ap, sym, ◌∙◌}
use mathlib.Core.Bool.{Bool, true}
use mathlib.Core.Logic.{◌↔◌, inl, inr}
use mathlib.Core.List.{List, [], ◌∷◌}
use Prim.Native.Nat.{ℕ, ◌+◌, ◌*◌, ◌≤◌, ◌<◌}
use native.Mathlib.Omega.{arith}
use native.Mathlib.Decide.{ℕ_discrete}
use lib.Dec.{leb}
use lib.IntN.{ℤ}
use lib.ListN.{length}
use borrow.Author.Tests.{leb-true, le-leb, lt-leb}
use Rattle.integers.specs.declared.refused.Refusal.{Refusal}
use Rattle.integers.specs.Answers.{Answer, refused_by}
use Rattle.integers.specs.Refused.{number_of}
use Rattle.integers.proofs.Answers.{same_kind}
use Rattle.integers.specs.Limits.{TASKS}
use Rattle.integers.specs.Tests.{Test, test}
use Rattle.integers.proofs.Tests.{accepts, refuses, refusal_after, refusal_before, more_refused}
use Rattle.scheduling.specs.Scheduling.{TaskSet, Overloads}
use Rattle.scheduling.specs.Scheduling as scheduling
use Rattle.records.specs.declared.record.DisjunctivePropagator.{DisjunctivePropagator}
use Rattle.records.specs.Records.{tasks_in}
use Rattle.records.specs.Refusals.{input_tests, input_number, AcceptedInput}
use Rattle.records.proofs.RefusedRuns.{passed_input, input_passed, input_many}
use Rattle.records.proofs.InputGrounds.{InputGrounds, input_grounds}
use Rattle.conflicts.specs.declared.answer.Found.{Found}
use Rattle.conflicts.specs.declared.answer.Found.TheVariants.{NothingFound, Overload, Late, Refused}
use Rattle.conflicts.specs.declared.answer.Conflict.{Conflict}
use Rattle.conflicts.proofs.FoundConflicts.{apart}
use Rattle.conflicts.specs.Numbers.{found_numbers}
use Rattle.conflicts.specs.Conflicts.{ConflictFound}
use Rattle.conflict_pages.specs.Lines.{LINE}
use Rattle.conflict_pages.specs.Pages.{conflict_page_number}

-- ---- the call's number
module _ (r : DisjunctivePropagator) (es ls : List ℤ) (bars : Bool) (c : Conflict) (x : ConflictFound r es ls bars c) where
  -- where no test fails, some answer is found: an overload, a late task, or nothing
  pub not_refused : input_number r es ls bars ≡ 0 → (why : Refusal) → c.found ≡ Refused why → ⊥
  not_refused z why e = apart e (ap (λ (d : Conflict). d.found) ((x.nothing z).1 none)) refl
    where
      overloads : (Ω : TaskSet) → Overloads (tasks_in r es ls) Ω → ⊥
      overloads Ω o = apart e ((x.overload z).1 (Ω, o)) refl

      none : scheduling.Conflict (tasks_in r es ls) → ⊥
      none (inl (Ω, o)) = overloads Ω o
      none (inr (i, b, edge, passes)) = let (j, y, d, late) = (x.late z).1 (overloads, (i, b, edge, passes)) in apart e late refl

  pub refused_number : (why : Refusal) → c.found ≡ Refused why → number_of why ≡ input_number r es ls bars
  refused_number why e = ap (λ (a : Answer). a.number) (sym (ap found_numbers e) ∙ (x.refused (λ z. not_refused z why e)).answer)

  -- where none is found to refuse it, no test fails
  pub accepted : ((why : Refusal) → c.found ≡ Refused why → ⊥) → input_number r es ls bars ≡ 0
  accepted none = elim (ℕ_discrete (input_number r es ls bars) 0) [ yes z ↦ z | no z ↦ absurd (by c.found refl (x.refused z).answer) ]
    where
      by : (f : Found) → c.found ≡ f → found_numbers f ≡ refused_by (input_number r es ls bars) → ⊥
      by NothingFound e a = omega (arith, same_kind a)
      by Overload e a = omega (arith, same_kind a)
      by (Late i l b) e a = omega (arith, same_kind a)
      by (Refused why) e a = none why e

-- ---- and then the room
module _ (r : DisjunctivePropagator) (es ls : List ℤ) (bars : Bool) (bytes : ℕ) where
  abbrev t15 : Test
  t15 = test 15 (leb (LINE * (r.count + 5)) bytes)

  room_is : leb (LINE * (r.count + 5)) bytes ≡ true ↔ (LINE * (r.count + 5) ≤ bytes)
  room_is = (λ h. leb-true (LINE * (r.count + 5)) bytes h, λ h. le-leb (LINE * (r.count + 5)) bytes h)

  pub call_first : (input_number r es ls bars ≡ 0 → ⊥) → conflict_page_number r es ls bars bytes ≡ input_number r es ls bars
  call_first h = refusal_before (input_tests r es ls bars) (t15 ∷ []) h

  pub no_room : input_number r es ls bars ≡ 0 → bytes < LINE * (r.count + 5) → conflict_page_number r es ls bars bytes ≡ 15
  no_room z h = refuses (input_tests r es ls bars) t15 [] (input_passed r es ls bars z) (lt-leb (LINE * (r.count + 5)) bytes h)

  pub room_enough : input_number r es ls bars ≡ 0 → LINE * (r.count + 5) ≤ bytes → conflict_page_number r es ls bars bytes ≡ 0
  room_enough z h = refusal_after (input_tests r es ls bars) (t15 ∷ []) (input_passed r es ls bars z) ∙ accepts (t15 ∷ []) (le-leb (LINE * (r.count + 5)) bytes h, tt)

  -- The sole ground for each number: those of the record and its ranges, and the page's own.
  pub sole_grounds : InputGrounds r es ls bars (conflict_page_number r es ls bars bytes)
  sole_grounds = input_grounds r es ls bars (t15 ∷ []) refl refl refl refl refl

  pub refused_15 : conflict_page_number r es ls bars bytes ≡ 15 ↔ ((AcceptedInput r es ls × (bars ≡ true)) × (LINE * (r.count + 5) ≤ bytes → ⊥))
  refused_15 = more_refused (input_tests r es ls bars) t15 (passed_input r es ls bars) room_is refl refl

-- more ranges than any record has tasks are refused by the number that refuses none
pub page_many : (r : DisjunctivePropagator) (es ls : List ℤ) (bars bars' : Bool) (bytes : ℕ) → TASKS < length es
    → (conflict_page_number r [] [] bars bytes ≡ conflict_page_number r es ls bars' bytes) × (conflict_page_number r es ls bars' bytes ≡ 0 → ⊥)
page_many r es ls bars bars' bytes many = input_many r es ls bars bars' (t15 r [] [] bars bytes ∷ []) (t15 r es ls bars' bytes ∷ []) many
