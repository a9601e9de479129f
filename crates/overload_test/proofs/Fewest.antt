-- The test reads no task too many: no set of the tasks that it read before the last one overloads.
use mathlib.Core.Path.{◌≡◌, sym, ap, ◌∙◌}
use mathlib.Core.Bool.{Bool, true, false}
use mathlib.Core.Logic.{inl, inr}
use mathlib.Core.List.{List, [], ◌∷◌}
use Prim.Native.Nat.{ℕ, suc, ◌-◌, ◌<◌}
use native.Mathlib.Omega.{arith}
use lib.IntN.{ℤ, pos}
use lib.ListN.{length}
use Rattle.integers.specs.declared.refused.Refusal.{Refusal}
use Rattle.integers.specs.Answers.{answered}
use Rattle.integers.specs.Limits.{TASKS}
use Rattle.integers.specs.Moments.{zero_at}
use Rattle.integers.specs.Orders.{index}
use Rattle.integers.proofs.Answers.{same_kind, same_count}
use Rattle.integers.proofs.Bools.{clash}
use Rattle.scheduling.specs.Scheduling.{natural, Tasks, Proper, TaskSet, Overloads}
use Rattle.scheduling.proofs.Clocks.{overload→}
use Rattle.records.specs.declared.record.DisjunctivePropagator.{DisjunctivePropagator}
use Rattle.records.specs.Records.{tasks_in, moments_in}
use Rattle.records.specs.Refusals.{AcceptedInput, input_number}
use Rattle.records.proofs.AcceptedTasks.{proper_whole, above, proper}
use Rattle.records.proofs.RefusedRuns.{accepted_input}
use Rattle.std.specs.Prelude.{Option, Result, Ok}
use Rattle.overload_test.specs.ReadTasks.{by_completion, read, overloads_at, answer_of}
use Rattle.overload_test.specs.Numbers.{numbers_of_overload}
use Rattle.overload_test.specs.Tested.{OverloadTested}
use Rattle.overload_test.proofs.Answers.{stopped_or_passed}
use Rattle.overload_test.proofs.ReadTasks.{read_place, last_met}

module _ (J : Tasks natural) where
  -- a yes with m tasks passed over each place before the last of them
  quiet : (m : ℕ) → numbers_of_overload (Ok (answer_of J)) ≡ answered 0 (pos m ∷ []) → (j : ℕ) → suc j < m → overloads_at J j ≡ false
  quiet m e j q = elim (stopped_or_passed J 0 J.count) [
    | inl s ↦ (let z : suc s.at ≡ m = same_count (ap (λ (a : Option ℕ). numbers_of_overload (Ok a)) (sym s.is) ∙ e) 0 in s.before j (omega arith) (omega arith))
    | inr p ↦ absurd (omega (arith, same_kind (ap (λ (a : Option ℕ). numbers_of_overload (Ok a)) (sym p.is) ∙ e)))
  ]

  pub fewest : Proper J → (m : ℕ) → numbers_of_overload (Ok (answer_of J)) ≡ answered 0 (pos m ∷ []) → (Ω : TaskSet) → ((j : ℕ) → Ω j ≡ true → read J (m - 1) j ≡ true) → Overloads J Ω → ⊥
  fewest ok m e Ω before o =
      let l = last_met J ok Ω o in
      clash l.shows (quiet m e (index (by_completion J) l.last) (omega (arith, read_place J (m - 1) l.last (before l.last l.member.mem))))

-- an accepted call reads no task too many, over whole numbers
pub none_before : (before : DisjunctivePropagator) (es ls : List ℤ) (bars : Bool) (r : Result (Option ℕ) Refusal) → OverloadTested before es ls bars r → input_number before es ls bars ≡ 0
    → length before.durations ≡ TASKS → (k : ℕ) → numbers_of_overload r ≡ answered 0 (pos k ∷ [])
    → (Ω : TaskSet) → ((j : ℕ) → Ω j ≡ true → read (moments_in before es ls) (k - 1) j ≡ true) → Overloads (tasks_in before es ls) Ω → ⊥
none_before before es ls bars r t z long k e Ω first o =
    let a : AcceptedInput before es ls = ((accepted_input before es ls bars).0 z).0 in
    fewest (moments_in before es ls) (proper before es ls a long) k (ap numbers_of_overload (sym (t.answer z)) ∙ e) Ω first
    (overload→ zero_at (tasks_in before es ls) (proper_whole before es ls a long) (above before es ls a long) Ω o)
