-- One task's bound as an answer: where it is above the earliest start, what refuses the call, and what the answer means.
use Rattle.std.specs.Prelude.{◌≡◌, Bool, Option, Result, List, [], ◌∷◌, ◌++◌, ◌↔◌, ℕ, ltb, ℤ, ◌≤ℤ◌, ◌<ℤ◌}
use Rattle.integers.specs.declared.refused.Refusal.{Refusal}
use Rattle.integers.specs.Refused as refused
use Rattle.integers.specs.Answers.{answered, refused_by}
use Rattle.integers.specs.Tests.{Test, test, refusal}
use Rattle.scheduling.specs.Scheduling.{whole, Tasks, Schedule}
use Rattle.records.specs.declared.record.DisjunctivePropagator.{DisjunctivePropagator}
use Rattle.records.specs.Records.{tasks_in}
use Rattle.records.specs.Refusals.{input_tests}
use Rattle.precedences.specs.Predecessors.{PrecedenceBound}
use Rattle.precedences.specs.ReasonNumbers.{numbers_of_bound}

module _ (J : Tasks whole) (i : ℕ) where
  -- b is the bound of i, and above its earliest start
  pub record RaisesTo (b : ℤ) : Type 0 where
    pub is_bound : PrecedenceBound J i b
    pub above : J.earliest i <ℤ b

  -- P is not empty, and ect(P) is above i's earliest start
  abbrev pub Raises : Type 0
  Raises = (b : ℤ) × RaisesTo b

  -- An accepted call answers exactly the bound that raises i, or that there is none. It may pass the latest start, and holds in every schedule.
  pub record BoundAnswered (r : Result (Option ℤ) Refusal) : Type 0 where
    pub raised : (b : ℤ) → (numbers_of_bound r ≡ answered 0 (b ∷ [])) ↔ RaisesTo b
    pub none : (numbers_of_bound r ≡ answered 1 []) ↔ (Raises → ⊥)
    pub sound : (b : ℤ) → numbers_of_bound r ≡ answered 0 (b ∷ []) → (s : ℕ → ℤ) → Schedule J s → b ≤ℤ s i

-- A run's tests on the record and its ranges; then 17: a task that is none of the record's
abbrev pub bound_tests : DisjunctivePropagator → List ℤ → List ℤ → Bool → ℕ → List Test
bound_tests r es ls bars task = input_tests r es ls bars ++ (test refused.TASK (ltb task r.count) ∷ [])

abbrev pub bound_number : DisjunctivePropagator → List ℤ → List ℤ → Bool → ℕ → ℕ
bound_number r es ls bars task = refusal (bound_tests r es ls bars task)

-- `bars` says whether the bars of the ranges fit. The first test that fails refuses the call.
pub record BoundGiven (before : DisjunctivePropagator) (es ls : List ℤ) (bars : Bool) (task : ℕ) (r : Result (Option ℤ) Refusal) : Type 0 where
  pub refused : (bound_number before es ls bars task ≡ 0 → ⊥) → numbers_of_bound r ≡ refused_by (bound_number before es ls bars task)
  pub given : bound_number before es ls bars task ≡ 0 → BoundAnswered (tasks_in before es ls) task r
