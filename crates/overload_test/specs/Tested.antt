-- The contract of the overload test: what it answers, and what that means for sets of tasks.
use Rattle.std.specs.Prelude.{◌≡◌, Bool, Option, Result, Ok, List, [], ◌∷◌, ◌↔◌, ℕ, ◌≤◌, ℤ, pos}
use Rattle.integers.specs.declared.refused.Refusal.{Refusal}
use Rattle.integers.specs.Answers.{answered, refused_by}
use Rattle.scheduling.specs.Scheduling.{TaskSet, Overloads}
use Rattle.records.specs.declared.record.DisjunctivePropagator.{DisjunctivePropagator}
use Rattle.records.specs.Records.{tasks_in, moments_in}
use Rattle.records.specs.Refusals.{input_number}
use Rattle.overload_test.specs.ReadTasks.{answer_of}
use Rattle.overload_test.specs.Numbers.{numbers_of_overload}

-- On ranges whose bars fit if `bars`: the first test that fails refuses the input; else the answer is the definition's. It is yes, with the number of tasks
-- read, exactly where some set of all the tasks overloads, and no exactly where none does.
pub record OverloadTested (before : DisjunctivePropagator) (es ls : List ℤ) (bars : Bool) (r : Result (Option ℕ) Refusal) : Type 0 where
  pub refused : (input_number before es ls bars ≡ 0 → ⊥) → numbers_of_overload r ≡ refused_by (input_number before es ls bars)
  pub answer : input_number before es ls bars ≡ 0 → r ≡ Ok (answer_of (moments_in before es ls))
  pub yes : input_number before es ls bars ≡ 0 → ((k : ℕ) × (numbers_of_overload r ≡ answered 0 (pos k ∷ [])))
      ↔ ((Ω : TaskSet) × Overloads (tasks_in before es ls) Ω)
  pub no : input_number before es ls bars ≡ 0 → (numbers_of_overload r ≡ answered 1 []) ↔ ((Ω : TaskSet) → Overloads (tasks_in before es ls) Ω → ⊥)
  pub many : (k : ℕ) → numbers_of_overload r ≡ answered 0 (pos k ∷ []) → (1 ≤ k) × (k ≤ before.count)
