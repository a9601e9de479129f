-- A run or a mirrored pass that answers a kind below 3, or makes a post, was not refused.
use mathlib.Core.Path.{◌≡◌, ap}
use Prim.Native.Nat.{ℕ, ◌<◌}
use native.Mathlib.Omega.{arith}
use native.Mathlib.Decide.{ℕ_discrete}
use lib.IntN.{pos, nat_abs}
use lib.ListN.{get_or}
use Rattle.integers.specs.Answers.{Answer, refused_by}
use Rattle.runs.specs.declared.outcome.Outcome.{Outcome}
use Rattle.runs.specs.Outcomes.{outcome_numbers, value_of}

module _ (answer : Outcome) (number : ℕ) (refused : (number ≡ 0 → ⊥) → outcome_numbers answer ≡ refused_by number) where
  pub by_kind : (outcome_numbers answer).kind < 3 → number ≡ 0
  by_kind q = elim (ℕ_discrete number 0) [
    | yes z ↦ z
    | no n ↦ absurd (omega (arith, q, ap (λ (a : Answer). a.kind) (refused n)))
  ]

  pub by_post : (j : ℕ) → j < value_of answer 0 → number ≡ 0
  by_post j q = elim (ℕ_discrete number 0) [
    | yes z ↦ z
    | no n ↦ absurd (omega (arith, q, ap (λ (a : Answer). nat_abs (get_or a.values 0 (pos 0))) (refused n)))
  ]
