-- The walk at four leaves: what it meets.
use Rattle.std.specs.Prelude.{◌≡◌, refl, Bool, not, [], ◌∷◌, ℕ, zero, suc, ◌+◌, ◌<◌, eqb, get_or}
use Rattle.std.proofs.Common.{arith}
use Rattle.trees.specs.Searches.{theta_of}
use Rattle.trees.specs.ArraySearches.{Next}
use Rattle.explanations.specs.Walks.{Walks}

-- of four leaves with the tasks 3, 0, 2, 1 the second is not white: the walk meets leaves 0, 2 and 3, and then no more
abbrev white : ℕ → Bool
white k = not (eqb k 1)

abbrev task : ℕ → ℕ
task k = get_or (3 ∷ 0 ∷ 2 ∷ 1 ∷ []) k 0

abbrev leaf : ℕ → ℕ
leaf j = get_or (0 ∷ 2 ∷ 3 ∷ []) j 4

tasks_met : theta_of white task 0 4 ≡ task (leaf 0) ∷ task (leaf 1) ∷ task (leaf 2) ∷ []
unfolding theta_of
tasks_met = refl

walk_met : Walks white 0 4 leaf
walk_met = record { first = record { from = omega arith; to = omega arith; passed = λ x s h. absurd (omega arith); found = λ _. refl }; next = next }
  where
    next : (j : ℕ) → leaf j < 4 → Next white (leaf j + 1) 4 (leaf (j + 1))
    next zero h = record { from = omega arith; to = omega arith; passed = λ x s t. (let z : x ≡ 1 = omega arith in rw z refl); found = λ _. refl }
    next (suc zero) h = record { from = omega arith; to = omega arith; passed = λ x s t. absurd (omega arith); found = λ _. refl }
    next (suc (suc zero)) h = record { from = omega arith; to = omega arith; passed = λ x s t. absurd (omega arith); found = λ t. absurd (omega arith) }
    next (suc (suc (suc j))) h = absurd (omega arith)
