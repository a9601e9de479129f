-- What the code holds: members in an array, a bound, and a reason in words, over moments.
use Rattle.std.specs.Prelude.{◌≡◌, Bool, true, false, Option, Ok, List, [], ◌∷◌, ℕ, ℤ, get_or}
use Rattle.integers.specs.Answers.{answered}
use Rattle.integers.specs.Moments.{instant, zero_at}
use Rattle.scheduling.specs.Scheduling.{natural, Tasks, TaskSet, Atom}
use Rattle.post_words.specs.StoredAtoms.{Stored}
use Rattle.trees.specs.Ects.{exceeds, raised_to}
use Rattle.precedences.specs.PredecessorArrays.{comes_before, bound_at}
use Rattle.precedences.specs.ReasonNumbers.{numbers_of_bound}
use Rattle.precedences.specs.Reasons.{at_least, both_bounds}

-- member k of an array
abbrev pub member_at : List Bool → TaskSet
member_at members k = get_or members k false

-- The answer about task i's bound: the bound where it is above the earliest start, else that there is none.
pub record BoundLeft (J : Tasks natural) (i : ℕ) (r : Option ℤ) : Type 0 where
  pub raised : exceeds (bound_at J i) (J.earliest i) ≡ true → numbers_of_bound (Ok r) ≡ answered 0 (instant zero_at (raised_to (J.earliest i) (bound_at J i)) ∷ [])
  pub none : exceeds (bound_at J i) (J.earliest i) ≡ false → numbers_of_bound (Ok r) ≡ answered 1 []

-- The reason of task i's bound, over moments, and the words ws after the call. They are unchanged where the bound is not above the earliest start. Otherwise
-- the reason is at the front.
abbrev pub reason_at : Tasks natural → ℕ → List Atom
reason_at J i = at_least i (instant zero_at (J.earliest i)) ∷ both_bounds (λ k. instant zero_at (J.earliest k)) (λ k. instant zero_at (J.latest k))
    (comes_before J i) J.count

pub record ReasonLeft (J : Tasks natural) (i : ℕ) (ws : List ℤ) (count : ℕ) (ws' : List ℤ) : Type 0 where
  pub written : exceeds (bound_at J i) (J.earliest i) ≡ true → Stored ws ws' 0 count (reason_at J i)
  pub nothing : exceeds (bound_at J i) (J.earliest i) ≡ false → (count ≡ 0) × (ws' ≡ ws)
