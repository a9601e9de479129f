-- A reason has at most two atoms for each task of Θ, and one more where it is that of a post.
use mathlib.Core.Path.{◌≡◌, refl}
use mathlib.Core.List.{List, [], ◌∷◌}
use mathlib.Core.Logic.{inl, inr}
use Prim.Native.Nat.{ℕ, ◌+◌, ◌-◌, ◌*◌, ◌≤◌, min}
use native.Mathlib.Omega.{arith}
use lib.Dec.{eqb, ltb}
use lib.ListN.{length, length-append}
use Rattle.integers.proofs.Bools.{bool}
use Rattle.scheduling.specs.Scheduling.{natural, Tasks}
use Rattle.runs.specs.Runs.{within, conflict, bounds, propagation, propagation_of}

module _ (o : ℕ) (J : Tasks natural) where
  pub within_length : (low high : ℕ) (ks : List ℕ) → length (within o J low high ks) ≡ 2 * length ks
  unfolding within
  within_length low high [] = refl
  within_length low high (k ∷ ks) = omega (arith, within_length low high ks)

  pub conflict_length : (lct p : ℕ) (ks : List ℕ) → length (conflict o J lct p ks) ≤ 2 * length ks
  unfolding conflict
  conflict_length lct p [] = omega arith
  conflict_length lct p (k ∷ []) = rw within_length (omega arith)
  conflict_length lct p (k ∷ j ∷ ks) = elim (bool (ltb lct (J.earliest k + p))) [
    | inl y ↦ rw (y, conflict, within_length) (omega arith)
    | inr y ↦ rw (y, conflict) (omega (arith, conflict_length lct (p - J.duration k) (j ∷ ks)))
  ]

  pub bounds_length : (b r last p : ℕ) (ks : List ℕ) → length (bounds o J b r last p ks) ≡ 2 * length ks
  unfolding bounds
  bounds_length b r last p [] = refl
  bounds_length b r last p (k ∷ ks) = elim (bool (eqb b (J.earliest k + p))) [
    | inl y ↦ rw (y, bounds, within_length)
    | inr y ↦ rw (y, bounds) (omega (arith, bounds_length b r last (p - J.duration k) ks))
  ]

  propagation_of_length : (i b p r : ℕ) (ks : List ℕ) → length (propagation_of o J i b p r ks) ≡ 2 * length ks + 1
  propagation_of_length i b p r ks = rw (length-append, bounds_length)

  pub propagation_length : (i b lct p : ℕ) (ks : List ℕ) → length (propagation o J i b lct p ks) ≤ 2 * length ks + 1
  unfolding propagation
  propagation_length i b lct p [] = omega arith
  propagation_length i b lct p (k ∷ ks) = elim (bool (ltb lct (min (J.earliest i) (J.earliest k) + p + J.duration i))) [
    | inl y ↦ rw (y, propagation, propagation_of_length) (omega arith)
    | inr y ↦ rw (y, propagation) (omega (arith, propagation_length i b lct (p - J.duration k) ks))
  ]
