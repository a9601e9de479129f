-- How long the tasks of a list last, from a place on.
use mathlib.Core.Path.{◌≡◌, refl, ap}
use mathlib.Core.List.{List, [], ◌∷◌}
use Prim.Native.Nat.{ℕ, zero, suc, ◌+◌, ◌≤◌, ◌<◌}
use native.Mathlib.Omega.{arith}
use lib.ListN.{length, get_or, drop}
use lib.Seq.{drop-cons}
use Rattle.explanations.specs.Walks.{lasts}

module _ (ds : List ℕ) where
  pub lasts_none : lasts ds [] ≡ 0
  unfolding lasts
  lasts_none = refl

  pub lasts_more : (k : ℕ) (ks : List ℕ) → lasts ds (k ∷ ks) ≡ get_or ds k 0 + lasts ds ks
  unfolding lasts
  lasts_more k ks = refl

  -- the tasks from place i on: that at i, and those after it
  pub lasts_cons : (ks : List ℕ) (i : ℕ) → i < length ks → lasts ds (drop i ks) ≡ get_or ds (get_or ks i 0) 0 + lasts ds (drop (suc i) ks)
  unfolding lasts
  lasts_cons ks i h = ap (lasts ds) (drop-cons ks i 0 h)

  pub lasts_drop : (ks : List ℕ) (i : ℕ) → lasts ds (drop i ks) ≤ lasts ds ks
  unfolding lasts
  lasts_drop ks zero = omega arith
  lasts_drop [] (suc i) = omega arith
  lasts_drop (k ∷ ks) (suc i) = omega (arith, lasts_drop ks i)
