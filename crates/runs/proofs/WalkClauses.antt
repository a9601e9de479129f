-- The clauses of the reasons: what each walk over the tasks does at the task where it stands.
use mathlib.Core.Path.{◌≡◌, refl}
use mathlib.Core.Bool.{true, false}
use mathlib.Core.List.{List, [], ◌∷◌}
use Prim.Native.Nat.{ℕ, ◌+◌, ◌-◌, min}
use lib.Dec.{eqb, ltb}
use Rattle.scheduling.specs.Scheduling.{natural, Tasks}
use Rattle.runs.specs.Runs.{at_least, at_most, within, conflict, conflict_of, bounds, propagation, propagation_of}

module _ (o : ℕ) (J : Tasks natural) where
  pub within_none : (low high : ℕ) → within o J low high [] ≡ []
  unfolding within
  within_none low high = refl

  pub within_more : (low high k : ℕ) (ks : List ℕ) → within o J low high (k ∷ ks) ≡ at_least o J k low ∷ at_most o J k (high - J.duration k) ∷ within o J low high ks
  unfolding within
  within_more low high k ks = refl

  -- the walk to an overload stops where the tasks from k on pass lct, and at the last task
  pub conflict_none : (lct p : ℕ) → conflict o J lct p [] ≡ []
  unfolding conflict
  conflict_none lct p = refl

  pub conflict_last : (lct p k : ℕ) → conflict o J lct p (k ∷ []) ≡ conflict_of o J lct p (J.earliest k) (k ∷ [])
  unfolding conflict
  conflict_last lct p k = refl

  pub conflict_hit : (lct p k : ℕ) (ks : List ℕ) → ltb lct (J.earliest k + p) ≡ true → conflict o J lct p (k ∷ ks) ≡ conflict_of o J lct p (J.earliest k) (k ∷ ks)
  unfolding conflict
  conflict_hit lct p k [] y = refl
  conflict_hit lct p k (j ∷ ks) y = rw (y, conflict)

  pub conflict_miss : (lct p k j : ℕ) (ks : List ℕ) → ltb lct (J.earliest k + p) ≡ false → conflict o J lct p (k ∷ j ∷ ks) ≡ conflict o J lct (p - J.duration k) (j ∷ ks)
  unfolding conflict
  conflict_miss lct p k j ks y = rw (y, conflict)

  -- the first walk of a post's reason stops where i cannot go before the tasks from k on
  module _ (i b lct p : ℕ) where
    pub propagation_none : propagation o J i b lct p [] ≡ []
    unfolding propagation
    propagation_none = refl

    pub propagation_hit : (k : ℕ) (ks : List ℕ) → ltb lct (min (J.earliest i) (J.earliest k) + p + J.duration i) ≡ true
        → propagation o J i b lct p (k ∷ ks) ≡ propagation_of o J i b p (min (J.earliest i) (J.earliest k)) (k ∷ ks)
    unfolding propagation
    propagation_hit k ks y = rw (y, propagation)

    pub propagation_miss : (k : ℕ) (ks : List ℕ) → ltb lct (min (J.earliest i) (J.earliest k) + p + J.duration i) ≡ false
        → propagation o J i b lct p (k ∷ ks) ≡ propagation o J i b lct (p - J.duration k) ks
    unfolding propagation
    propagation_miss k ks y = rw (y, propagation)

  -- and the second where they give the bound
  module _ (b r last p : ℕ) where
    pub bounds_none : bounds o J b r last p [] ≡ []
    unfolding bounds
    bounds_none = refl

    pub bounds_hit : (k : ℕ) (ks : List ℕ) → eqb b (J.earliest k + p) ≡ true → bounds o J b r last p (k ∷ ks) ≡ within o J (b - p) last (k ∷ ks)
    unfolding bounds
    bounds_hit k ks y = rw (y, bounds)

    pub bounds_miss : (k : ℕ) (ks : List ℕ) → eqb b (J.earliest k + p) ≡ false
        → bounds o J b r last p (k ∷ ks) ≡ at_least o J k r ∷ at_most o J k (last - J.duration k) ∷ bounds o J b r last (p - J.duration k) ks
    unfolding bounds
    bounds_miss k ks y = rw (y, bounds)
