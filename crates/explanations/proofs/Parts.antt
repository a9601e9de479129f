-- Parts of a list of tasks: what holds of each task holds of those of a part, and where a walk over the list first stops in it.
use mathlib.Core.List.{List, ◌∷◌}
use Prim.Native.Nat.{ℕ, suc, ◌+◌, ◌<◌}
use native.Mathlib.Omega.{arith}
use lib.ListN.{length, get_or, take, drop, length-take, length-drop}
use lib.Seq.{get_or-drop, get_or-take}
use Rattle.explanations.specs.Walks.{lasts, Each, First}

module _ (P : ℕ → Type 0) (ks : List ℕ) (h : Each P ks) (i : ℕ) where
  pub each_drop : Each P (drop i ks)
  each_drop x s = rw get_or-drop (h (i + x) (omega (arith, length-drop i ks)))

  pub each_take : Each P (take i ks)
  each_take x s = let q : x < i = omega (arith, length-take i ks) in rw get_or-take (h x (omega (arith, length-take i ks)))

module _ (P : ℕ → ℕ → Type 0) (ds : List ℕ) where
  -- a first place that is not the list's first is one of the rest
  pub first_tail : (k : ℕ) (ks : List ℕ) (x q : ℕ) → First P ds (k ∷ ks) (suc x) q → First P ds ks x q
  first_tail k ks x q f = record { small = omega (arith, f.small); rest = f.rest; holds = f.holds; before = λ y h a. f.before (suc y) (omega arith) a }

-- where two walks ask the same of each task, they stop at the same place
pub first_same : (P Q : ℕ → ℕ → Type 0) (ds ks : List ℕ) (x q : ℕ) → ((y r : ℕ) → y < length ks → P (get_or ks y 0) r → Q (get_or ks y 0) r)
    → ((y r : ℕ) → y < length ks → Q (get_or ks y 0) r → P (get_or ks y 0) r)
    → First P ds ks x q → First Q ds ks x q
first_same P Q ds ks x q to from f = record
    { small = f.small; rest = f.rest; holds = to x q f.small f.holds; before = λ y h a. f.before y h (from y (lasts ds (drop y ks)) (omega (arith, f.small)) a) }
