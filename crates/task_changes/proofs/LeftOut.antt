-- Lists with one number left out.
use mathlib.Core.Path.{◌≡◌, refl, ap}
use mathlib.Core.List.{List, [], ◌∷◌, ◌++◌}
use Prim.Native.Nat.{ℕ, zero, suc, ◌+◌, ◌≤◌, ◌<◌}
use native.Mathlib.Omega.{arith}
use lib.ListN.{length, get_or}
use Rattle.task_changes.specs.Lists.{without}

pub without_nil : (t : ℕ) → without [] t ≡ []
unfolding without
without_nil t = refl

-- one number more changes nothing, where it is the one that is left out
pub without_same : (l : List ℕ) (x t : ℕ) → t ≡ length l → without (l ++ (x ∷ [])) t ≡ without l t
unfolding without
without_same [] x zero h = refl
without_same [] x (suc t) h = absurd (omega arith)
without_same (y ∷ ys) x zero h = absurd (omega arith)
without_same (y ∷ ys) x (suc t) h = ap (λ (m : List ℕ). y ∷ m) (without_same ys x t (omega arith))

pub without_more : (l : List ℕ) (x t : ℕ) → (t ≡ length l → ⊥) → without (l ++ (x ∷ [])) t ≡ without l t ++ (x ∷ [])
unfolding without
without_more [] x zero h = absurd (h refl)
without_more [] x (suc t) h = refl
without_more (y ∷ ys) x zero h = refl
without_more (y ∷ ys) x (suc t) h = ap (λ (m : List ℕ). y ∷ m) (without_more ys x t (λ z. h (ap suc z)))

pub without_few : (l : List ℕ) (t : ℕ) → length (without l t) ≤ length l
unfolding without
without_few [] t = omega arith
without_few (x ∷ xs) zero = omega arith
without_few (x ∷ xs) (suc t) = omega (arith, without_few xs t)

-- the numbers before the one that is left out, and those after it
pub without_before : (l : List ℕ) (t k : ℕ) → k < t → get_or (without l t) k 0 ≡ get_or l k 0
unfolding without
without_before [] t k h = refl
without_before (x ∷ xs) zero k h = absurd (omega arith)
without_before (x ∷ xs) (suc t) zero h = refl
without_before (x ∷ xs) (suc t) (suc k) h = without_before xs t k (omega arith)

pub without_after : (l : List ℕ) (t k : ℕ) → t ≤ k → get_or (without l t) k 0 ≡ get_or l (suc k) 0
unfolding without
without_after [] t k h = refl
without_after (x ∷ xs) zero k h = refl
without_after (x ∷ xs) (suc t) zero h = absurd (omega arith)
without_after (x ∷ xs) (suc t) (suc k) h = without_after xs t k (omega arith)

pub without_length : (l : List ℕ) (t : ℕ) → t < length l → length (without l t) + 1 ≡ length l
unfolding without
without_length [] t h = absurd (omega arith)
without_length (x ∷ xs) zero h = omega arith
without_length (x ∷ xs) (suc t) h = omega (arith, without_length xs t (omega arith))

-- what holds of every number of a list holds of every one that remains
pub without_all : (P : ℕ → Type 0) (l : List ℕ) (t : ℕ) → ((k : ℕ) → k < length l → P (get_or l k 0)) → (k : ℕ) → k < length (without l t) → P (get_or (without l t) k 0)
unfolding without
without_all P [] t h k q = absurd (omega arith)
without_all P (x ∷ xs) zero h k q = h (suc k) (omega arith)
without_all P (x ∷ xs) (suc t) h zero q = h 0 (omega arith)
without_all P (x ∷ xs) (suc t) h (suc k) q = without_all P xs t (λ j s. h (suc j) (omega arith)) k (omega arith)
