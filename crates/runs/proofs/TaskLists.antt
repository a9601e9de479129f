-- A list with one value for each task: its length, the value of a task, and when another list is the same.
use mathlib.Core.Path.{◌≡◌, refl, sym, ap, ap₂, ◌∙◌}
use mathlib.Core.List.{List, [], ◌∷◌, map}
use Prim.Native.Nat.{ℕ, zero, suc, ◌+◌, ◌<◌}
use native.Mathlib.Omega.{arith}
use lib.IntN.{ℤ, pos}
use lib.ListN.{length, get_or}
use Rattle.integers.specs.Moments.{instant}
use Rattle.runs.specs.Runs.{tabulate}

pub tab_length : {A : Type 0} (f : ℕ → A) (a d : ℕ) → length (tabulate f a d) ≡ d
unfolding tabulate
tab_length f a zero = refl
tab_length f a (suc d) = ap suc (tab_length f (suc a) d)

pub tab_at : {A : Type 0} (f : ℕ → A) (a d k : ℕ) (none : A) → k < d → get_or (tabulate f a d) k none ≡ f (a + k)
unfolding tabulate
tab_at f a zero k none q = absurd (omega arith)
tab_at f a (suc d) zero none q = let z : a ≡ a + 0 = omega arith in ap f z
tab_at f a (suc d) (suc k) none q = let z : suc a + k ≡ a + suc k = omega arith in tab_at f (suc a) d k none (omega arith) ∙ ap f z

pub tab_map : {A B : Type 0} (f : A → B) (g : ℕ → A) (a d : ℕ) → map f (tabulate g a d) ≡ tabulate (λ k. f (g k)) a d
unfolding tabulate
tab_map f g a zero = refl
tab_map {A} {B} f g a (suc d) = ap (λ (l : List B). f (g a) ∷ l) (tab_map f g (suc a) d)

-- numbers that come back from their moments
pub tabulated : (o : ℕ) (xs : List ℤ) (f : ℕ → ℕ) (b : ℕ) → ((k : ℕ) → k < length xs → instant o (f (b + k)) ≡ get_or xs k (pos 0)) → xs ≡ map (instant o) (tabulate f b (length xs))
unfolding tabulate
tabulated o [] f b h = refl
tabulated o (x ∷ xs) f b h = ap₂ (λ (y : ℤ) (l : List ℤ). y ∷ l) (sym (h 0 (omega arith)) ∙ ap (λ (k : ℕ). instant o (f k)) here)
    (tabulated o xs f (suc b) (λ k q. ap (λ (j : ℕ). instant o (f j)) (there k) ∙ h (suc k) (omega arith)))
  where
    here : b + 0 ≡ b
    here = omega arith

    there : (k : ℕ) → suc b + k ≡ b + suc k
    there k = omega arith
