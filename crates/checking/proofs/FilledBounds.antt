-- The arrays of bounds are filled one task after the other.
use mathlib.Core.Path.{◌≡◌, refl, sym, ap, ap₂, ◌∙◌}
use mathlib.Core.Bool.{false}
use mathlib.Core.List.{List}
use Prim.Native.Nat.{ℕ, zero, suc, ◌+◌, ◌<◌}
use native.Mathlib.Omega.{arith}
use lib.ListN.{set, replicate}
use Rattle.integers.specs.Limits.{TASKS}
use Rattle.integers.specs.FilledLists.{filled, no_tasks}
use Rattle.integers.proofs.FilledLists.{filled_none, filled_store}
use Rattle.checking.specs.declared.start_bounds.TaskBounds.{TaskBounds}
use Rattle.checking.specs.TaskBounds.{bounds_in, with_bounds, bounded_of, est_of, lst_of, unbounded, bounds_by}
use Rattle.checking.specs.declared.start_bounds.Bounds.{Bounds}
use Rattle.std.specs.Prelude.{Option}

module _ (at : ℕ → Option TaskBounds) {b : Bounds} where
  pub none_filled : b ≡ unbounded → b ≡ bounds_by at 0
  none_filled e = e ∙ λ i. bounds_in (sym (filled_none (λ k. bounded_of (at k)) (replicate TASKS false)) i) (sym (filled_none (λ k. est_of (at k)) no_tasks) i)
      (sym (filled_none (λ k. lst_of (at k)) no_tasks) i)

  pub one_filled : (k : ℕ) (t : Option TaskBounds) → t ≡ at k → b ≡ bounds_by at k → with_bounds b k t ≡ bounds_by at (k + 1)
  one_filled k t e z = λ i. bounds_in
      (filled_store (λ k. bounded_of (at k)) (replicate TASKS false) b.bounded k (bounded_of t) (ap (λ (b : Bounds). b.bounded) z) (ap bounded_of e) i)
      (filled_store (λ k. est_of (at k)) no_tasks b.est k (est_of t) (ap (λ (b : Bounds). b.est) z) (ap est_of e) i)
      (filled_store (λ k. lst_of (at k)) no_tasks b.lst k (lst_of t) (ap (λ (b : Bounds). b.lst) z) (ap lst_of e) i)

-- the same bounds fill the same arrays
filled_same : {A : Type 0} (f g : ℕ → A) (l : List A) (n : ℕ) → ((k : ℕ) → k < n → f k ≡ g k) → filled f n l ≡ filled g n l
unfolding filled
filled_same f g l zero e = refl
filled_same {A} f g l (suc n) e = ap₂ (λ (m : List A) (v : A). set m n v) (filled_same f g l n (λ k h. e k (omega arith))) (e n (omega arith))

pub bounds_same : (f g : ℕ → Option TaskBounds) (n : ℕ) → ((k : ℕ) → k < n → f k ≡ g k) → bounds_by f n ≡ bounds_by g n
bounds_same f g n e = λ i. bounds_in
    (filled_same (λ k. bounded_of (f k)) (λ k. bounded_of (g k)) (replicate TASKS false) n (λ k h. ap bounded_of (e k h)) i)
    (filled_same (λ k. est_of (f k)) (λ k. est_of (g k)) no_tasks n (λ k h. ap est_of (e k h)) i)
    (filled_same (λ k. lst_of (f k)) (λ k. lst_of (g k)) no_tasks n (λ k h. ap lst_of (e k h)) i)
