-- Ties go to the lower task number in both orders of a run.
use mathlib.Core.Path.{◌≡◌, sym, subst, ◌∙◌}
use mathlib.Core.Bool.{Bool, true, false}
use mathlib.Core.Logic.{◌⊎◌, inl, inr}
use mathlib.Core.List.{List, [], ◌∷◌}
use Prim.Native.Nat.{ℕ, zero, suc, ◌≤◌, ◌<◌}
use native.Mathlib.Omega.{arith}
use lib.ListN.{length, get_or}
use borrow.Author.Tests.{le-leb}
use Rattle.integers.specs.Orders.{insert, sort, has, numbers}
use Rattle.integers.proofs.Bools.{bool, clash}
use Rattle.integers.proofs.Permutations.{has_nil, has_cases, has_later, has_here, has_at, numbers_permute}
use Rattle.integers.proofs.StableSort.{insert_on, insert_by, insert_nil, sort_nil, sort_cons, sort_has, sort_length}
use Rattle.scheduling.specs.Scheduling.{natural, Tasks, completion}
use Rattle.runs.specs.Runs.{by_earliest, by_completion, earliest_order, completion_order}

above : (a d k : ℕ) → has (numbers a d) k ≡ true → a ≤ k
unfolding numbers
above a zero k h = clash h (has_nil k)
above a (suc d) k h = elim (has_cases a k (numbers (suc a) d) h) [ inl e ↦ omega (arith, e) | inr q ↦ omega (arith, above (suc a) d k q) ]

module _ (le : ℕ → ℕ → Bool) where
  -- a number that a later one may stand before too is below that one
  abbrev Ties : List ℕ → Type 0
  Ties [] = Unit {0}
  Ties (x ∷ xs) = ((k : ℕ) → has xs k ≡ true → le k x ≡ true → x < k) × Ties xs

  in_insert : (x : ℕ) (l : List ℕ) (k : ℕ) → has (insert le x l) k ≡ true → (x ≡ k) ⊎ (has l k ≡ true)
  in_insert x [] k h = has_cases x k [] (subst (λ (l : List ℕ). has l k ≡ true) (insert_nil le x) h)
  in_insert x (y ∷ ys) k h = elim (bool (le x y)) [
    | inl z ↦ has_cases x k (y ∷ ys) (subst (λ (l : List ℕ). has l k ≡ true) (insert_on le x y ys z) h)
    | inr z ↦ elim (has_cases y k (insert le x ys) (subst (λ (l : List ℕ). has l k ≡ true) (insert_by le x y ys z) h)) [
      | inl e ↦ inr (subst (λ (j : ℕ). has (y ∷ ys) j ≡ true) e (has_here y ys))
      | inr r ↦ elim (in_insert x ys k r) [ inl e ↦ inl e | inr q ↦ inr (has_later y k ys q) ]
    ]
  ]

  -- which stays when a number goes in that is below all others
  insert_ties : (x : ℕ) (l : List ℕ) → ((k : ℕ) → has l k ≡ true → x < k) → Ties l → Ties (insert le x l)
  insert_ties x [] below t = subst Ties (sym (insert_nil le x)) (λ k h q. clash h (has_nil k), tt)
  insert_ties x (y ∷ ys) below t = by (insert_ties x ys (λ k h. below k (has_later y k ys h)) t.1) (bool (le x y))
    where
      later : le x y ≡ false → (k : ℕ) → (x ≡ k) ⊎ (has ys k ≡ true) → le k y ≡ true → y < k
      later z k (inl e) q = clash (subst (λ (j : ℕ). le j y ≡ true) (sym e) q) z
      later z k (inr h) q = t.0 k h q

      by : Ties (insert le x ys) → (le x y ≡ true) ⊎ (le x y ≡ false) → Ties (insert le x (y ∷ ys))
      by ih (inl z) = subst Ties (sym (insert_on le x y ys z)) (λ k h q. below k h, t)
      by ih (inr z) = subst Ties (sym (insert_by le x y ys z)) (λ k h q. later z k (in_insert x ys k h) q, ih)

  -- so the sort of numbers that rise has it
  sort_ties : (a d : ℕ) → Ties (sort le (numbers a d))
  unfolding numbers
  sort_ties a zero = subst Ties (sym (sort_nil le)) tt
  sort_ties a (suc d) = subst Ties (sym (sort_cons le a (numbers (suc a) d)))
      (insert_ties a (sort le (numbers (suc a) d)) (λ k h. above (suc a) d k (sym (sort_has le (numbers (suc a) d) k) ∙ h)) (sort_ties (suc a) d))

  ties_at : (l : List ℕ) → Ties l → (s t : ℕ) → s < t → t < length l → le (get_or l t 0) (get_or l s 0) ≡ true → get_or l s 0 < get_or l t 0
  ties_at [] h s t q r e = absurd (omega arith)
  ties_at (x ∷ xs) h s zero q r e = absurd (omega arith)
  ties_at (x ∷ xs) h zero (suc t) q r e = h.0 (get_or xs t 0) (has_at xs t (omega arith)) e
  ties_at (x ∷ xs) h (suc s) (suc t) q r e = ties_at xs h.1 s t (omega arith) (omega arith) e

  pub by_number : (n s t : ℕ) → s < t → t < n → le (get_or (sort le (numbers 0 n)) t 0) (get_or (sort le (numbers 0 n)) s 0) ≡ true → get_or (sort le (numbers 0 n)) s 0 < get_or (sort le (numbers 0 n)) t 0
  by_number n s t q r e = ties_at (sort le (numbers 0 n)) (sort_ties 0 n) s t q (omega (arith, sort_length le (numbers 0 n), (numbers_permute n).size)) e

-- Of two tasks with one earliest start, the first order has the lower number first;
pub earliest_ties : (J : Tasks natural) (s t : ℕ) → s < t → t < J.count → J.earliest (get_or (earliest_order J) t 0) ≤ J.earliest (get_or (earliest_order J) s 0)
    → get_or (earliest_order J) s 0 < get_or (earliest_order J) t 0
earliest_ties J s t q r e = by_number (by_earliest J) J.count s t q r (le-leb _ _ e)

-- and of two with one latest completion, so has the second.
pub completion_ties : (J : Tasks natural) (s t : ℕ) → s < t → t < J.count → completion J (get_or (completion_order J) s 0) ≤ completion J (get_or (completion_order J) t 0)
    → get_or (completion_order J) s 0 < get_or (completion_order J) t 0
completion_ties J s t q r e = by_number (by_completion J) J.count s t q r (le-leb _ _ e)
