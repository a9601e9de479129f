-- Permutations as lists: their numbers, and the place of each number, which is the inverse.
use mathlib.Core.Path.{◌≡◌, refl, sym, ap, ◌∙◌}
use mathlib.Core.Bool.{Bool, true, false, ◌||◌}
use mathlib.Core.Logic.{◌⊎◌, inl, inr}
use mathlib.Core.List.{List, [], ◌∷◌}
use Prim.Native.Nat.{ℕ, zero, suc, ◌+◌, ◌≤◌, ◌<◌}
use native.Mathlib.Omega.{arith}
use native.Mathlib.Decide.{ℕ_discrete}
use lib.Dec.{eqb}
use lib.ListN.{length, get_or}
use borrow.Author.Tests.{ne_eqb, eq-eqb, eqb-true, eqb-false}
use Rattle.integers.specs.Orders.{index, has, Distinct, Permutes, Ordered, numbers}
use Rattle.integers.proofs.Bools.{bool, clash, or_true, or_false, or_right}

pub has_cons : (x k : ℕ) (xs : List ℕ) → has (x ∷ xs) k ≡ eqb x k || has xs k
unfolding has
has_cons x k xs = refl

pub has_nil : (k : ℕ) → has [] k ≡ false
unfolding has
has_nil k = refl

pub has_here : (x : ℕ) (xs : List ℕ) → has (x ∷ xs) x ≡ true
has_here x xs = has_cons x x xs ∙ ap (λ (b : Bool). b || has xs x) (eq-eqb x x refl)

pub has_later : (x k : ℕ) (xs : List ℕ) → has xs k ≡ true → has (x ∷ xs) k ≡ true
has_later x k xs h = has_cons x k xs ∙ or_right (eqb x k) (has xs k) h

pub has_cases : (x k : ℕ) (xs : List ℕ) → has (x ∷ xs) k ≡ true → (x ≡ k) ⊎ (has xs k ≡ true)
has_cases x k xs h = elim (or_true (eqb x k) (has xs k) (sym (has_cons x k xs) ∙ h)) [ inl y ↦ inl (eqb-true x k y) | inr y ↦ inr y ]

pub has_not : (x k : ℕ) (xs : List ℕ) → has (x ∷ xs) k ≡ false → (x ≡ k → ⊥) × (has xs k ≡ false)
has_not x k xs h = let r = or_false (eqb x k) (has xs k) (sym (has_cons x k xs) ∙ h) in (eqb-false x k r.0, r.1)

-- the number at a place is in the list
pub has_at : (l : List ℕ) (j : ℕ) → j < length l → has l (get_or l j 0) ≡ true
has_at [] j q = absurd (omega arith)
has_at (x ∷ xs) zero q = has_here x xs
has_at (x ∷ xs) (suc j) q = has_later x (get_or xs j 0) xs (has_at xs j (omega arith))

index_here : (x : ℕ) (xs : List ℕ) (k : ℕ) → x ≡ k → index (x ∷ xs) k ≡ 0
unfolding index
index_here x xs k z = let y : eqb x k ≡ true = eq-eqb x k z in rw (y, index)

index_later : (x : ℕ) (xs : List ℕ) (k : ℕ) → (x ≡ k → ⊥) → index (x ∷ xs) k ≡ suc (index xs k)
unfolding index
index_later x xs k z = let y : eqb x k ≡ false = ne_eqb x k z in rw (y, index)

-- the place of what is in the list
pub index_at : (l : List ℕ) (k : ℕ) → has l k ≡ true → (index l k < length l) × (get_or l (index l k) 0 ≡ k)
index_at [] k h = clash h (has_nil k)
index_at (x ∷ xs) k h = elim (ℕ_discrete x k) [
  | yes z ↦ rw (index_here x xs k z) (omega arith, z)
  | no z ↦ rw (index_later x xs k z) (elim (has_cases x k xs h) [ inl y ↦ absurd (z y) | inr y ↦ (let r = index_at xs k y in (omega (arith, r.0), r.1)) ])
]

-- and the place of the number at a place, where no number occurs twice
pub index_back : (l : List ℕ) → Distinct l → (j : ℕ) → j < length l → index l (get_or l j 0) ≡ j
index_back [] d j q = absurd (omega arith)
index_back (x ∷ xs) d zero q = index_here x xs x refl
index_back (x ∷ xs) d (suc j) q = index_later x xs (get_or xs j 0) (λ z. clash (rw (← z) at (has_at xs j (omega arith))) d.0) ∙ ap suc (index_back xs d.1 j (omega arith))

-- A permutation, with the places as its inverse.
pub permuted : (n : ℕ) (l : List ℕ) (by : ℕ → ℕ → Type 0) → Permutes n l → ((s t : ℕ) → s ≤ t → t < n → by (get_or l s 0) (get_or l t 0)) → Ordered n (λ t. get_or l t 0) (λ k. index l k) by
permuted n l by p h = record {
  task = λ t q. p.below (get_or l t 0) (has_at l t (omega (arith, p.size)));
  placed = λ k q. let r = index_at l k (p.every k q) in omega (arith, r.0, p.size);
  there = λ k q. (index_at l k (p.every k q)).1;
  back = λ t q. index_back l p.distinct t (omega (arith, p.size));
  sorted = h;
}

-- The numbers from a on, d of them.
pub numbers_length : (a d : ℕ) → length (numbers a d) ≡ d
unfolding numbers
numbers_length a zero = refl
numbers_length a (suc d) = ap suc (numbers_length (suc a) d)

pub numbers_below : (a d k : ℕ) → has (numbers a d) k ≡ true → (a ≤ k) × (k < a + d)
unfolding numbers
numbers_below a zero k h = clash h (has_nil k)
numbers_below a (suc d) k h = elim (has_cases a k (numbers (suc a) d) h)
    [ inl z ↦ (omega arith, omega arith) | inr y ↦ (let r = numbers_below (suc a) d k y in (omega (arith, r.0), omega (arith, r.1))) ]

numbers_every : (a d k : ℕ) → a ≤ k → k < a + d → has (numbers a d) k ≡ true
unfolding numbers
numbers_every a zero k p q = absurd (omega arith)
numbers_every a (suc d) k p q = elim (ℕ_discrete a k) [
  | yes z ↦ has_cons a k (numbers (suc a) d)
      ∙ ap (λ (b : Bool). b || has (numbers (suc a) d) k) (eq-eqb a k z)
  | no z ↦ has_later a k (numbers (suc a) d) (numbers_every (suc a) d k (omega arith) (omega arith))
]

numbers_distinct : (a d : ℕ) → Distinct (numbers a d)
unfolding numbers
numbers_distinct a zero = tt
numbers_distinct a (suc d) = (elim (bool (has (numbers (suc a) d) a)) [ inl y ↦ absurd (omega (arith, (numbers_below (suc a) d a y).0)) | inr y ↦ y ], numbers_distinct (suc a) d)

pub numbers_permute : (n : ℕ) → Permutes n (numbers 0 n)
numbers_permute n = record {
  size = numbers_length 0 n;
  below = λ k h. let r = numbers_below 0 n k h in
      omega (arith, r.1);
  every = λ k q. numbers_every 0 n k (omega arith) (omega arith);
  distinct = numbers_distinct 0 n;
}
