-- As many ranges as a count asks for, and all of an array's where it has fewer: the two take and leave the same ranges of the array.
use mathlib.Core.List.{List, ◌++◌}
use mathlib.Core.Logic.{◌⊎◌, inl, inr, ⊎_elim}
use mathlib.Core.Path.{◌≡◌, ap, subst, sym, ◌∙◌}
use Prim.Native.Nat.{ℕ, ◌≤◌, ◌<◌}
use native.Mathlib.Omega.{arith}
use lib.Dec.{leb}
use lib.ListN.{length, take, drop, length-append, length-drop}
use Rattle.std.proofs.lemmas.Slice.{drop-append-drop}
use lib.Seq.{length-take-le, take_all, take_at}
use borrow.Author.Tests.{le-leb, lt-leb, leb-true, leb-false}
use Rattle.integers.proofs.Bools.{bool}
use Rattle.ranges.specs.declared.range.Range.{Range}
use Rattle.disjunctive.specs.declared.by_value.Ranges.{Ranges}
use Rattle.disjunctive.specs.GivenRanges.{RANGES, lent_of, given, StoredIn}

pub lent_few : (n : ℕ) → n ≤ RANGES → lent_of n ≡ n
unfolding lent_of
lent_few n h = simp (le-leb n RANGES h)

pub lent_all : (n : ℕ) → RANGES < n → lent_of n ≡ RANGES
unfolding lent_of
lent_all n h = simp (lt-leb n RANGES h)

few_or_all : (n : ℕ) → (n ≤ RANGES) ⊎ (RANGES < n)
few_or_all n = ⊎_elim (λ y. inl (leb-true n RANGES y)) (λ y. inr (leb-false n RANGES y)) (bool (leb n RANGES))

lent_fits : (n : ℕ) → lent_of n ≤ RANGES
lent_fits n = ⊎_elim (λ h. omega (arith, lent_few n h)) (λ h. omega (arith, lent_all n h)) (few_or_all n)

lent_least : (n : ℕ) → lent_of n ≤ n
lent_least n = ⊎_elim (λ h. omega (arith, lent_few n h)) (λ h. omega (arith, lent_all n h)) (few_or_all n)

module _ (n : ℕ) (ys : List Range) (size : length ys ≡ RANGES) where
  lent_take : take (lent_of n) ys ≡ take n ys
  lent_take = ⊎_elim (λ h. ap (λ (k : ℕ). take k ys) (lent_few n h))
      (λ h. ap (λ (k : ℕ). take k ys) (lent_all n h) ∙ take_all RANGES ys (omega arith) ∙ sym (take_all n ys (omega arith))) (few_or_all n)

module _ (x : Ranges) (size : length x.ranges ≡ RANGES) (n : ℕ) (lent : n ≡ lent_of x.count) where
  -- the ranges that are lent are there, and are those that the call is given
  pub lent_there : n ≤ length x.ranges
  lent_there = omega (arith, lent_fits x.count)

  pub lent_length : n ≡ length (take n x.ranges)
  lent_length = sym (length-take-le n x.ranges lent_there)

  pub lent_given : take n x.ranges ≡ given x
  lent_given = ap (λ (k : ℕ). take k x.ranges) lent ∙ lent_take x.count x.ranges size

  -- a call that stores starts leaves ys in the ranges that are lent
  pub stored_in : (P : List Range → List Range → Type 0) (ys : List Range) → length ys ≡ length (take n x.ranges) → P (take n x.ranges) ys → StoredIn x (ys ++ drop n x.ranges) P
  stored_in P ys same holds =
      let long : length ys ≡ n = same ∙ sym lent_length in
      let all : length (ys ++ drop n x.ranges) ≡ RANGES = omega (arith, length-append ys (drop n x.ranges), length-drop n x.ranges, lent_there) in
      let left : take x.count (ys ++ drop n x.ranges) ≡ ys =
      sym (ap (λ (k : ℕ). take k (ys ++ drop n x.ranges)) lent ∙ lent_take x.count (ys ++ drop n x.ranges) all) ∙ take_at ys (drop n x.ranges) n long in
      record {
        promise = subst (λ (zs : List Range). P (given x) zs) (sym left) (subst (λ (zs : List Range). P zs ys) lent_given holds);
        others = drop-append-drop n x.ranges ys x.count (omega (arith, lent_least x.count)) long;
      }
