-- The test of the bars says when they fit.
use mathlib.Core.Path.{◌≡◌, refl, sym, ap, ◌∙◌}
use mathlib.Core.Bool.{Bool, true, false, not, ◌&&◌}
use mathlib.Core.Logic.{⊎_elim, ◌↔◌}
use mathlib.Core.List.{List, [], ◌∷◌}
use Prim.Native.Nat.{ℕ, zero, suc, ◌≤◌, ◌<◌}
use native.Mathlib.Omega.{arith}
use lib.Dec.{leb, eqb}
use mir.Syntax.{w32}
use mir.Val.{SFits, of_z}
use lib.IntN.{ℤ}
use lib.ListN.{length, get_or}
use lib.Signed.{lt_z}
use borrow.Author.Tests.{leb-true, le-leb, lt-leb, eqb-true, eqb-false}
use Rattle.integers.specs.Limits.{BARS}
use Rattle.integers.proofs.Bools.{bool, clash, and_true, and_yes, and_left, and_is}
use Rattle.integers.proofs.Ints.{ints, same_bits}
use Rattle.holes.specs.Holes.{Ascending}
use Rattle.integers.specs.WholeNumbers.{eq_z, has}
use Rattle.integers.proofs.WholeNumbers.{same_eq_z, other_eq_z, lt_lt_z, has_head, has_cases, has_none}
use Rattle.ranges.specs.declared.range.Range.{Range}
use Rattle.ranges.specs.Bars.{bars_of, ascends, bars_are_fit, all_bars_are_fit, BarsFit}
use Rattle.ranges.specs.Ranges.{any_range}

-- two numbers of 32 bits are equal where their bits are
pub eq_bits : {a b : ℤ} → SFits w32 a → SFits w32 b → eqb (of_z w32 a) (of_z w32 b) ≡ eq_z a b
eq_bits {a} {b} f g = ⊎_elim
    (λ y. y ∙ sym (same_eq_z (same_bits w32 f g (eqb-true _ _ y))))
    (λ n. n ∙ sym (other_eq_z {a = a} {b = b} (λ e. eqb-false _ _ n (ap (of_z w32) e))))
    (bool (eqb (of_z w32 a) (of_z w32 b)))

-- each below the next, so each below all that follow it
ascends_true : (bs : List ℤ) → ascends bs ≡ true → Ascending bs
unfolding ascends
ascends_true [] h = tt
ascends_true (b ∷ []) h = (λ x y. absurd (has_none x y), tt)
ascends_true (b ∷ c ∷ bs) h =
    let t = and_true (lt_z b c) (ascends (c ∷ bs)) h in
    let r = ascends_true (c ∷ bs) t.1 in
    (λ x y. ⊎_elim (λ e. omega (ints, t.0)) (λ m. omega (ints, t.0, r.0 x m)) (has_cases c bs x y), r)

true_ascends : (bs : List ℤ) → Ascending bs → ascends bs ≡ true
unfolding ascends
true_ascends [] a = refl
true_ascends (b ∷ []) a = refl
true_ascends (b ∷ c ∷ bs) a = and_yes (lt_z b c) (ascends (c ∷ bs)) (lt_lt_z b c (a.0 c (has_head c bs))) (true_ascends (c ∷ bs) a.1)

-- a start that is not barred, and its test
not-true : (t : Bool) → not t ≡ true → t ≡ true → ⊥
not-true true h y = clash h refl
not-true false h y = clash y refl

true_not : (t : Bool) → (t ≡ true → ⊥) → not t ≡ true
true_not true n = absurd (n refl)
true_not false n = refl

pub bars_fit_is : (y : Range) → bars_are_fit y ≡ true ↔ BarsFit y
unfolding bars_are_fit
bars_fit_is y = (
  λ h. (
      let a = and_true (leb y.count BARS) _ h in
      let b = and_true (ascends (bars_of y)) _ a.1 in
      let c = and_true (not (has (bars_of y) y.earliest)) (not (has (bars_of y) y.latest)) b.1 in
      record { few = leb-true y.count BARS a.0; ascending = ascends_true (bars_of y) b.0; not_earliest = not-true _ c.0; not_latest = not-true _ c.1 }
      ),
  λ f. and_yes _ _ (le-leb y.count BARS f.few) (and_yes _ _ (true_ascends (bars_of y) f.ascending) (and_yes _ _ (true_not _ f.not_earliest) (true_not _ f.not_latest))),
)

-- the test, as far as it is decided
module _ (y : Range) where
  pub fit_none : y.count ≡ 0 → bars_are_fit y ≡ true
  unfolding bars_are_fit ascends has
  fit_none e = rw e

  pub fit_many : BARS < y.count → bars_are_fit y ≡ false
  unfolding bars_are_fit
  fit_many h = and_left (leb y.count BARS) _ (lt-leb y.count BARS h)

  pub fit_few : y.count ≤ BARS → bars_are_fit y ≡ ascends (bars_of y) && (not (has (bars_of y) y.earliest) && not (has (bars_of y) y.latest))
  unfolding bars_are_fit
  fit_few h = and_is (leb y.count BARS) _ (le-leb y.count BARS h)

pub all_fit : (ys : List Range) → all_bars_are_fit ys ≡ true → (k : ℕ) → k < length ys → BarsFit (get_or ys k any_range)
unfolding all_bars_are_fit
all_fit [] h k l = absurd (omega arith)
all_fit (y ∷ ys) h zero l = (bars_fit_is y).0 (and_true (bars_are_fit y) (all_bars_are_fit ys) h).0
all_fit (y ∷ ys) h (suc k) l = all_fit ys (and_true (bars_are_fit y) (all_bars_are_fit ys) h).1 k (omega arith)
