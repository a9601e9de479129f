-- The bars from place i on, as the loops over the places meet them.
use mathlib.Core.Path.{◌≡◌, refl, sym, ap, ◌∙◌}
use mathlib.Core.Bool.{Bool, true, false, not, ◌&&◌, ◌||◌}
use mathlib.Core.List.{List, [], ◌∷◌}
use Prim.Native.Nat.{ℕ, suc, ◌+◌, ◌-◌, ◌≤◌, ◌<◌}
use native.Mathlib.Omega.{arith}
use native.Mathlib.Numerals.{add-one}
use lib.IntN.{ℤ, pos}
use lib.ListN.{length, get_or, drop, length-take, length-drop, drop_of_length-le}
use lib.Seq.{drop-cons, get_or-take, length-take-le}
use lib.Signed.{lt_z}
use Rattle.std.specs.List.{list_all}
use Rattle.integers.specs.Limits.{BARS}
use Rattle.integers.specs.WholeNumbers.{eq_z, has}
use Rattle.ranges.specs.declared.range.Range.{Range}
use Rattle.ranges.specs.Bars.{bars_of, ascends, is_inside, bars_are_fit, all_bars_are_fit}
use Rattle.ranges.proofs.BarTests.{fit_few}

-- how many there are
pub bars_length : (y : Range) → length y.barred ≡ BARS → y.count ≤ BARS → length (bars_of y) ≡ y.count
bars_length y room h = length-take-le y.count y.barred (omega (arith, room))

-- the bar at place i, and those past it
module _ (y : Range) (i : ℕ) (small : i < length (bars_of y)) where
  pub here : drop i (bars_of y) ≡ get_or y.barred i (pos 0) ∷ drop (i + 1) (bars_of y)
  here = rw (add-one i) (drop-cons (bars_of y) i (pos 0) small
      ∙ ap (λ (b : ℤ). b ∷ drop (suc i) (bars_of y)) (get_or-take y.count y.barred i (pos 0) (omega (arith, length-take y.count y.barred))))

  has_on : (x : ℤ) → has (drop i (bars_of y)) x ≡ eq_z (get_or y.barred i (pos 0)) x || has (drop (i + 1) (bars_of y)) x
  unfolding has
  has_on x = ap (λ (bs : List ℤ). has bs x) here

-- two neighbours
ascends_on : (y : Range) (i : ℕ) → 1 ≤ i → i < length (bars_of y)
    → ascends (drop (i - 1) (bars_of y)) ≡ lt_z (get_or y.barred (i - 1) (pos 0)) (get_or y.barred i (pos 0)) && ascends (drop i (bars_of y))
unfolding ascends
ascends_on y i one small =
    let e : i - 1 + 1 ≡ i = omega arith in
    let d : drop (i - 1) (bars_of y) ≡ get_or y.barred (i - 1) (pos 0) ∷ drop i (bars_of y) = here y (i - 1) (omega arith) ∙ ap (λ (k : ℕ). get_or y.barred (i - 1) (pos 0) ∷ drop k (bars_of y)) e in
    let h = here y i small in
    ap ascends (d ∙ ap (λ (bs : List ℤ). get_or y.barred (i - 1) (pos 0) ∷ bs) h) ∙ ap (λ (bs : List ℤ). lt_z (get_or y.barred (i - 1) (pos 0)) (get_or y.barred i (pos 0)) && ascends bs) (sym h)

-- none is left, or none that has a neighbour
has_end : (bs : List ℤ) (i : ℕ) (x : ℤ) → length bs ≤ i → has (drop i bs) x ≡ false
unfolding has
has_end bs i x h = ap (λ (l : List ℤ). has l x) (drop_of_length-le bs {i = i} h)

ascends_short : (bs : List ℤ) → length bs ≤ 1 → ascends bs ≡ true
unfolding ascends
ascends_short [] h = refl
ascends_short (b ∷ []) h = refl
ascends_short (b ∷ c ∷ bs) h = absurd (omega arith)

ascends_end : (bs : List ℤ) (i : ℕ) → 1 ≤ i → length bs ≤ i → ascends (drop (i - 1) bs) ≡ true
ascends_end bs i one h = ascends_short (drop (i - 1) bs) (omega (arith, length-drop (i - 1) bs))

-- what the pass over the bars tests of place i, and what is left to test from there on
inside_on : (a A p P q Q : Bool) → (a && A) && (not (p || P) && not (q || Q)) ≡ (a && (not p && not q)) && (A && (not P && not Q))
inside_on false A p P q Q = refl
inside_on true true true P q Q = refl
inside_on true false true P q Q = refl
inside_on true true false true true Q = refl
inside_on true true false false true Q = refl
inside_on true false false P true Q = refl
inside_on true A false P false Q = refl

module _ (y : Range) where
  unfoldable pub fit_from : ℕ → Bool
  fit_from i = ascends (drop (i - 1) (bars_of y)) && (not (has (drop i (bars_of y)) y.earliest) && not (has (drop i (bars_of y)) y.latest))

  pub fit_first : y.count ≤ BARS → 1 ≤ length (bars_of y) → bars_are_fit y ≡ is_inside y (get_or y.barred 0 (pos 0)) && fit_from 1
  unfolding fit_from is_inside
  fit_first few some =
      let b = get_or y.barred 0 (pos 0) in
      fit_few y few ∙ rw (has_on y 0 (omega arith) y.earliest, has_on y 0 (omega arith) y.latest)
      (inside_on true (ascends (bars_of y)) (eq_z b y.earliest) (has (drop 1 (bars_of y)) y.earliest) (eq_z b y.latest) (has (drop 1 (bars_of y)) y.latest))

  pub fit_on : (i : ℕ) → 1 ≤ i → i < length (bars_of y)
      → fit_from i ≡ (lt_z (get_or y.barred (i - 1) (pos 0)) (get_or y.barred i (pos 0)) && is_inside y (get_or y.barred i (pos 0))) && fit_from (i + 1)
  unfolding fit_from is_inside
  fit_on i one small =
      let e : i + 1 - 1 ≡ i = omega arith in
      rw (ascends_on y i one small, has_on y i small y.earliest, has_on y i small y.latest, e) (inside_on (lt_z (get_or y.barred (i - 1) (pos 0)) (get_or y.barred i (pos 0)))
      (ascends (drop i (bars_of y))) (eq_z (get_or y.barred i (pos 0)) y.earliest) (has (drop (i + 1) (bars_of y)) y.earliest) (eq_z (get_or y.barred i (pos 0)) y.latest)
      (has (drop (i + 1) (bars_of y)) y.latest))

  pub fit_end : (i : ℕ) → 1 ≤ i → length (bars_of y) ≤ i → fit_from i ≡ true
  unfolding fit_from
  fit_end i one h = rw (ascends_end (bars_of y) i one h, has_end (bars_of y) i y.earliest h, has_end (bars_of y) i y.latest h)

-- ---- the test of all ranges, in std's words
pub all_is : (ys : List Range) → list_all bars_are_fit ys ≡ all_bars_are_fit ys
unfolding all_bars_are_fit
all_is [] = refl
all_is (y ∷ ys) = ap (λ (t : Bool). bars_are_fit y && t) (all_is ys)
