-- The barred starts of a range: which they are, and when they fit.
use Rattle.std.specs.Prelude.{◌≡◌, Bool, true, not, ◌&&◌, List, [], ◌∷◌, ◌≤◌, leb, ℤ, take}
use Rattle.std.specs.Int.Signed.{lt_z}
use Rattle.integers.specs.Limits.{BARS}
use Rattle.holes.specs.Holes.{Ascending}
use Rattle.integers.specs.WholeNumbers.{eq_z, has}
use Rattle.ranges.specs.declared.range.Range.{Range}

-- the barred starts: the first `count` places, and no place past them
abbrev pub bars_of : Range → List ℤ
bars_of y = take y.count y.barred

-- each is below the next
unfoldable pub ascends : List ℤ → Bool
ascends [] = true
ascends (b ∷ []) = true
ascends (b ∷ c ∷ bs) = lt_z b c && ascends (c ∷ bs)

-- a start is neither end of the range
unfoldable pub is_inside : Range → ℤ → Bool
is_inside y b = not (eq_z b y.earliest) && not (eq_z b y.latest)

-- there is room for them, they ascend, and neither end of the range is one of them
unfoldable pub bars_are_fit : Range → Bool
bars_are_fit y = leb y.count BARS && (ascends (bars_of y) && (not (has (bars_of y) y.earliest) && not (has (bars_of y) y.latest)))

-- those of every range fit
unfoldable pub all_bars_are_fit : List Range → Bool
all_bars_are_fit [] = true
all_bars_are_fit (y ∷ ys) = bars_are_fit y && all_bars_are_fit ys

-- The test as facts.
pub record BarsFit (y : Range) : Type 0 where
  pub few : y.count ≤ BARS
  pub ascending : Ascending (bars_of y)
  pub not_earliest : has (bars_of y) y.earliest ≡ true → ⊥
  pub not_latest : has (bars_of y) y.latest ≡ true → ⊥
