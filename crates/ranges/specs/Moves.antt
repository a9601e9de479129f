-- Where a start goes that a call has moved: past the bars that it meets.
use Rattle.std.specs.Prelude.{cond, ◌&&◌, List, [], ◌∷◌, ℤ, pos, negsuc, ◌+ℤ◌}
use Rattle.std.specs.Int.Signed.{lt_z}
use Rattle.integers.specs.WholeNumbers.{eq_z}
use Rattle.ranges.specs.declared.range.Range.{Range}
use Rattle.ranges.specs.Bars.{bars_of}

-- a start at the bar goes on by one, but not past the latest start
abbrev pub past_the_bar : ℤ → ℤ → ℤ → ℤ
past_the_bar latest bar z = cond (eq_z bar z && lt_z z latest) (z +ℤ pos 1) z

-- past each bar, from the first on
unfoldable pub moved_onward : ℤ → ℤ → List ℤ → ℤ
moved_onward latest z [] = z
moved_onward latest z (b ∷ bs) = moved_onward latest (past_the_bar latest b z) bs

-- the earliest start to store where a call leaves z: a start that was not raised stays
unfoldable pub start_stored : Range → ℤ → ℤ
start_stored y z = cond (lt_z y.earliest z) (moved_onward y.latest z (bars_of y)) y.earliest

-- a start at the bar goes back by one, but not before the earliest start
abbrev pub before_the_bar : ℤ → ℤ → ℤ → ℤ
before_the_bar earliest bar z = cond (eq_z bar z && lt_z earliest z) (z +ℤ negsuc 0) z

-- before each bar, from the last back
unfoldable pub moved_backward : ℤ → ℤ → List ℤ → ℤ
moved_backward earliest z [] = z
moved_backward earliest z (b ∷ bs) = before_the_bar earliest b (moved_backward earliest z bs)

-- the latest start to store where a mirrored pass leaves z: a start that was not lowered stays
unfoldable pub latest_stored : Range → ℤ → ℤ
latest_stored y z = cond (lt_z z y.latest) (moved_backward y.earliest z (bars_of y)) y.latest
