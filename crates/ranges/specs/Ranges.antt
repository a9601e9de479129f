-- Ranges as lists of numbers, and ranges in which starts are stored.
use Rattle.std.specs.Prelude.{List, [], ◌∷◌, map, ℕ, ℤ, pos, replicate}
use Rattle.integers.specs.Limits.{BARS}
use Rattle.ranges.specs.declared.range.Range.{Range}
use Rattle.ranges.specs.Moves.{start_stored, latest_stored}

-- the earliest starts of the ranges, and the latest
abbrev pub earliests : List Range → List ℤ
earliests ys = map (λ (y : Range). y.earliest) ys

abbrev pub latests : List Range → List ℤ
latests ys = map (λ (y : Range). y.latest) ys

-- their counts of barred starts, and their places for them, used or not
abbrev pub counts : List Range → List ℕ
counts ys = map (λ (y : Range). y.count) ys

abbrev pub places : List Range → List (List ℤ)
places ys = map (λ (y : Range). y.barred) ys

-- what a list of ranges is read to hold past its end
abbrev pub any_range : Range
any_range = record { earliest = pos 0; latest = pos 0; count = 0; barred = replicate BARS (pos 0) }

-- a range with another earliest start, and with another latest
abbrev pub with_earliest : Range → ℤ → Range
with_earliest y e = record { earliest = e; latest = y.latest; count = y.count; barred = y.barred }

abbrev pub with_latest : Range → ℤ → Range
with_latest y l = record { earliest = y.earliest; latest = l; count = y.count; barred = y.barred }

-- the ranges in which the earliest starts es are stored, from the first on; a range for which there is none is unchanged
unfoldable pub with_starts : List Range → List ℤ → List Range
with_starts [] es = []
with_starts (y ∷ ys) [] = y ∷ ys
with_starts (y ∷ ys) (e ∷ es) = with_earliest y (start_stored y e) ∷ with_starts ys es

-- the ranges in which the latest starts ls are stored
unfoldable pub with_latests : List Range → List ℤ → List Range
with_latests [] ls = []
with_latests (y ∷ ys) [] = y ∷ ys
with_latests (y ∷ ys) (l ∷ ls) = with_latest y (latest_stored y l) ∷ with_latests ys ls
