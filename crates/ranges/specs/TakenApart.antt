-- Ranges that are taken apart for a core.
use Rattle.std.specs.Prelude.{cond, List, ◌++◌, ◌≡◌, ℕ, leb, ℤ, pos, length, take, drop, replicate}
use Rattle.integers.specs.Limits.{TASKS}
use Rattle.ranges.specs.declared.range.Range.{Range}
use Rattle.ranges.specs.Bars.{all_bars_are_fit}
use Rattle.ranges.specs.Ranges.{earliests, latests}
use Rattle.ranges.specs.declared.starts.Starts.{Starts}
use Rattle.ranges.specs.declared.starts.StartsWithBars.{StartsWithBars}

-- how many of n ranges are taken apart: all of them, and none where there are more than any record has tasks
unfoldable pub taken : ℕ → ℕ
taken n = cond (leb n TASKS) n 0

-- the first n numbers, over those that stood there
abbrev pub over : ℕ → List ℤ → List ℤ → List ℤ
over n zs us = take n zs ++ drop n us

-- the first n numbers, and zeros in the places after them
unfoldable pub padded : ℕ → List ℤ → List ℤ
padded n zs = over n zs (replicate TASKS (pos 0))

-- the earliest and the latest starts, without the places after them
abbrev pub first_earliest : Starts → List ℤ
first_earliest s = take s.count s.earliest

abbrev pub first_latest : Starts → List ℤ
first_latest s = take s.count s.latest

-- the ranges, taken apart into arrays es and ls that are lent for it
pub record TakenInto (ys : List Range) (es ls : List ℤ) (n : ℕ) (es' ls' : List ℤ) : Type 0 where
  pub count : n ≡ taken (length ys)
  pub earliest : es' ≡ over n (earliests ys) es
  pub latest : ls' ≡ over n (latests ys) ls

-- the ranges, taken apart
unfoldable pub starts_taken : List Range → Starts
starts_taken ys = record { count = taken (length ys); earliest = padded (taken (length ys)) (earliests ys); latest = padded (taken (length ys)) (latests ys) }

-- the same, and whether their bars fit
unfoldable pub starts_and_bars : List Range → StartsWithBars
starts_and_bars ys = record { starts = starts_taken ys; bars_fit = all_bars_are_fit ys }
