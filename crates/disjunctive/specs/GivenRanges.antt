-- Ranges that come by value: an array, of which the first `count` are given to a call.
use Rattle.std.specs.Prelude.{cond, List, ◌≡◌, ℕ, leb, take, drop}
use Rattle.ranges.specs.declared.range.Range.{Range}
use Rattle.disjunctive.specs.declared.by_value.Ranges.{Ranges}

-- how many ranges the array has; src/by_value.rt has the same number under the same name
abbrev pub RANGES : ℕ
RANGES = 64

-- how many of them are lent for a count: as many, and all of them where the count is above their number
unfoldable pub lent_of : ℕ → ℕ
lent_of n = cond (leb n RANGES) n RANGES

-- the ranges that a call is given
abbrev pub given : Ranges → List Range
given x = take x.count x.ranges

-- what a call leaves that stores starts: its promise on the ranges that it is given, and the others unchanged
pub record StoredIn (x : Ranges) (ranges' : List Range) (Promise : List Range → List Range → Type 0) : Type 0 where
  pub promise : Promise (given x) (take x.count ranges')
  pub others : drop x.count ranges' ≡ drop x.count x.ranges
