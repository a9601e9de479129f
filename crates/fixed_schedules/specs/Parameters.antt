-- What a call on a fixed schedule takes besides it: a moment, or a length of time.
use Rattle.std.specs.Prelude.{Bool, ◌&&◌, ℤ, pos, neg_ℤ, ◌≤ℤ◌}
use Rattle.std.specs.Int.Signed.{le_z}
use Rattle.integers.specs.Limits.{MOMENT, LENGTH}

-- a moment is from −MOMENT to MOMENT
abbrev pub moment_within : ℤ → Bool
moment_within t = le_z (neg_ℤ (pos MOMENT)) t && le_z t (pos MOMENT)

-- a length of time is from 1 to LENGTH
abbrev pub length_within : ℤ → Bool
length_within d = le_z (pos 1) d && le_z d (pos LENGTH)

-- The same as facts.
pub record MomentFits (t : ℤ) : Type 0 where
  pub low : neg_ℤ (pos MOMENT) ≤ℤ t
  pub high : t ≤ℤ pos MOMENT

pub record LengthFits (d : ℤ) : Type 0 where
  pub low : pos 1 ≤ℤ d
  pub high : d ≤ℤ pos LENGTH
