-- Permitted starts, and the schedules that use no others.
use Rattle.std.specs.Prelude.{◌≡◌, true, List, ℕ, ◌<◌, ℤ, get_or, ◌≤ℤ◌}
use Rattle.integers.specs.WholeNumbers.{has}
use Rattle.scheduling.specs.Scheduling.{whole, Tasks, Schedule, Least, Largest}
use Rattle.ranges.specs.declared.range.Range.{Range}
use Rattle.ranges.specs.Bars.{bars_of}
use Rattle.ranges.specs.Ranges.{any_range}

-- A permitted start is within the range, and not barred.
pub record Permitted (y : Range) (z : ℤ) : Type 0 where
  pub from : y.earliest ≤ℤ z
  pub to : z ≤ℤ y.latest
  pub free : has (bars_of y) z ≡ true → ⊥

-- the first permitted start at or after b
abbrev pub FirstPermitted : Range → ℤ → ℤ → Type 0
FirstPermitted y b = Least whole (λ z. Permitted y z × (b ≤ℤ z))

-- the last permitted start at or before b
abbrev pub LastPermitted : Range → ℤ → ℤ → Type 0
LastPermitted y b = Largest whole (λ z. Permitted y z × (z ≤ℤ b))

-- A schedule that starts each task at a permitted start of its range.
pub record PermittedSchedule (J : Tasks whole) (ranges : List Range) (s : ℕ → ℤ) : Type 0 where
  pub schedule : Schedule J s
  pub permitted : (k : ℕ) → k < J.count → Permitted (get_or ranges k any_range) (s k)
