-- The bounds of a task's start, mirrored.
use Rattle.std.proofs.Math.Option.{Option, some, none}
use Rattle.std.specs.Prelude.{ℕ, ℤ}
use Rattle.scheduling.specs.MirroredTime.{start_mirrored}

-- a bound of the start of a task that lasts p
abbrev pub mirror_bound : ℕ → Option ℤ → Option ℤ
mirror_bound p none = none
mirror_bound p (some z) = some (start_mirrored p z)
