-- The invariant: the first i starts are stored in the ranges.
use mathlib.Core.Path.{◌≡◌}
use lib.ListN.{take}
use Rattle.ranges.specs.Ranges.{with_starts}
use Rattle.ranges.proofs.starts.store_starts.Given as goal

abbrev pub invariant-loop-i : goal.invariant-loop-i
invariant-loop-i l = l.ranges ≡ with_starts l.fn.ranges (take l.i l.starts)
