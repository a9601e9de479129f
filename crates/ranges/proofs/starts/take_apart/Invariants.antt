-- The invariant: the first i numbers of the ranges stand in the arrays, over those that were lent.
use mathlib.Core.Path.{◌≡◌}
use Rattle.ranges.specs.Ranges.{earliests, latests}
use Rattle.ranges.specs.TakenApart.{over}
use Rattle.ranges.proofs.starts.take_apart.Given as goal

abbrev pub invariant-loop-i : goal.invariant-loop-i
invariant-loop-i l = record { earliest : l.earliest ≡ over l.i (earliests l.ranges) l.fn.earliest; latest : l.latest ≡ over l.i (latests l.ranges) l.fn.latest }
