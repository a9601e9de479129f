-- The invariant: the tasks below i have their mirrored bounds, and the others those that were lent.
use Rattle.std.proofs.Common.{◌≡◌}
use Rattle.checker.specs.BoundArrays.{mirrored_bounds}
use Rattle.checker.proofs.mirrored_bounds.mirror_bounds.Given as goal

abbrev pub invariant-loop-i : goal.invariant-loop-i
invariant-loop-i l = l.bounds ≡ mirrored_bounds l.initial.bounds l.durations l.i
