-- The invariant: `gathered` is the interval of the bounded ones among the first i tasks, for every reading of the arrays as tasks and a set.
use Rattle.std.proofs.Common.{◌≡◌}
use Rattle.scheduling.specs.Scheduling.{natural, Tasks, TaskSet}
use Rattle.checker.specs.BoundArrays.{Bounding, interval_of}
use Rattle.checker.proofs.intervals.gather.Given as goal

abbrev pub invariant-loop-i : goal.invariant-loop-i
invariant-loop-i l = (J : Tasks natural) (Ω : TaskSet) → Bounding J Ω l.n l.bounds l.durations → l.gathered ≡ interval_of J Ω l.i
