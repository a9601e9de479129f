-- The invariant `Passed`: `free` is free of the tasks before this one, and no start before it is. Where this task starts late enough, `stops` ends the pass.
use Rattle.std.proofs.Common.{◌+◌, ◌≤◌, length, get_or}
use Rattle.integers.specs.Moments.{zero_at}
use Rattle.fixed_schedules.specs.Neighbours.{in_moments}
use Rattle.free_starts.specs.FreeStarts.{LATEST}
use Rattle.free_starts.proofs.FirstFree.{Passed}
use Rattle.free_starts.proofs.first_free.Given as goal

abbrev pub invariant-loop-task : goal.invariant-loop-task
invariant-loop-task l = record {
  limit : l.free ≤ zero_at + LATEST;
  passed : Passed (in_moments (length l.order) l.starts l.durations) (λ p. get_or l.order p 0) l.t l.d l.task-index l.free;
}
