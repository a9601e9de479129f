-- The invariant: `sum` is what the tasks so far have in common with the stretch; being apart, they cover no more than its length.
use Rattle.std.proofs.Common.{◌≡◌, length}
use Rattle.scheduling.specs.Scheduling.{total}
use Rattle.busiest_stretch.specs.StretchMoments.{tasks_at, common_at}
use Rattle.busiest_stretch.proofs.covering.Slide.covered.Given as goal

abbrev pub invariant-loop-start : goal.invariant-loop-start
invariant-loop-start l = l.sum ≡ total (common_at (tasks_at l.self.starts.now l.self.durations.now) l.self.length l.x) (length l.yielded)
