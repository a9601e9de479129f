-- The invariant `Best`: no stretch that starts or ends with one of the tasks so far is better than the best so far.
use Rattle.std.proofs.Common.{length}
use Rattle.busiest_stretch.specs.StretchMoments.{tasks_at}
use Rattle.busiest_stretch.proofs.TriedStretches.{Best}
use Rattle.busiest_stretch.proofs.covering.Slide.busiest.Given as goal

abbrev pub invariant-loop-start : goal.invariant-loop-start
invariant-loop-start l =
    Best (tasks_at l.self.starts.now l.self.durations.now) l.self.«length» l.self.first l.self.last (length l.yielded) l.best.covered l.best.start
