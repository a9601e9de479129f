-- The invariant: `ect` is that of the chosen ones among the first tasks by earliest start, for every reading of the arrays as tasks and a set.
use Rattle.scheduling.specs.Scheduling.{natural, Tasks, TaskSet}
use Rattle.chosen_sets.specs.TaskArrays.{HeldSet}
use Rattle.chosen_sets.proofs.Recurrence.{Done}
use Rattle.chosen_sets.proofs.theta_ect.Given as goal

abbrev pub invariant-loop-i : goal.invariant-loop-i
invariant-loop-i l = (J : Tasks natural) (Ω : TaskSet) → HeldSet J Ω l.n l.chosen l.est l.durations → Done J Ω l.i-index l.ect
