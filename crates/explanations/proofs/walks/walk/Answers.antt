use native.Mathlib.Omega.{arith}
use Rattle.explanations.specs.Walks.{Known}
use Rattle.explanations.specs.Leaves.{task_at}
use Rattle.explanations.proofs.LeafWalk.{sets_out, enough_there, asked_there, each_met, walks_on}
use Rattle.explanations.proofs.walks.walk.Goals.{After-task, After-task-in-loop-theta}
use Rattle.explanations.proofs.walks.walk.Goals as goal

pub loop-theta-init : goal.loop-theta-init
loop-theta-init g c = sets_out c.requires.0.total c.requires.0.stops c.next-x.ensures

-- both lists have the task of the leaf
known : (g : _) (c : After-task g) → Known c.args.theta.est.now c.args.theta.durations.now (task_at c.args.theta c.loop-theta.x.0)
known g c = each_met c.loop-theta.invariant (Known c.args.theta.est.now c.args.theta.durations.now) c.requires.0.known

pub offset_bounds-theta-task : goal.offset_bounds-theta-task
offset_bounds-theta-task g c = omega (arith, c.task.ensures, (known g c).task)

pub bounds-theta-task : goal.bounds-theta-task
bounds-theta-task g c = rw c.task.ensures (known g c).start

pub stops-requires : goal.stops-requires
stops-requires g c = rw c.task.ensures (asked_there c.loop-theta.invariant c.requires.0)

pub offset_bounds-theta-task-in-loop-theta : goal.offset_bounds-theta-task-in-loop-theta
offset_bounds-theta-task-in-loop-theta g c = omega (arith, c.task-in-loop-theta.ensures, (known g (goal.at.offset_bounds-theta-task-in-loop-theta g c).After-task).task)

pub bounds-theta-task-in-loop-theta : goal.bounds-theta-task-in-loop-theta
bounds-theta-task-in-loop-theta g c = rw c.task-in-loop-theta.ensures (known g (goal.at.bounds-theta-task-in-loop-theta g c).After-task).duration

pub overflow_sub-lasts : goal.overflow_sub-lasts
overflow_sub-lasts g c = rw c.task-in-loop-theta.ensures (enough_there c.loop-theta.invariant)

pub loop-theta-preserved : goal.loop-theta-preserved
loop-theta-preserved g c =
    rw c.task-in-loop-theta.ensures (walks_on c.loop-theta.invariant c.requires.0.stops (rw c.task.ensures at c.loop-theta-test.ensures) c.next-x-in-loop-theta.ensures)
