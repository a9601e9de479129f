use mathlib.Core.Path.{◌≡◌, sym}
use Prim.Native.Nat.{◌<◌}
use native.Mathlib.Omega.{arith}
use Rattle.trees.proofs.TasksInTurn.{first_none}
use Rattle.trees.specs.Operations.{HasTask}
use Rattle.propagator.proofs.FilledTheta.{none_white, placed, shown, one_white, one_later, ect_small, all_later, all_white}
use Rattle.propagator.specs.FilledTheta.{Fillable}
use Rattle.propagator.proofs.disjunctive_propagator.fill.Goals.{After-task-task, In-loop-x}
use Rattle.propagator.proofs.disjunctive_propagator.fill.Goals as goal

inside : (c : In-loop-x) → c.loop-x.x < c.args.tasks.now.size.leaves
inside c = omega arith

-- the task of the leaf has its place there
here : (c : After-task-task) (f : Fillable c.args.tasks.now c.args.nodes.now) → HasTask f.J f.est_order c.loop-x.x c.task-task.result.start_time c.task-task.result.processing_time
here c f = placed f c.loop-x.x (inside (goal.at.After-task-task c).In-loop-x) c.task_of.ensures c.task-task.ensures.start c.task-task.ensures.lasts

pub lay_in_theta-requires : goal.lay_in_theta-requires
lay_in_theta-requires c =
    let l = c.loop-x in
    let f = l.invariant.fillable in
    (shown f l.x (l.invariant.leaves f), here (goal.at.lay_in_theta-requires c).After-task-task f)

pub overflow_add-ect : goal.overflow_add-ect
overflow_add-ect c =
    let l = c.loop-x in
    let f = l.invariant.fillable in
    record { fits = omega (arith, ect_small f (l.invariant.later f) (here (goal.at.overflow_add-ect c).After-task-task f) c.max.ensures) }

pub loop-x-preserved : goal.loop-x-preserved
loop-x-preserved c =
    let past = goal.at.loop-x-preserved c in
    let l = c.loop-x in
    let v = l.invariant in
    record {
      fillable = v.fillable;
      leaves = λ f. one_white f l.x (v.leaves f) (c.lay_in_theta.ensures (shown f l.x (v.leaves f)) (here past.After-task-task f));
      later = λ f. one_later f (v.later f) (here past.After-task-task f) c.max.ensures;
    }

pub returns : goal.returns
returns c = λ f.
    let v = c.loop-x in
    let e : v.x ≡ c.args.tasks.now.size.leaves = omega arith in
    (all_white f v.x e (v.invariant.leaves f), all_later f v.x e (v.invariant.later f))

pub loop-x-init : goal.loop-x-init
loop-x-init c = record { fillable = c.requires; leaves = λ f. none_white f; later = λ f. sym (first_none f.J f.est_order) }
