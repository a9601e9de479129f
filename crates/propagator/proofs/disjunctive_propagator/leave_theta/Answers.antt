-- The leaf becomes gray, or empty where a turn is known. The call for it joins the inner nodes too where they stay joined; else `rebuild` does where it is to.
use mathlib.Core.Path.{ap}
use Rattle.trees.specs.Leaves.{empty, gray}
use Rattle.trees.specs.Operations.{LeafColoured}
use Rattle.propagator.specs.LeavingTheta.{Movable, left_for}
use Rattle.propagator.proofs.LeavingTheta.{shown, shown_leaves, placed, within, laid_as, laid, all_joined, none_joined}
use Rattle.propagator.proofs.disjunctive_propagator.leave_theta.Goals.{Joined-taken-2, then-taken, else-taken, then-taken-2, else-taken-2}
use Rattle.propagator.proofs.disjunctive_propagator.leave_theta.Goals as goal

pub add_to_lambda-requires : goal.add_to_lambda-requires
add_to_lambda-requires c =
    let m = c.requires in
    (shown m c.if-joined.true, placed m c.leaf_of-place.ensures c.task-task.ensures.start c.task-task.ensures.lasts)

pub remove_from_theta-requires : goal.remove_from_theta-requires
remove_from_theta-requires c =
    let m = c.requires in
    (shown m c.if-joined.true, within m c.leaf_of-place.ensures)

pub returns-then-joins : goal.returns-then-joins
returns-then-joins c = λ m.
    let e = c.leaf_of-place.ensures in
    elim c.if-taken.branch [
      | then-taken w ↦ rw (w.if-taken.true, w.nodes-is) (all_joined m empty e (w.remove_from_theta.ensures (shown m c.if-joined.true) (within m e)))
      | else-taken w ↦ rw (w.if-taken.false, w.nodes-is) (all_joined m gray e (w.add_to_lambda.ensures (shown m c.if-joined.true) (placed m e c.task-task.ensures.start c.task-task.ensures.lasts)))
    ]

pub lay_in_lambda-requires : goal.lay_in_lambda-requires
lay_in_lambda-requires c = (shown_leaves c.requires, placed c.requires c.leaf_of-place.ensures c.task-task.ensures.start c.task-task.ensures.lasts)

pub lay_empty-requires : goal.lay_empty-requires
lay_empty-requires c = (shown_leaves c.requires, within c.requires c.leaf_of-place.ensures)

-- where they do not, the leaf is laid
lays : (c : Joined-taken-2) → let a = c.args in
    (m : Movable a.tasks.now a.nodes.now a.j a.joined)
    → LeafColoured (left_for a.taken) (shown_leaves m) c.leaf_of-place.result.0 c.if-taken-2.nodes
lays c m = let e = c.leaf_of-place.ensures in
    elim c.if-taken-2.branch [
      | then-taken-2 w ↦ laid_as m _ (ap left_for w.if-taken-2.true) w.nodes-is (w.lay_empty.ensures (shown_leaves m) (within m e))
      | else-taken-2 w ↦ laid_as m _ (ap left_for w.if-taken-2.false) w.nodes-is (w.lay_in_lambda.ensures (shown_leaves m) (placed m e c.task-task.ensures.start c.task-task.ensures.lasts))
    ]

pub rebuild-requires : goal.rebuild-requires
rebuild-requires c =
    laid c.requires (left_for c.args.taken) c.leaf_of-place.ensures (lays (goal.at.rebuild-requires c).Joined-taken-2 c.requires)

pub returns-then-joins-2 : goal.returns-then-joins-2
returns-then-joins-2 c = λ m.
    let colour = left_for c.args.taken in
    all_joined m colour c.leaf_of-place.ensures (c.rebuild.ensures (laid m colour c.leaf_of-place.ensures (lays (goal.at.returns-then-joins-2 c).Joined-taken-2 m)))

pub returns-else-joins-2 : goal.returns-else-joins-2
returns-else-joins-2 c = λ m.
    none_joined m (left_for c.args.taken) c.leaf_of-place.ensures (lays (goal.at.returns-else-joins-2 c).Joined-taken-2 m) c.if-joins-2.false
