-- The white node is that of the task, and it is laid at its leaf: no other leaf changes, and nothing is said of its ancestors.
use native.Mathlib.Omega.{arith}
use Rattle.trees.specs.Leaves.{white}
use Rattle.trees.proofs.LeafColours.{task_node}
use Rattle.trees.proofs.RebuiltTrees.{may_lay, was_laid}
use Rattle.trees.proofs.theta_lambda_tree.ThetaLambdaTree.lay_in_theta.Goals as goal

pub overflow_add-ect : goal.overflow_add-ect
overflow_add-ect c = let (l, p) = c.requires in let f = (may_lay l.limited l.has _ p.inside white (task_node white p)).fits in omega (arith, f.fair, f.small)

pub lay-requires : goal.lay-requires
lay-requires c = let (l, p) = c.requires in rw c.new_white_node-n.ensures (may_lay l.limited l.has _ p.inside white (task_node white p))

pub returns : goal.returns
returns c = λ l p. was_laid l.limited l.has _ p.inside white (task_node white p) (rw c.new_white_node-n.ensures at c.lay.ensures)
