-- The task's duration and start are within the limits, so its ect fits 32 bits; its gray node may be put at its leaf.
use native.Mathlib.Omega.{arith}
use Rattle.trees.specs.Leaves.{gray}
use Rattle.trees.proofs.ArrayTrees.{put_fits}
use Rattle.trees.proofs.LeafColours.{task_node}
use Rattle.trees.proofs.Trees.{may_put, was_put}
use Rattle.trees.proofs.theta_lambda_tree.ThetaLambdaTree.add_to_lambda.Goals as goal

pub overflow_add-ect : goal.overflow_add-ect
overflow_add-ect c = let (h, p) = c.requires in let f = put_fits (may_put h.limited h.tree _ p.inside gray (task_node gray p)).takes in omega (arith, f.fair, f.small)

pub put-requires : goal.put-requires
put-requires c = let (h, p) = c.requires in rw c.new_gray_node-n.ensures (may_put h.limited h.tree _ p.inside gray (task_node gray p))

pub returns : goal.returns
returns c = λ h p. was_put h.limited h.tree _ p.inside gray (task_node gray p) (rw c.new_gray_node-n.ensures at c.put.ensures)
