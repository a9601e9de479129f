-- The task's duration and start are within the limits, so its ect fits 32 bits; its node may be put at its leaf.
use mathlib.Core.Path.{ap}
use native.Mathlib.Omega.{arith}
use Rattle.trees.specs.Leaves.{white}
use Rattle.trees.specs.Puts.{white_part}
use Rattle.trees.proofs.ArrayTrees.{put_fits}
use Rattle.trees.proofs.LeafColours.{task_node}
use Rattle.trees.proofs.Trees.{may_put_plain, was_put_plain}
use Rattle.trees.proofs.theta_tree.ThetaTree.add.Goals as goal

pub overflow_add-ect : goal.overflow_add-ect
overflow_add-ect c = let (h, p) = c.requires in let f = put_fits (may_put_plain h.limited h.tree _ p.inside white (ap white_part (task_node white p))).takes in omega (arith, f.fair, f.small)

pub put-requires : goal.put-requires
put-requires c = let (h, p) = c.requires in rw c.new-n.ensures (may_put_plain h.limited h.tree _ p.inside white (ap white_part (task_node white p)))

pub returns : goal.returns
returns c = λ h p. was_put_plain h.limited h.tree _ p.inside white (ap white_part (task_node white p)) (rw c.new-n.ensures at c.put.ensures)
