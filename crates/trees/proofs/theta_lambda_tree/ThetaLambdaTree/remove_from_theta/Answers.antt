-- The empty node may be put at any leaf.
use mathlib.Core.Path.{refl}
use Rattle.trees.specs.Leaves.{empty}
use Rattle.trees.proofs.Trees.{may_put, was_put}
use Rattle.trees.proofs.theta_lambda_tree.ThetaLambdaTree.remove_from_theta.Goals as goal

pub put-requires : goal.put-requires
put-requires c = let (h, q) = c.requires in rw c.empty.ensures (may_put h.limited h.tree _ q empty refl)

pub returns : goal.returns
returns c = λ h q. was_put h.limited h.tree _ q empty refl (rw c.empty.ensures at c.put.ensures)
