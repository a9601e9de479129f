-- The empty node may be put at any leaf, and a gray one differs from it in its bars alone.
use mathlib.Core.Path.{refl}
use Rattle.trees.specs.Leaves.{empty}
use Rattle.trees.proofs.Trees.{may_put, was_put, gray_part}
use Rattle.trees.proofs.theta_lambda_tree.ThetaLambdaTree.remove_from_lambda.Goals as goal

pub put_bars-requires : goal.put_bars-requires
put_bars-requires c = let (h, q) = c.requires in rw c.empty.ensures (may_put h.limited h.tree _ q.0 empty refl, gray_part h.limited h.tree _ q.1)

pub returns : goal.returns
returns c = λ h q. was_put h.limited h.tree _ q.0 empty refl (rw c.empty.ensures at c.put_bars.ensures)
