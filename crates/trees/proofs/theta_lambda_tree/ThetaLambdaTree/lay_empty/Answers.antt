-- The empty node may be laid at any leaf: no other leaf changes.
use mathlib.Core.Path.{refl}
use Rattle.trees.specs.Leaves.{empty}
use Rattle.trees.proofs.RebuiltTrees.{may_lay, was_laid}
use Rattle.trees.proofs.theta_lambda_tree.ThetaLambdaTree.lay_empty.Goals as goal

pub lay-requires : goal.lay-requires
lay-requires c = let (l, q) = c.requires in rw c.empty.ensures (may_lay l.limited l.has _ q empty refl)

pub returns : goal.returns
returns c = λ l q. was_laid l.limited l.has _ q empty refl (rw c.empty.ensures at c.lay.ensures)
