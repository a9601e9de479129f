use native.Mathlib.Omega.{arith}
use Rattle.trees.proofs.ArrayTrees.{rebuilds}
use Rattle.trees.proofs.RebuiltTrees.{may_rebuild, was_rebuilt}
use Rattle.trees.proofs.theta_lambda_tree.ThetaLambdaTree.rebuild.Goals as goal

pub returns : goal.returns
returns c = λ l. was_rebuilt l.limited l.has c.loop-i.invariant.0 (omega arith) c.loop-i.invariant.1

pub loop-i-init : goal.loop-i-init
loop-i-init c = (may_rebuild c.requires.limited c.requires.has, c.requires.has.words_length)

pub rejoin-requires : goal.rejoin-requires
rejoin-requires c = search rebuilds

pub loop-i-preserved : goal.loop-i-preserved
loop-i-preserved c = search rebuilds
