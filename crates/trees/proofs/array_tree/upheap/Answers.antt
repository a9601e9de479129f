use Rattle.trees.proofs.ArrayTrees.{upheaps}
use Rattle.trees.proofs.array_tree.upheap.Goals as goal

pub rejoin-requires : goal.rejoin-requires
rejoin-requires g c = search upheaps

pub loop-i-preserved : goal.loop-i-preserved
loop-i-preserved g c = search upheaps

pub returns : goal.returns
returns g c = search upheaps
