-- The leaf is stored, and `upheap` makes its ancestors the joins of their children again.
use Rattle.trees.proofs.ArrayTrees.{puts}
use Rattle.trees.proofs.array_tree.put.Goals as goal

pub upheap-requires : goal.upheap-requires
upheap-requires g c = search puts

pub returns : goal.returns
returns g c = search puts
