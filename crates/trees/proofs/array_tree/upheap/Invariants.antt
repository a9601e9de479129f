-- The loop's invariant is `DuringUpheap`: the leaves stay, and only the parent of node i may not be the join of its children.
use mathlib.Core.Path.{◌≡◌}
use lib.ListN.{length}
use Rattle.trees.proofs.ArrayTrees.{DuringUpheap}
use Rattle.trees.proofs.array_tree.upheap.Given as goal

abbrev pub invariant-loop-i : goal.invariant-loop-i
invariant-loop-i g l = let n = g.N.TreeNode in DuringUpheap n.additive l.inner (n.at l.initial.nodes) (n.at l.nodes) l.i × (length l.nodes ≡ n.words)

abbrev pub decreases-loop-i : goal.decreases-loop-i
decreases-loop-i g l = l.i
