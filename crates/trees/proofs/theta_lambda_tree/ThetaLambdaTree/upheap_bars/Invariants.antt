-- The loop's invariant is that of `upheap`, and the node carried up is node i. Without their gray tasks, all inner nodes are the joins of their children.
use mathlib.Core.Path.{◌≡◌}
use lib.ListN.{length}
use Rattle.integers.specs.Limits.{TREEWORDS}
use Rattle.trees.specs.NodeLaws.{additive}
use Rattle.trees.specs.Puts.{WhiteJoins}
use Rattle.trees.specs.Words.{node_at}
use Rattle.trees.proofs.ArrayTrees.{DuringUpheap}
use Rattle.trees.proofs.theta_lambda_tree.ThetaLambdaTree.upheap_bars.Given as goal

abbrev pub invariant-loop-i : goal.invariant-loop-i
invariant-loop-i l =
    DuringUpheap additive l.inner (node_at l.initial.nodes) (node_at l.nodes) l.i × (length l.nodes ≡ TREEWORDS) × WhiteJoins l.inner (node_at l.nodes) × (l.n ≡ node_at l.nodes l.i)

abbrev pub decreases-loop-i : goal.decreases-loop-i
decreases-loop-i l = l.i
