-- The loop's invariant is `DuringRebuild`: the leaves stay, and every inner node from i on is the join of its children.
use mathlib.Core.Path.{◌≡◌}
use lib.ListN.{length}
use Rattle.integers.specs.Limits.{TREEWORDS}
use Rattle.trees.specs.NodeLaws.{additive}
use Rattle.trees.specs.Words.{node_at}
use Rattle.trees.proofs.ArrayTrees.{DuringRebuild}
use Rattle.trees.proofs.theta_lambda_tree.ThetaLambdaTree.rebuild.Given as goal

abbrev pub invariant-loop-i : goal.invariant-loop-i
invariant-loop-i l = DuringRebuild additive l.inner (node_at l.initial.nodes) (node_at l.nodes) l.i × (length l.nodes ≡ TREEWORDS)

abbrev pub decreases-loop-i : goal.decreases-loop-i
decreases-loop-i l = l.i
