-- Whichever child is carried up, the two that are joined are the parent's children.
use mathlib.Core.Path.{◌≡◌}
use Prim.Native.Nat.{◌+◌, ◌*◌, ◌-◌, ◌/◌}
use Rattle.trees.specs.Words.{node_at}
use Rattle.trees.proofs.CarriedBars.{children}
use Rattle.trees.proofs.theta_lambda_tree.ThetaLambdaTree.joined_above.Goals.{After-with_bars-2}
use Rattle.trees.proofs.theta_lambda_tree.ThetaLambdaTree.joined_above.Goals as goal

-- the two nodes are the parent's children
joined : (c : After-with_bars-2) → let at = node_at c.args.nodes.now in let up = (c.args.i - 1) / 2 in
    (c.with_bars.result ≡ at (2 * up + 1)) × (c.with_bars-2.result ≡ at (2 * up + 2))
joined c =
    children c.requires c.load-sibling.ensures c.get_parent-parent.ensures c.get_left_child_index-left.ensures
    c.get_right_child_index-right.ensures c.load-l.ensures c.load-r.ensures c.with_bars.ensures c.with_bars-2.ensures

pub join-requires : goal.join-requires
join-requires c = (rw (joined c).0 c.requires.left, rw (joined c).1 c.requires.right)
