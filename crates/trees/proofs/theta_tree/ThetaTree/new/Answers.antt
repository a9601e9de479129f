-- Words that are all 0 hold the tree of empty leaves, whatever the tasks.
use Rattle.trees.proofs.Heights.{sized}
use Rattle.trees.proofs.Trees.{new_plain_tree}
use Rattle.trees.proofs.theta_tree.ThetaTree.new.Goals as goal

pub returns : goal.returns
returns c = record { empties = λ J est_order z. new_plain_tree J est_order (sized c.size_for-size.ensures.0 z) }
