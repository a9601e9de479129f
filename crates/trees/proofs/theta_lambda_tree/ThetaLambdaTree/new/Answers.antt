-- Words that are all 0 hold the tree of empty leaves, whatever the tasks; the size is the least for their number.
use Rattle.trees.proofs.Heights.{sized}
use Rattle.trees.proofs.Trees.{new_tree}
use Rattle.trees.proofs.theta_lambda_tree.ThetaLambdaTree.new.Goals as goal

pub returns : goal.returns
returns c = record { size = c.size_for-size.ensures.0; empties = λ J est_order z. new_tree J est_order (sized c.size_for-size.ensures.0 z) }
