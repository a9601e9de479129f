-- the height that is left
use Rattle.trees.proofs.theta_lambda_tree.ThetaLambdaTree.+responsible_index_ect_bar_internal.Given as goal

abbrev pub decreases-responsible_index_ect_bar_internal : goal.decreases-responsible_index_ect_bar_internal
decreases-responsible_index_ect_bar_internal l = l.height
