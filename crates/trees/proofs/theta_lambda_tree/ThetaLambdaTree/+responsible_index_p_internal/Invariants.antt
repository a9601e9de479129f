-- the height that is left
use Rattle.trees.proofs.theta_lambda_tree.ThetaLambdaTree.+responsible_index_p_internal.Given as goal

abbrev pub decreases-responsible_index_p_internal : goal.decreases-responsible_index_p_internal
decreases-responsible_index_p_internal l = l.height
