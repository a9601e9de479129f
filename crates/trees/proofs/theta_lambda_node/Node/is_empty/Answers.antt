-- A node without a sum bar is the empty one, and any other is not.
use Rattle.trees.proofs.Descents.{bar_empty}
use Rattle.trees.proofs.theta_lambda_node.Node.is_empty.Goals as goal

pub returns : goal.returns
returns c = bar_empty c.args.self c.requires
