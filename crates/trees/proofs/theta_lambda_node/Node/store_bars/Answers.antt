-- The two words that are not written are those of n already.
use Rattle.trees.proofs.NodeWords.{bars_stored}
use Rattle.trees.proofs.theta_lambda_node.Node.store_bars.Goals as goal

pub returns : goal.returns
returns c = bars_stored c.args.nodes.now c.args.i c.args.n c.requires.0 c.requires.1 c.requires.2
