-- Four words are written at 4i, so node i becomes n and every other node is unchanged.
use Rattle.trees.proofs.NodeWords.{stored}
use Rattle.trees.proofs.theta_lambda_node.NodeTreeNode.store.Goals as goal

pub returns : goal.returns
returns c = stored c.args.nodes.now c.args.i c.args.n c.requires.0 c.requires.1
