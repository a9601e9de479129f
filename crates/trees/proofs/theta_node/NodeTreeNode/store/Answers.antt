-- Two words are written at 2i, so node i becomes n and every other node is unchanged.
use Rattle.trees.proofs.NodeWords.{plain_stored}
use Rattle.trees.proofs.theta_node.NodeTreeNode.store.Goals as goal

pub returns : goal.returns
returns c = plain_stored c.args.nodes.now c.args.i c.args.n c.requires.0 c.requires.1
