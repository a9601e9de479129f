-- As `put`: the leaf and its ancestors change in their bars alone.
use Rattle.trees.proofs.WhiteParts.{bar_puts}
use Rattle.trees.proofs.theta_lambda_tree.ThetaLambdaTree.put_bars.Goals as goal

pub upheap_bars-requires : goal.upheap_bars-requires
upheap_bars-requires c = search bar_puts

pub returns : goal.returns
returns c = search bar_puts
