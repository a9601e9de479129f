use Rattle.trees.proofs.WhiteParts.{white_stays, bar_upheaps}
use Rattle.trees.proofs.theta_lambda_tree.ThetaLambdaTree.upheap_bars.Goals as goal

pub store_bars-requires : goal.store_bars-requires
store_bars-requires c =
    let loop = c.loop-i in (
      search bar_upheaps,
      search bar_upheaps,
      white_stays loop.invariant.0 c.loop-i-test.true loop.invariant.2 c.get_parent-parent.ensures c.joined_above-n.ensures,
    )

pub joined_above-n-requires : goal.joined_above-n-requires
joined_above-n-requires c = search bar_upheaps

pub loop-i-preserved : goal.loop-i-preserved
loop-i-preserved c = search bar_upheaps

pub returns : goal.returns
returns c = search bar_upheaps
