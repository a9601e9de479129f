-- What the core says of the starts that were read is said of the ranges.
use Rattle.overload_test.specs.Tested.{OverloadTested}
use Rattle.overload_test.proofs.TooManyRanges.{too_many}
use Rattle.disjunctive.proofs.ReadRanges.{said_with_bars}
use Rattle.disjunctive.proofs.open_calls.overload_test.Goals as goal

pub returns : goal.returns
returns c =
    let said = rw (c.earliest_of.ensures, c.latest_of.ensures) at c.overload_test.ensures in
    let r = c.args.propagator.now in let ys = c.args.ranges.now in
    said_with_bars (λ es ls bars. OverloadTested r es ls bars c.overload_test.result) ys _ c.starts_with_bars-taken.ensures (too_many r _ _ _ _ _) said
