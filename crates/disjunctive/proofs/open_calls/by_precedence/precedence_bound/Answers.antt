-- What the core says of the starts that were read is said of the ranges.
use Rattle.precedences.specs.Bounds.{BoundGiven}
use Rattle.precedences.proofs.ReasonTooManyRanges.{too_many_bound}
use Rattle.disjunctive.proofs.ReadRanges.{said_with_bars}
use Rattle.disjunctive.proofs.open_calls.by_precedence.precedence_bound.Goals as goal

pub returns : goal.returns
returns c =
    let said = rw (c.earliest_of.ensures, c.latest_of.ensures) at c.precedence_bound.ensures in
    let r = c.args.propagator.now in let ys = c.args.ranges.now in
    said_with_bars (λ es ls bars. BoundGiven r es ls bars c.args.task c.precedence_bound.result) ys _ c.starts_with_bars-taken.ensures (too_many_bound r _ _ _ _ c.args.task _) said
