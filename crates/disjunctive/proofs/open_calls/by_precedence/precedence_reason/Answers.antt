-- What the core says of the starts that were read is said of the ranges.
use Rattle.precedences.specs.Reasons.{ReasonGiven}
use Rattle.precedences.proofs.ReasonTooManyRanges.{too_many_reason}
use Rattle.disjunctive.proofs.ReadRanges.{said_with_bars}
use Rattle.disjunctive.proofs.open_calls.by_precedence.precedence_reason.Goals as goal

pub returns : goal.returns
returns c =
    let said = rw (c.earliest_of.ensures, c.latest_of.ensures) at c.precedence_reason.ensures in
    let r = c.args.propagator.now in let ys = c.args.ranges.now in
    said_with_bars (λ es ls bars. ReasonGiven r es ls bars c.args.task c.args.reason.now c.precedence_reason.result c.precedence_reason.new.atoms) ys _ c.starts_with_bars-taken.ensures (too_many_reason r _ _ _ _ c.args.task c.args.reason.now _ _) said
