-- What the core says of the starts that were read is said of the ranges.
use Rattle.ranges.proofs.TakenApart.{apart}
use Rattle.charges.specs.Charges.{Charged}
use Rattle.charges.proofs.AcceptedCharges.{too_many}
use Rattle.disjunctive.proofs.open_calls.of_fixed_schedules.charges.Goals as goal

pub returns : goal.returns
returns c =
    let said = rw (c.earliest_of.ensures, c.latest_of.ensures) at c.charges.ensures in
    let r = c.args.propagator.now in let ys = c.args.ranges.now in
    apart (λ es ls. Charged r es ls c.args.due.now c.charges.result) ys _ c.starts_of-starts.ensures (too_many r _ _ c.args.due.now _) said
