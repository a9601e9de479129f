-- What the core says of the starts that were read is said of the ranges.
use Rattle.conflicts.specs.Conflicts.{ConflictFound}
use Rattle.conflicts.proofs.TooManyRanges.{too_many}
use Rattle.disjunctive.proofs.ReadRanges.{said_with_bars}
use Rattle.disjunctive.proofs.open_calls.of_conflicts.conflict.Goals as goal

pub returns : goal.returns
returns c =
    let said = rw (c.earliest_of.ensures, c.latest_of.ensures) at c.conflict.ensures in
    let r = c.args.propagator.now in let ys = c.args.ranges.now in
    said_with_bars (λ es ls bars. ConflictFound r es ls bars c.conflict.result) ys _ c.starts_with_bars-taken.ensures (too_many r _ _ _ _ _) said
