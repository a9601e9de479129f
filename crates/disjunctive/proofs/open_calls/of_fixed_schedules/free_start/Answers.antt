-- What the core says of the starts that were read is said of the ranges.
use Rattle.integers.proofs.Ints.{back}
use Rattle.ranges.proofs.TakenApart.{apart}
use Rattle.free_starts.specs.FreeStarts.{FreeStartAnswered}
use Rattle.free_starts.proofs.Answers.{too_many}
use Rattle.disjunctive.proofs.open_calls.of_fixed_schedules.free_start.Goals as goal

pub returns : goal.returns
returns c =
    let said = rw (c.earliest_of.ensures, c.latest_of.ensures, back c.ranges.t, back c.ranges.d) at c.free_start.ensures in
    let r = c.args.propagator.now in let ys = c.args.ranges.now in
    apart (λ es ls. FreeStartAnswered r es ls c.args.t c.args.d c.free_start.result) ys _ c.starts_of-starts.ensures (too_many r _ _ c.args.t c.args.d _) said
