-- What the core says of the starts that were read is said of the ranges.
use Rattle.integers.proofs.Ints.{back}
use Rattle.ranges.proofs.TakenApart.{apart}
use Rattle.busiest_stretch.specs.Stretches.{BusiestAnswered}
use Rattle.busiest_stretch.proofs.Answers.{too_many}
use Rattle.disjunctive.proofs.open_calls.of_fixed_schedules.busiest_stretch.Goals as goal

pub returns : goal.returns
returns c =
    let said = rw (c.earliest_of.ensures, c.latest_of.ensures, back c.ranges.w) at c.busiest_stretch.ensures in
    let r = c.args.propagator.now in let ys = c.args.ranges.now in
    apart (λ es ls. BusiestAnswered r es ls c.args.w c.busiest_stretch.result) ys _ c.starts_of-starts.ensures (too_many r _ _ c.args.w _) said
