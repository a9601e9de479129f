-- What the core says of the starts that were read is said of the ranges.
use Rattle.ranges.proofs.TakenApart.{apart}
use Rattle.pages.specs.Pages.{Paged}
use Rattle.pages.proofs.PageLines.{too_many}
use Rattle.disjunctive.proofs.open_calls.of_fixed_schedules.page.Goals as goal

pub returns : goal.returns
returns c =
    let said = rw (c.earliest_of.ensures, c.latest_of.ensures) at c.page.ensures in
    let r = c.args.propagator.now in let ys = c.args.ranges.now in
    apart (λ es ls. Paged r es ls c.args.out.now c.page.result c.page.new.out) ys _ c.starts_of-starts.ensures (too_many r _ _ c.args.out.now _ _) said
