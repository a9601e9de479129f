-- What the core says of the starts that were read is said of the ranges.
use Rattle.conflict_pages.specs.Pages.{ConflictPaged}
use Rattle.conflict_pages.proofs.PagedConflicts.{too_many}
use Rattle.disjunctive.proofs.ReadRanges.{said_with_bars}
use Rattle.disjunctive.proofs.open_calls.of_conflicts.conflict_page.Goals as goal

pub returns : goal.returns
returns c =
    let said = rw (c.earliest_of.ensures, c.latest_of.ensures) at c.conflict_page.ensures in
    let r = c.args.propagator.now in let ys = c.args.ranges.now in
    said_with_bars (λ es ls bars. ConflictPaged r es ls bars c.args.out.now c.conflict_page.result c.conflict_page.new.out) ys _ c.starts_with_bars-taken.ensures (too_many r _ _ _ _ c.args.out.now _ _) said
