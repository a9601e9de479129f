-- What refuses the schedule goes before; then the length decides.
use Rattle.std.proofs.Common.{rules}
use Rattle.records.proofs.OneMore.{within_words}
use Rattle.records.proofs.TestsInOrder.{said_no, said_yes}
use Rattle.fixed_schedules.proofs.FixedRefused.{schedule_refuses, refused_after, passed_after}
use Rattle.busiest_stretch.proofs.stretch.stretch_order.Goals as goal

pub returns-in_err-order : goal.returns-in_err-order
returns-in_err-order c = search (schedule_refuses, rules)

pub returns-then-not-length_fits : goal.returns-then-not-length_fits
returns-then-not-length_fits c = search (refused_after, c.in_ok-order.ensures, said_no, within_words, rules)

pub returns : goal.returns
returns c = search (passed_after, said_yes, within_words, rules)
