-- What refuses the schedule goes before; then the length and the moment, which share the number 18.
use Rattle.std.proofs.Common.{rules}
use Rattle.records.proofs.OneMore.{within_words}
use Rattle.records.proofs.TestsInOrder.{in_order}
use Rattle.fixed_schedules.proofs.FixedRefused.{schedule_refuses, refused_after, passed_after}
use Rattle.free_starts.proofs.free_order.Goals.{then-not-length_fits-via-then-not-length_fits, then-not-length_fits-via-else-not-length_fits+then-not-moment_fits}
use Rattle.free_starts.proofs.free_order.Goals as goal

pub returns-in_err-order : goal.returns-in_err-order
returns-in_err-order c = search (schedule_refuses, rules)

pub returns-then-not-length_fits : goal.returns-then-not-length_fits
returns-then-not-length_fits c =
    let passed = c.in_ok-order.ensures in
    elim c.then-not-length_fits.branch [
      | then-not-length_fits-via-then-not-length_fits w ↦ search (refused_after, passed, in_order, within_words, rules)
      | then-not-length_fits-via-else-not-length_fits+then-not-moment_fits w ↦ search (refused_after, passed, in_order, within_words, rules)
    ]

pub returns : goal.returns
returns c = search (passed_after, in_order, within_words, rules)
