-- What refuses the schedule goes before; then the list's length and its moments, which share the number 19.
use Rattle.std.proofs.Common.{rules}
use Rattle.records.proofs.TestsInOrder.{in_order}
use Rattle.fixed_schedules.proofs.FixedRefused.{schedule_first, number_refuses, number_passes}
use Rattle.charges.proofs.refusals.charges_refusal.Goals.{then-due-record-via-then-due-record, then-due-record-via-else-due-record+then-not-dues_fit}
use Rattle.charges.proofs.refusals.charges_refusal.Goals as goal

pub returns-in_err-fixed_order : goal.returns-in_err-fixed_order
returns-in_err-fixed_order c = search (schedule_first, rules)

pub returns-then-due-record : goal.returns-then-due-record
returns-then-due-record c =
    let passed = c.in_ok-fixed_order.ensures in
    elim c.then-due-record.branch [
      | then-due-record-via-then-due-record w ↦ search (number_refuses, passed, in_order, rules)
      | then-due-record-via-else-due-record+then-not-dues_fit w ↦ search (number_refuses, passed, in_order, rules)
    ]

pub returns : goal.returns
returns c = let passed = c.in_ok-fixed_order.ensures in search (number_passes, passed, in_order, rules)
