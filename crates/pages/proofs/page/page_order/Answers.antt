-- What refuses the schedule goes before; then the room decides.
use Rattle.std.proofs.Common.{rules, arith, ◌≤◌, sym}
use borrow.Author.Tests.{le-leb, lt-leb}
use Rattle.integers.specs.Limits.{TASKS}
use Rattle.fixed_schedules.proofs.FixedRefused.{accepted_fixed, schedule_refuses, refused_after, passed_after}
use Rattle.pages.proofs.page.page_order.Goals.{In_ok-order}
use Rattle.pages.proofs.page.page_order.Goals as goal

-- the schedule has passed
few : (c : In_ok-order) → c.args.«record».now.count ≤ TASKS
few c =
    let a = c.args in
    ((accepted_fixed a.«record».now a.earliest.now a.latest.now).0 (sym c.in_ok-order.ensures.number)).lawful.few

pub returns-in_err-order : goal.returns-in_err-order
returns-in_err-order c = search (schedule_refuses, rules)

pub overflow_add-record : goal.overflow_add-record
overflow_add-record c = omega (arith, few (goal.at.overflow_add-record c).In_ok-order)

pub overflow_mul-record : goal.overflow_mul-record
overflow_mul-record c = omega (arith, few (goal.at.overflow_mul-record c).In_ok-order)

pub returns-then-room-record : goal.returns-then-room-record
returns-then-room-record c = search (refused_after, lt-leb, c.in_ok-order.ensures, rules)

pub returns : goal.returns
returns c = search (passed_after, le-leb, rules)
