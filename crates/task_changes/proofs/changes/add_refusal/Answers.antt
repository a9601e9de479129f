-- At each return the tests before it are passed and its own is not. The sum is tested by what the stored total leaves.
use borrow.Author.Rules.{rules}
use Rattle.records.proofs.TestsInOrder.{in_order}
use Rattle.task_changes.proofs.RefusedChanges.{more_fit, more_not, stored_most, sum_over, sum_under}
use Rattle.task_changes.proofs.changes.add_refusal.Goals as goal

pub returns-then-not-lawful : goal.returns-then-not-lawful
returns-then-not-lawful c = search (in_order, rules)

pub returns-then-record-ge-TASKS : goal.returns-then-record-ge-TASKS
returns-then-record-ge-TASKS c = search (more_not, in_order, rules)

pub returns-then-duration-lt1 : goal.returns-then-duration-lt1
returns-then-duration-lt1 c = search (more_fit, in_order, rules)

pub overflow_sub-record : goal.overflow_sub-record
overflow_sub-record c = search (stored_most, rules)

pub returns-then-record-duration_of : goal.returns-then-record-duration_of
returns-then-record-duration_of c = search (more_fit, sum_over, in_order, rules)

pub returns : goal.returns
returns c = search (more_fit, sum_under, in_order, rules)
