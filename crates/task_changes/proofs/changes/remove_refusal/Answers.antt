-- At each return the tests before it are passed and its own is not.
use borrow.Author.Rules.{rules}
use Rattle.records.proofs.TestsInOrder.{in_order}
use Rattle.task_changes.proofs.RefusedChanges.{less_fit, less_not}
use Rattle.task_changes.proofs.changes.remove_refusal.Goals as goal

pub returns-then-not-lawful : goal.returns-then-not-lawful
returns-then-not-lawful c = search (in_order, rules)

pub returns-then-task-record : goal.returns-then-task-record
returns-then-task-record c = search (in_order, rules)

pub returns-then-record-lt2 : goal.returns-then-record-lt2
returns-then-record-lt2 c = search (less_not, in_order, rules)

pub returns : goal.returns
returns c = search (less_fit, in_order, rules)
