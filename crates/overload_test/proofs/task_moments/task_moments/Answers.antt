-- The arrays are filled, so they hold the tasks' moments.
use borrow.Author.Rules.{rules}
use Rattle.overload_test.proofs.NextTask.{keys_small, holds_tasks}
use Rattle.overload_test.proofs.task_moments.task_moments.Goals as goal

pub completions-requires : goal.completions-requires
completions-requires c = search (keys_small, rules)

pub returns : goal.returns
returns c = search (holds_tasks, rules)
