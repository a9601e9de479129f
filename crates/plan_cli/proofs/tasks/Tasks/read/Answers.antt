-- By the count: no list of tasks, too many, or a list whose columns are its starts and durations.
use mathlib.Core.Path.{sym, ◌∙◌}
use native.Mathlib.Omega.{arith}
use Rattle.plan_cli.proofs.InputTasks.{read_none, read_many, read_few}
use Rattle.plan_cli.proofs.tasks.Tasks.read.Goals as goal

pub returns-in_default : goal.returns-in_default
returns-in_default c xs h = read_none xs (sym c.in_default.is ∙ c.task_count.ensures xs h)

pub returns-then-n-gt-TASKS : goal.returns-then-n-gt-TASKS
returns-then-n-gt-TASKS c xs h = read_many xs c.in-Some.n (sym c.in-Some.is ∙ c.task_count.ensures xs h) (omega (arith, c.if-n-gt-TASKS.true))

pub returns : goal.returns
returns c xs h = read_few c.args.numbers xs c.in-Some.n h (sym c.in-Some.is ∙ c.task_count.ensures xs h) (omega (arith, c.if-n-gt-TASKS.false)) c.column_of.ensures
    c.column_of-2.ensures c.column_of-3.ensures
