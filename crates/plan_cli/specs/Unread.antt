-- The numbers that refuse an input which has no tasks to plan.
use Rattle.std.specs.Prelude.{ℕ}
use Rattle.integers.specs.Refused.{TASK_COUNT}
use Rattle.plan_cli.specs.declared.input.Unread.{Unread}
use Rattle.plan_cli.specs.declared.input.Unread.TheVariants as unread

-- 0 refuses what is no list of tasks, and creation's number what has too many
abbrev pub number_of_unread : Unread → ℕ
number_of_unread unread.NoTasks = 0
number_of_unread unread.TooMany = TASK_COUNT
