-- What the overload test answers decides: its refusal, its overload, or the run.
use mathlib.Core.Path.{◌≡◌, ap, ◌∙◌}
use Rattle.std.specs.Prelude.{Ok}
use lib.ListN.{length}
use borrow.Author.Rules.{rules}
use Rattle.integers.specs.Limits.{TASKS}
use Rattle.conflicts.proofs.FoundConflicts.{where_refused, held, yes_able, when_yes, when_no}
use Rattle.conflicts.proofs.conflict.conflict.Goals.{Start}
use Rattle.conflicts.proofs.conflict.conflict.Goals as goal

-- the durations have TASKS places
long : (c : Start) → length c.args.«record».durations ≡ TASKS
long c = search rules

pub returns-in-Ok-Some : goal.returns-in-Ok-Some
returns-in-Ok-Some c =
    when_yes _ _ _ _ (long (goal.at.returns-in-Ok-Some c).Start) c.overload_test.ensures _ (c.in-Ok-Some.is ∙ ap Ok c.in-Ok-Some.field-0-is) c.task_moments.ensures _ c.overloading.ensures

pub task_moments-requires : goal.task_moments-requires
task_moments-requires c = search (held, rules)

pub overloading-requires : goal.overloading-requires
overloading-requires c = search (yes_able, rules)

pub late_task-requires : goal.late_task-requires
late_task-requires c = search (held, rules)

pub returns-in-Ok-None : goal.returns-in-Ok-None
returns-in-Ok-None c = search (when_no, rules)

pub returns-in-Err : goal.returns-in-Err
returns-in-Err c = search (where_refused, rules)
