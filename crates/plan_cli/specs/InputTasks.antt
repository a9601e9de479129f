-- What is read of an input: its tasks, or why there are none to plan.
use Rattle.std.specs.Prelude.{true, false, Result, Ok, Err, List, leb, length}
use Rattle.std.proofs.Math.Option.{Option, none, some}
use Rattle.integers.specs.Limits.{TASKS}
use Rattle.plan_cli.specs.declared.input.Unread.{Unread}
use Rattle.plan_cli.specs.declared.input.Unread.TheVariants as unread
use Rattle.plan_cli.specs.Columns.{Columns, columns_of}
use Rattle.plan_cli.specs.Printed.{Triple}

-- by the tasks that the input lists, if it lists some
unfoldable pub read_of : Option (List Triple) → Result Columns Unread
read_of none = Err unread.NoTasks
read_of (some ts) = elim (leb (length ts) TASKS) [ true ↦ Ok (columns_of ts) | false ↦ Err unread.TooMany ]
