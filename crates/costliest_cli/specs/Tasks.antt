-- Tasks as the program `plan` reads them, and the costliest of each count.
use Rattle.std.specs.Prelude.{List, ◌++◌, ℕ, ◌*◌, pos, length}
use Rattle.runs.specs.Runs.{tabulate}
use Rattle.text.specs.DecimalText.{natural, decimal}
use Rattle.plan_cli.specs.Lines.{newline, space, lines}
use Rattle.plan_cli.specs.Printed.{Triple}

-- the line of a task: its three numbers, a space between them
unfoldable pub task_line : Triple → List ℕ
task_line t = decimal t.earliest ++ space ++ decimal t.latest ++ space ++ decimal t.duration ++ newline

-- a line with the count, and one for each task
unfoldable pub instance_lines : List Triple → List ℕ
instance_lines ts = natural (length ts) ++ newline ++ lines task_line ts

-- task k of the costliest: the single start 10k, and duration 10
abbrev pub costliest_task : ℕ → Triple
costliest_task k = record { earliest = pos (10 * k); latest = pos (10 * k); duration = pos 10 }

-- n of them
abbrev pub costliest : ℕ → List Triple
costliest n = tabulate costliest_task 0 n
