-- The invariant: the lines of the tasks below k are put, with at most 63 bytes for each.
use Prim.Native.Nat.{◌+◌, ◌*◌, ◌≤◌}
use lib.ListN.{take}
use Rattle.text.specs.DecimalText.{Puts}
use Rattle.plan_cli.specs.Lines.{lines}
use Rattle.costliest_cli.specs.Tasks.{task_line, costliest}
use Rattle.costliest_cli.proofs.tasks.put_tasks.Given as goal

abbrev pub invariant-loop-k : goal.invariant-loop-k
invariant-loop-k l = (l.end ≤ l.at + 63 * l.k) × Puts l.initial.out l.out l.at (lines task_line (take l.k (costliest l.n))) l.end
