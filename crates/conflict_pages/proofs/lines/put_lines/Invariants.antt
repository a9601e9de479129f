-- The invariant: after the heading stand the lines of the chosen tasks below k.
use mathlib.Core.List.{flat_map}
use Prim.Native.Nat.{◌+◌, ◌*◌, ◌≤◌}
use Rattle.text.specs.DecimalText.{Puts}
use Rattle.conflict_pages.specs.Lines.{LINE}
use Rattle.conflict_pages.specs.TaskLines.{tasks_of, line_at}
use Rattle.conflict_pages.proofs.lines.put_lines.Given as goal

abbrev pub invariant-loop-k : goal.invariant-loop-k
invariant-loop-k l = (l.at ≤ l.initial.at + LINE * l.k)
    × Puts l.initial.out l.out l.initial.at (flat_map (line_at l.marked l.earliest l.latest l.durations) (tasks_of l.chosen l.k)) l.at
