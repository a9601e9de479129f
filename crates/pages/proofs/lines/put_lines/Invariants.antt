-- The invariant: after the heading stand the lines of the tasks before this one in the order, LINE bytes each.
use Rattle.std.proofs.Common.{◌≡◌, ◌+◌, ◌*◌, take}
use mathlib.Core.List.{flat_map}
use Rattle.text.specs.DecimalText.{Puts}
use Rattle.pages.specs.Lines.{LINE}
use Rattle.pages.specs.Pages.{line_at}
use Rattle.pages.proofs.lines.put_lines.Given as goal

abbrev pub invariant-loop-task : goal.invariant-loop-task
invariant-loop-task l = record {
  wide : l.at ≡ l.initial.at + LINE * l.task-index;
  lines : Puts l.initial.out l.out l.initial.at (flat_map (line_at l.durations l.earliest) (take l.task-index l.order)) l.at;
}
