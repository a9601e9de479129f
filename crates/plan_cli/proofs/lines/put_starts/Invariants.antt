-- The invariant: the starts passed so far stand from `at` on, each after a space, at most 12 bytes each.
use Prim.Native.Nat.{◌+◌, ◌*◌, ◌≤◌}
use lib.ListN.{take}
use Rattle.text.specs.DecimalText.{Puts}
use Rattle.plan_cli.specs.Lines.{spaced_one, lines}
use Rattle.plan_cli.proofs.lines.put_starts.Given as goal

abbrev pub invariant-loop-start : goal.invariant-loop-start
invariant-loop-start l = (l.end ≤ l.at + 12 * l.start-index) × Puts l.initial.out l.out l.at (lines spaced_one (take l.start-index l.starts)) l.end
