-- The invariant: the lines of the first k atoms stand from `at` on, at most 33 bytes each.
use mathlib.Core.Path.{◌≡◌}
use mathlib.Core.List.{List}
use Prim.Native.Nat.{◌+◌, ◌*◌, ◌≤◌}
use lib.ListN.{take}
use Rattle.scheduling.specs.Scheduling.{Atom}
use Rattle.scheduling.specs.Words.{atom_words}
use Rattle.text.specs.DecimalText.{Puts}
use Rattle.plan_cli.specs.Lines.{why_of, lines}
use Rattle.plan_cli.proofs.lines.put_reason.Given as goal

abbrev pub invariant-loop-k : goal.invariant-loop-k
invariant-loop-k l =
    (l.end ≤ l.at + 33 * l.k)
    × ((atoms : List Atom) → l.words ≡ atom_words atoms → Puts l.initial.out l.out l.at (lines why_of (take l.k atoms)) l.end)
