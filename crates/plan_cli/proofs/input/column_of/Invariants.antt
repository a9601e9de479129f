-- The invariant: the first i places are filled with the column's numbers.
use mathlib.Core.Path.{◌≡◌}
use Rattle.plan_cli.specs.InputCount.{column}
use Rattle.plan_cli.proofs.input.column_of.Given as goal

abbrev pub invariant-loop-i : goal.invariant-loop-i
invariant-loop-i l = l.out ≡ column l.kept l.i l.from
