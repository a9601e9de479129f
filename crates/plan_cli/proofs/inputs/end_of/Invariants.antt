-- The invariant: the first '%' from i on is the first from `from` on.
use mathlib.Core.Path.{◌≡◌}
use Prim.Native.Nat.{◌+◌}
use lib.ListN.{drop}
use Rattle.plan_cli.specs.Inputs.{first_mark}
use Rattle.plan_cli.proofs.inputs.end_of.Given as goal

abbrev pub invariant-loop-i : goal.invariant-loop-i
invariant-loop-i l = l.i + first_mark (drop l.i l.inputs) ≡ l.fn.from + first_mark (drop l.fn.from l.inputs)
