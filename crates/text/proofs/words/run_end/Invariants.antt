-- The invariant: i and the run from i on end where the run from `from` on does.
use mathlib.Core.Path.{◌≡◌}
use Prim.Native.Nat.{◌+◌}
use lib.ListN.{drop}
use Rattle.text.specs.Words.{run_length}
use Rattle.text.proofs.words.run_end.Given as goal

abbrev pub invariant-loop-i : goal.invariant-loop-i
invariant-loop-i l = l.i + run_length l.white (drop l.i l.line) ≡ l.fn.from + run_length l.white (drop l.fn.from l.line)
