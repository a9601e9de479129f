-- The invariant: the tasks met so far, the first by latest completion, are marked.
use mathlib.Core.Path.{◌≡◌}
use Rattle.conflicts.proofs.MarkedNumbers.{marked}
use Rattle.conflicts.proofs.overloading.tasks_read.Given as goal

abbrev pub invariant-loop-j : goal.invariant-loop-j
invariant-loop-j l = l.read ≡ marked l.j-items l.j-index
