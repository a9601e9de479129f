-- The invariant: the variables of the first k atoms are marked.
use mathlib.Core.Path.{◌≡◌}
use Rattle.conflicts.specs.HeldTasks.{NamesTasks}
use Rattle.conflicts.proofs.MarkedNumbers.{marked, variables}
use Rattle.conflicts.proofs.late_task.named_by.Given as goal

abbrev pub invariant-loop-k : goal.invariant-loop-k
invariant-loop-k l = (h : NamesTasks l.reason) → l.named ≡ marked (variables h.atoms) l.k
