-- The invariant: the first i places hold the raised starts, for every reading of the arrays as tasks, and the others 0.
use mathlib.Core.Path.{◌≡◌}
use Rattle.integers.specs.FilledLists.{filled, no_tasks}
use Rattle.scheduling.specs.Scheduling.{natural, Tasks}
use Rattle.precedences.specs.PredecessorArrays.{HoldsRanges}
use Rattle.precedences.specs.PassArrays.{raised_there}
use Rattle.precedences.proofs.pass.raised_starts.Given as goal

abbrev pub invariant-loop-i : goal.invariant-loop-i
invariant-loop-i l = (J : Tasks natural) → HoldsRanges J l.m → l.starts ≡ filled (raised_there J) l.i no_tasks
