-- The invariant: the first j places say whether their task comes before task i, and the others are false.
use mathlib.Core.Path.{◌≡◌}
use mathlib.Core.Bool.{false}
use Prim.Native.Nat.{◌+◌}
use lib.ListN.{get_or, replicate}
use Rattle.integers.specs.Limits.{TASKS}
use Rattle.integers.specs.FilledLists.{filled}
use Rattle.precedences.specs.PredecessorArrays.{precedes_at}
use Rattle.precedences.proofs.predecessors.predecessors.Given as goal

abbrev pub invariant-loop-j : goal.invariant-loop-j
invariant-loop-j l = (l.end ≡ get_or l.m.est l.i 0 + get_or l.m.durations l.i 0) × (l.before ≡ filled (precedes_at l.m l.i) l.j (replicate TASKS false))
