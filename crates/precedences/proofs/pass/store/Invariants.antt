-- The invariant: the first k starts are the raised ones, and those from k on are unchanged.
use mathlib.Core.Path.{◌≡◌}
use Rattle.integers.specs.FilledLists.{filled}
use Rattle.precedences.specs.PredecessorArrays.{start_at}
use Rattle.precedences.proofs.pass.store.Given as goal

abbrev pub invariant-loop-k : goal.invariant-loop-k
invariant-loop-k l = l.earliest ≡ filled (start_at l.starts) l.k l.initial.earliest
