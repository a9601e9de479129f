-- The invariant: the words are the bounds of a state, and to apply what remains to it is to prepare the whole.
use Prim.Native.Nat.{◌*◌}
use Rattle.checking.specs.BoundWords.{HeldWords}
use Rattle.checking.proofs.Remaining.{Remaining}
use Rattle.checking.specs.declared.variable_state.VariableState.{VariableState}
use Rattle.checking.proofs.prepared_bounds.apply_all.Given as goal

abbrev pub invariant-loop-k : goal.invariant-loop-k
invariant-loop-k l = (s : VariableState) × HeldWords s l.words × Remaining l.premises l.consequent (3 * l.k) s
