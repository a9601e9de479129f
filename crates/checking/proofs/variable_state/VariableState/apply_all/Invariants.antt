-- The invariant: the state is accepted, and to apply what remains to it is to prepare the whole.
use Prim.Native.Nat.{◌*◌}
use Rattle.checking.specs.States.{AcceptedState}
use Rattle.checking.proofs.Remaining.{Remaining}
use Rattle.checking.proofs.variable_state.VariableState.apply_all.Given as goal

abbrev pub invariant-loop-k : goal.invariant-loop-k
invariant-loop-k l = AcceptedState (record { domains = l.domains }) × Remaining l.premises l.consequent (3 * l.k) (record { domains = l.domains })
