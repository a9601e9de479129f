-- The two tests give an accepted state and an atom within the limits, which `apply_atom` asks for; `apply_promise` turns its equation into what it means.
use Rattle.checking.proofs.AcceptedStates.{tested_state}
use mathlib.Core.Path.{◌≡◌, sym, ap, ◌∙◌, subst}
use mathlib.Core.Bool.{true}
use Prim.Native.Nat.{◌+◌}
use native.Mathlib.Omega.{arith}
use Rattle.integers.specs.Limits.{VALUE}
use Rattle.scheduling.specs.Scheduling.{Atom}
use Rattle.integers.specs.WholeNumbers.{Within}
use Rattle.integers.proofs.WholeNumbers.{wider}
use Rattle.checking.specs.Atoms.{atom_of, atom_from, right_atom}
use Rattle.checking.proofs.Atoms.{right_atom_is}
use Rattle.checking.proofs.ReadWords.{read_right, read_atom, made_known}
use Rattle.checking.specs.States.{accepted, stepped, applied_to}
use Rattle.checking.proofs.Promises.{apply_promise}
use Rattle.checking.proofs.variable_state.VariableState.apply.Goals.{After-atom_is_accepted, After-new, Else-not-atom_is_accepted, Else-not-is_accepted}
use Rattle.checking.proofs.variable_state.VariableState.apply.Goals as goal

-- what the tests say: the state, and the words
state_right : (c : Else-not-is_accepted) → accepted c.args.self.domains ≡ true
state_right c = sym c.is_accepted.ensures.0 ∙ c.if-not-is_accepted.false

tested : (c : After-atom_is_accepted) → let a = c.args in right_atom a.variable a.kind a.value ≡ c.atom_is_accepted.result
tested c = let f = c.ranges in sym (c.atom_is_accepted.ensures ∙ read_right f.variable f.kind f.value)

atom_right : (c : Else-not-atom_is_accepted) → let a = c.args in right_atom a.variable a.kind a.value ≡ true
atom_right c = tested c.before ∙ c.if-not-atom_is_accepted.false

-- the atom that was made
made : (c : After-new) → let a = c.args in atom_of c.new.result ≡ atom_from a.variable a.kind a.value
made c = let f = c.ranges in c.new.ensures ∙ read_atom f.variable f.kind f.value

pub returns-then-not-is_accepted : goal.returns-then-not-is_accepted
unfolding applied_to
returns-then-not-is_accepted c = let a = c.args in
    apply_promise a.self a.variable a.kind a.value (tested_state c.is_accepted.ensures) _ (rw (sym c.is_accepted.ensures.0 ∙ c.if-not-is_accepted.true))

pub returns-then-not-atom_is_accepted : goal.returns-then-not-atom_is_accepted
unfolding applied_to
returns-then-not-atom_is_accepted c = let a = c.args in
    apply_promise a.self a.variable a.kind a.value (tested_state c.is_accepted.ensures) _
    (rw (state_right (goal.at.returns-then-not-atom_is_accepted c).Else-not-is_accepted, tested (goal.at.returns-then-not-atom_is_accepted c).After-atom_is_accepted ∙ c.if-not-atom_is_accepted.true))

pub apply_atom-requires : goal.apply_atom-requires
apply_atom-requires c =
    let right = atom_right (goal.at.apply_atom-requires c).Else-not-atom_is_accepted in
    let near = subst (Within (VALUE + 1)) (sym (ap (λ (a : Atom). a.value) (made c))) (wider VALUE (VALUE + 1) _ (omega arith) (right_atom_is _ _ _ right).value) in
    (tested_state c.is_accepted.ensures (state_right (goal.at.apply_atom-requires c).Else-not-is_accepted), (made_known _ _ _ c.new.result (made c) right, near))

pub returns : goal.returns
unfolding applied_to
returns c =
    let a = c.args in
    apply_promise a.self a.variable a.kind a.value (tested_state c.is_accepted.ensures) _
    (rw (state_right (goal.at.returns c).Else-not-is_accepted, atom_right (goal.at.returns c).Else-not-atom_is_accepted) (c.apply_atom.ensures ∙ ap (stepped a.self) (made (goal.at.returns c).After-new)))

pub new-requires : goal.new-requires
new-requires c = sym c.atom_is_accepted.ensures ∙ c.if-not-atom_is_accepted.false
