-- The two tests in their order; then the domain of the atom's variable decides, and `truth_promise` says what its answer means.
use Rattle.checking.specs.Promises.{TruthMeans}
use Rattle.checking.specs.Answers.{numbers_of_truth}
use Rattle.std.specs.Prelude.{Result, Ok}
use Rattle.integers.specs.declared.refused.Refusal.{Refusal}
use Rattle.checking.proofs.AcceptedStates.{tested_state}
use mathlib.Core.Path.{◌≡◌, sym, ap, ◌∙◌}
use mathlib.Core.Bool.{Bool, true}
use Prim.Native.Nat.{◌<◌}
use native.Mathlib.Omega.{arith}
use lib.IntN.{nat_abs}
use Rattle.integers.specs.Limits.{VARIABLES}
use Rattle.integers.proofs.Ints.{back}
use Rattle.checking.specs.Atoms.{atom_of, atom_from, right_atom}
use Rattle.checking.proofs.ReadWords.{read_right, read_atom, made_known}
use Rattle.checking.specs.Domains.{true_of}
use Rattle.checking.specs.States.{domain_at, accepted, truth_of}
use Rattle.checking.proofs.Promises.{truth_promise}
use Rattle.checking.proofs.variable_state.VariableState.is_true.Goals.{After-atom_is_accepted, After-is_accepted, After-is_true, After-new-atom, Else-not-atom_is_accepted, Else-not-is_accepted}
use Rattle.checking.proofs.variable_state.VariableState.is_true.Goals as goal

-- what the tests say: the state, and the words
state_right : (c : Else-not-is_accepted) → accepted c.args.self.domains ≡ true
state_right c = sym c.is_accepted.ensures.0 ∙ c.if-not-is_accepted.false

tested : (c : After-atom_is_accepted) → let a = c.args in right_atom a.variable a.kind a.value ≡ c.atom_is_accepted.result
tested c = let f = c.ranges in sym (c.atom_is_accepted.ensures ∙ read_right f.variable f.kind f.value)

atom_right : (c : Else-not-atom_is_accepted) → let a = c.args in right_atom a.variable a.kind a.value ≡ true
atom_right c = tested c.before ∙ c.if-not-atom_is_accepted.false

-- the atom that was made
made : (c : After-new-atom) → let a = c.args in atom_of c.new-atom.result ≡ atom_from a.variable a.kind a.value
made c = let f = c.ranges in c.new-atom.ensures ∙ read_atom f.variable f.kind f.value

known : (c : After-new-atom) → c.new-atom.result.identifier < VARIABLES
known c = made_known _ _ _ c.new-atom.result (made c) (atom_right c.before)

-- what an answer means
promise : (c : After-is_accepted) → let a = c.args in (r : Result Bool Refusal) → r ≡ truth_of a.self a.variable a.kind a.value
    → record { equals : numbers_of_truth r ≡ numbers_of_truth (truth_of a.self a.variable a.kind a.value); means : TruthMeans a.self a.variable a.kind a.value r }
promise c = let a = c.args in truth_promise a.self a.variable a.kind a.value (tested_state c.is_accepted.ensures)

pub returns-then-not-is_accepted : goal.returns-then-not-is_accepted
unfolding truth_of
returns-then-not-is_accepted c = promise (goal.at.returns-then-not-is_accepted c).After-is_accepted _ (rw (sym c.is_accepted.ensures.0 ∙ c.if-not-is_accepted.true))

pub returns-then-not-atom_is_accepted : goal.returns-then-not-atom_is_accepted
unfolding truth_of
returns-then-not-atom_is_accepted c = promise (goal.at.returns-then-not-atom_is_accepted c).After-is_accepted _ (rw (state_right (goal.at.returns-then-not-atom_is_accepted c).Else-not-is_accepted, tested (goal.at.returns-then-not-atom_is_accepted c).After-atom_is_accepted ∙ c.if-not-atom_is_accepted.true))

pub is_true-requires : goal.is_true-requires
is_true-requires c =
    ((tested_state c.is_accepted.ensures (state_right (goal.at.is_true-requires c).Else-not-is_accepted)).each c.new-atom.result.identifier (known (goal.at.is_true-requires c).After-new-atom)).tight

-- what the domain's own test says, of the atom's words
said : (c : After-is_true) → let a = c.args in
    c.is_true.result ≡ true_of (domain_at a.self (nat_abs a.variable)) (nat_abs a.kind) a.value
said c =
    let m = made c.before.before in
    c.is_true.ensures ∙ (λ i. true_of (domain_at c.args.self (m i).variable) (m i).kind (back c.ranges.value i))

pub returns : goal.returns
unfolding truth_of
returns c =
    promise (goal.at.returns c).After-is_accepted _ (rw (state_right (goal.at.returns c).Else-not-is_accepted, atom_right (goal.at.returns c).Else-not-atom_is_accepted)
    (ap (λ (t : Bool). Ok t) (said c)))

pub new-atom-requires : goal.new-atom-requires
new-atom-requires c = sym c.atom_is_accepted.ensures ∙ c.if-not-atom_is_accepted.false

pub offset_bounds-self-atom : goal.offset_bounds-self-atom
offset_bounds-self-atom c = omega (arith, known c)

pub bounds-self-atom : goal.bounds-self-atom
bounds-self-atom c = known c
