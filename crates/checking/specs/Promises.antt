-- What the open calls promise, in the values that a state admits. An answer is named by its numbers (Answers.antt).
use Rattle.std.specs.Prelude.{◌≡◌, Bool, true, false, cond, List, [], ◌∷◌, ◌++◌, ◌↔◌, ℕ, ◌+◌, ◌*◌, ◌≤◌, ◌<◌, ℤ, pos, negsuc, nat_abs, length, ◌<ℤ◌, Result}
use Rattle.integers.specs.Refused as refused
use Rattle.integers.specs.Limits.{VARIABLES, PREMISES}
use Rattle.integers.specs.Answers.{answered, refused_by}
use Rattle.scheduling.specs.Scheduling.{whole, Least, Largest, Atom, Compares, Allows, Admits, given}
use Rattle.checking.specs.Atoms.{atom_from, atoms_of, consequent_of, right_variable, right_atom, right_lists}
use Rattle.checking.specs.Domains.{Admitted, needs_room}
use Rattle.checking.specs.declared.variable_state.VariableState.{VariableState}
use Rattle.checking.specs.declared.variable_state.Application.TheVariants as application
use Rattle.checking.specs.declared.variable_state.Applied.{Applied}
use Rattle.checking.specs.declared.int_ext.IntExt.{IntExt}
use Rattle.integers.specs.declared.refused.Refusal.{Refusal}
use Rattle.checking.specs.States.{domain_at, empty_state, accepted, apply_all}
use Rattle.checking.specs.Answers.{application_numbers, numbers_of_truth, numbers_of_bound}

-- The empty state: every variable may be any integer.
pub record EmptyMeans (r : VariableState) : Type 0 where
  pub any : (x : ℕ) → x < VARIABLES → (z : ℤ) → Admitted (domain_at r x) z
  pub again : accepted r.domains ≡ true

-- One atom ---------------------------------------------------------------------------------------------------------------------

-- The atom takes s to t: its variable admits what it admitted and the atom allows, which is something, and no other domain changes.
pub record Narrows (s : VariableState) (a : Atom) (t : VariableState) : Type 0 where
  pub admits : (z : ℤ) → Admitted (domain_at t a.variable) z ↔ (Admitted (domain_at s a.variable) z × Allows a z)
  pub left : (z : ℤ) × Admitted (domain_at t a.variable) z
  pub others : (y : ℕ) → (y ≡ a.variable → ⊥) → domain_at t y ≡ domain_at s y

-- The atom would leave no value.
abbrev pub Excludes : VariableState → Atom → Type 0
Excludes s a = (z : ℤ) → Admitted (domain_at s a.variable) z → Allows a z → ⊥

-- The atom needs a hole too many.
abbrev pub lacks_room : VariableState → Atom → Bool
lacks_room s a = needs_room (domain_at s a.variable) a.kind a.value

-- apply: the first of 22, 6 and 21 that applies
abbrev pub apply_refusal : VariableState → ℤ → ℤ → ℤ → ℕ
apply_refusal s x k v = cond (accepted s.domains) (cond (right_atom x k v) (cond (lacks_room s (atom_from x k v)) 21 0) 6) 22

pub record ApplyMeans (s : VariableState) (x k v : ℤ) (r : Applied) : Type 0 where
  pub number : (application_numbers r.answer).number ≡ apply_refusal s x k v
  pub refused : (n : ℕ) → application_numbers r.answer ≡ refused_by n → r.state ≡ s
  pub contradiction : (y : ℕ) → application_numbers r.answer ≡ answered 2 (pos y ∷ []) → (y ≡ nat_abs x) × (r.state ≡ s)
      × Excludes s (atom_from x k v)
  pub consistent : application_numbers r.answer ≡ answered 0 [] → Narrows s (atom_from x k v) r.state
  pub again : accepted s.domains ≡ true → accepted r.state.domains ≡ true

-- Queries ----------------------------------------------------------------------------------------------------------------------

-- a query: the first of 22 and 6 that applies
abbrev pub query_refusal : VariableState → Bool → ℕ
query_refusal s right = cond (accepted s.domains) (cond right 0 6) 22

-- is_true: every admitted value meets the atom; else some admitted value does not
pub record TruthMeans (s : VariableState) (x k v : ℤ) (r : Result Bool Refusal) : Type 0 where
  pub number : (numbers_of_truth r).number ≡ query_refusal s (right_atom x k v)
  pub holds : numbers_of_truth r ≡ answered 0 [] → (z : ℤ) → Admitted (domain_at s (nat_abs x)) z → Compares (nat_abs k) v z
  pub fails : numbers_of_truth r ≡ answered 1 [] → (z : ℤ) × Admitted (domain_at s (nat_abs x)) z × (Compares (nat_abs k) v z → ⊥)

-- lower_bound: the least admitted value, or minus infinity where there is a value below each
pub record LowerMeans (s : VariableState) (x : ℤ) (r : Result IntExt Refusal) : Type 0 where
  pub number : (numbers_of_bound r).number ≡ query_refusal s (right_variable x)
  pub least : (u : ℤ) → numbers_of_bound r ≡ answered 0 (pos 0 ∷ u ∷ []) → Least whole (Admitted (domain_at s (nat_abs x))) u
  pub unbounded : numbers_of_bound r ≡ answered 0 (negsuc 0 ∷ []) → (z : ℤ) → (w : ℤ) × Admitted (domain_at s (nat_abs x)) w × (w <ℤ z)
  pub never : numbers_of_bound r ≡ answered 0 (pos 1 ∷ []) → ⊥

-- upper_bound: the greatest admitted value, or plus infinity where there is a value above each
pub record UpperMeans (s : VariableState) (x : ℤ) (r : Result IntExt Refusal) : Type 0 where
  pub number : (numbers_of_bound r).number ≡ query_refusal s (right_variable x)
  pub largest : (u : ℤ) → numbers_of_bound r ≡ answered 0 (pos 0 ∷ u ∷ []) → Largest whole (Admitted (domain_at s (nat_abs x))) u
  pub unbounded : numbers_of_bound r ≡ answered 0 (pos 1 ∷ []) → (z : ℤ) → (w : ℤ) × Admitted (domain_at s (nat_abs x)) w × (z <ℤ w)
  pub never : numbers_of_bound r ≡ answered 0 (negsuc 0 ∷ []) → ⊥

-- A list of atoms --------------------------------------------------------------------------------------------------------------

-- An atom of the list is reached from the empty state: those before it are consistent and lead to `state`.
pub record Reaches (atoms : List Atom) : Type 0 where
  pub before : List Atom
  pub atom : Atom
  pub after : List Atom
  pub split : atoms ≡ before ++ (atom ∷ after)
  pub state : VariableState
  pub reached : apply_all before empty_state ≡ record { answer = application.Consistent; state = state }

-- An atom of the list is reached and needs a hole too many.
abbrev pub NoRoom : List Atom → Type 0
NoRoom atoms = (p : Reaches atoms) × (lacks_room p.state p.atom ≡ true)

-- The first atom to leave a variable no value, by the values alone: those before it leave every variable one, and with it x has none.
pub record EmptiesFirst (atoms : List Atom) (x : ℕ) : Type 0 where
  pub before : List Atom
  pub atom : Atom
  pub after : List Atom
  pub split : atoms ≡ before ++ (atom ∷ after)
  pub variable : atom.variable ≡ x
  pub left : (y : ℕ) → (z : ℤ) × Admits before y z
  pub none : (z : ℤ) → Admits before x z → Allows atom z → ⊥

-- prepare_for_conflict_check: 7, then 6, then atom by atom 21 or a contradiction. What is admitted in the end is what the premises and the
-- negated consequent admit.
pub record PrepareMeans (premises consequent : List ℤ) (r : Applied) : Type 0 where
  pub many : 3 * PREMISES + 2 < length premises → application_numbers r.answer ≡ refused_by refused.PREMISES
  pub malformed : length premises ≤ 3 * PREMISES + 2 → right_lists premises consequent ≡ false
      → application_numbers r.answer ≡ refused_by refused.ATOMS
  pub refused : (n : ℕ) → application_numbers r.answer ≡ refused_by n → r.state ≡ empty_state
  pub room : length premises ≤ 3 * PREMISES + 2 → right_lists premises consequent ≡ true → (n : ℕ) → application_numbers r.answer ≡ refused_by n
      → (n ≡ 21) × NoRoom (given (atoms_of premises) (consequent_of consequent))
  pub contradiction : (y : ℕ) → application_numbers r.answer ≡ answered 2 (pos y ∷ [])
      → (p : Reaches (given (atoms_of premises) (consequent_of consequent))) × (p.atom.variable ≡ y) × (p.state ≡ r.state)
      × Excludes p.state p.atom
  pub consistent : application_numbers r.answer ≡ answered 0 [] → (x : ℕ) → x < VARIABLES → (z : ℤ)
      → Admitted (domain_at r.state x) z ↔ Admits (given (atoms_of premises) (consequent_of consequent)) x z
  pub again : accepted r.state.domains ≡ true
