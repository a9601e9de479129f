-- The variable state: which states are accepted, and what the open calls answer. Each definition takes its tests in the order in which
-- they are tried: 22 where a state is given, 7 where a list is, 6, then 21 or a contradiction, atom by atom.
use Rattle.std.specs.Prelude.{◌≡◌, Bool, true, cond, ◌&&◌, List, [], ◌∷◌, ℕ, ◌+◌, ◌*◌, ◌≤◌, ◌<◌, ltb, ℤ, nat_abs, length, get_or, set, replicate, Result, Ok, Err}
use Rattle.integers.specs.declared.refused.Refusal.{Refusal}
use Rattle.integers.specs.declared.refused.Refusal.TheVariants as refusal
use Rattle.integers.specs.Limits.{VARIABLES, HOLES, PREMISES}
use Rattle.scheduling.specs.Scheduling.{Atom, given}
use Rattle.checking.specs.Atoms.{atom_from, atoms_of, consequent_of, right_variable, right_atom, right_lists}
use Rattle.checking.specs.declared.int_ext.IntExt.{IntExt}
use Rattle.checking.specs.declared.int_ext.IntExt.TheVariants.{NegativeInf}
use Rattle.checking.specs.declared.domain.Domain.{Domain}
use Rattle.checking.specs.declared.domain.Effect.TheVariants.{Narrowed, Emptied, Full}
use Rattle.checking.specs.declared.domain.Reduced.{Reduced}
use Rattle.checking.specs.Domains.{every_integer, accepted_domain, reduced, true_of, Proper}
use Rattle.checking.specs.declared.variable_state.VariableState.{VariableState}
use Rattle.checking.specs.declared.variable_state.Application.TheVariants as application
use Rattle.checking.specs.declared.variable_state.Applied.{Applied}
use Rattle.checking.specs.declared.variable_state.Side.{Side}
use Rattle.checking.specs.declared.variable_state.Side.TheVariants.{Lower, Upper}

-- States -----------------------------------------------------------------------------------------------------------------------

-- what stands past the end of an array, as the language has it
abbrev pub no_domain : Domain
no_domain = record { lower_bound = NegativeInf; upper_bound = NegativeInf; holes = []; count = 0 }

-- the domain of variable x
abbrev pub domain_at : VariableState → ℕ → Domain
domain_at s x = get_or s.domains x no_domain

-- the state with another domain for variable x
abbrev pub put : VariableState → ℕ → Domain → VariableState
put s x d = record { domains = set s.domains x d }

-- the empty state: every variable may be any integer
abbrev pub empty_state : VariableState
empty_state = record { domains = replicate VARIABLES every_integer }

-- The state is an array of VARIABLES domains with HOLES places each.
pub record Sized (s : VariableState) : Type 0 where
  pub size : length s.domains ≡ VARIABLES
  pub places : (x : ℕ) → x < VARIABLES → length (domain_at s x).holes ≡ HOLES

-- every domain is accepted
unfoldable pub accepted : List Domain → Bool
accepted [] = true
accepted (d ∷ rest) = accepted_domain d && accepted rest

-- What an accepted state is: an array of VARIABLES accepted domains.
pub record AllProper (ds : List Domain) : Type 0 where
  pub size : length ds ≡ VARIABLES
  pub each : (x : ℕ) → x < VARIABLES → Proper (get_or ds x no_domain)

abbrev pub AcceptedState : VariableState → Type 0
AcceptedState s = AllProper s.domains

-- One atom ---------------------------------------------------------------------------------------------------------------------

abbrev pub outcome : VariableState → Atom → Reduced → Applied
outcome s a r = elim r.effect [
  | Narrowed ↦ record { answer = application.Consistent; state = put s a.variable r.domain }
  | Emptied ↦ record { answer = application.Contradiction a.variable; state = s }
  | Full ↦ record { answer = application.Refused refusal.Holes; state = s }
]

-- an atom applied to the domain of its variable
unfoldable pub stepped : VariableState → Atom → Applied
stepped s a = outcome s a (reduced (domain_at s a.variable) a.kind a.value)

-- apply: a refusal and a contradiction return the state given
unfoldable pub applied_to : VariableState → ℤ → ℤ → ℤ → Applied
applied_to s x k v =
    cond (accepted s.domains)
    (cond (right_atom x k v) (stepped s (atom_from x k v)) (record { answer = application.Refused refusal.Atoms; state = s }))
    (record { answer = application.Refused refusal.State; state = s })

-- is_true
unfoldable pub truth_of : VariableState → ℤ → ℤ → ℤ → Result Bool Refusal
truth_of s x k v =
    cond (accepted s.domains)
    (cond (right_atom x k v) (Ok (true_of (domain_at s (nat_abs x)) (nat_abs k) v)) (Err refusal.Atoms))
    (Err refusal.State)

-- lower_bound, upper_bound
abbrev pub lower_of : Domain → IntExt
lower_of d = d.lower_bound

abbrev pub upper_of : Domain → IntExt
upper_of d = d.upper_bound

abbrev pub side_of : Side → Domain → IntExt
side_of Lower = lower_of
side_of Upper = upper_of

unfoldable pub bound_of : (Domain → IntExt) → VariableState → ℤ → Result IntExt Refusal
bound_of side s x = cond (accepted s.domains) (cond (right_variable x) (Ok (side (domain_at s (nat_abs x)))) (Err refusal.Atoms))
    (Err refusal.State)

-- A list of atoms --------------------------------------------------------------------------------------------------------------

-- Atom by atom: a contradiction returns the state before the failing atom, and a refusal the empty state.
unfoldable pub apply_all : List Atom → VariableState → Applied
apply_all [] s = record { answer = application.Consistent; state = s }
apply_all (a ∷ rest) s = elim (stepped s a).answer [
  | application.Consistent ↦ apply_all rest (stepped s a).state
  | application.Contradiction x ↦ record { answer = application.Contradiction x; state = s }
  | application.Refused why ↦ record { answer = application.Refused why; state = empty_state }
]

-- The lists pass the tests 7 and 6.
pub record Applicable (premises consequent : List ℤ) : Type 0 where
  pub few : length premises ≤ 3 * PREMISES + 2
  pub right : right_lists premises consequent ≡ true

-- prepare_for_conflict_check
unfoldable pub prepared : List ℤ → List ℤ → Applied
prepared premises consequent =
    cond (ltb (3 * PREMISES + 2) (length premises)) (record { answer = application.Refused refusal.Premises; state = empty_state })
    (cond (right_lists premises consequent)
    (apply_all (given (atoms_of premises) (consequent_of consequent)) empty_state)
    (record { answer = application.Refused refusal.Atoms; state = empty_state }))
