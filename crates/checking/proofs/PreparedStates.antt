-- Laws on a prepared state, for the checker: what it admits, and when it succeeds.
use mathlib.Core.Path.{◌≡◌, refl, ap, ◌∙◌}
use mathlib.Core.Logic.{◌↔◌}
use mathlib.Core.Bool.{true, false}
use mathlib.Core.List.{List, [], ◌∷◌}
use Prim.Native.Nat.{ℕ, zero, suc, ◌+◌, ◌*◌, ◌≤◌, ◌<◌}
use native.Mathlib.Omega.{arith}
use lib.Dec.{ltb}
use lib.IntN.{ℤ}
use lib.ListN.{length}
use Rattle.integers.specs.Limits.{VARIABLES, PREMISES}
use Rattle.integers.specs.declared.refused.Refusal.{Refusal}
use Rattle.integers.specs.declared.refused.Refusal.TheVariants as refusal
use Rattle.integers.proofs.Bools.{clash}
use Rattle.scheduling.specs.Scheduling.{Atom, Every, Admits, given}
use Rattle.checking.proofs.Choices.{choice}
use Rattle.checking.specs.Atoms.{atoms_of, consequent_of, right_lists}
use Rattle.checking.specs.declared.domain.Domain.{Domain}
use Rattle.checking.specs.Domains.{Admitted, needs_room}
use Rattle.checking.specs.declared.variable_state.VariableState.{VariableState}
use Rattle.checking.specs.declared.variable_state.Application.TheVariants.{Consistent, Refused}
use Rattle.checking.specs.declared.variable_state.Applied.{Applied}
use Rattle.checking.specs.Answers.{application_numbers}
use Rattle.checking.specs.States.{AcceptedState, domain_at, empty_state, stepped, apply_all, prepared}
use Rattle.checking.proofs.Meaning.{differ, step_admits, step_contradiction, step_refused, Known, empty_admits}
use Rattle.checking.proofs.Promises.{prepare_means, given_known}
use Rattle.checking.proofs.Remaining.{prepared_runs}
use Rattle.checking.proofs.States.{stepped_accepted, all_accepted, empty_accepted, all_case, all_end}

-- ---- a list that succeeds
pub no_room : (d : Domain) (k : ℕ) (v : ℤ) → k < 3 → needs_room d k v ≡ false
no_room d zero v h = refl
no_room d (suc zero) v h = refl
no_room d (suc (suc zero)) v h = refl
no_room d (suc (suc (suc k))) v h = absurd (omega arith)

all_success : (atoms : List Atom) → Known atoms → Every (λ a. a.kind < 3) atoms → (s : VariableState) → AcceptedState s
    → ((x : ℕ) → x < VARIABLES → (z : ℤ) × Admitted (domain_at s x) z × Admits atoms x z) → (apply_all atoms s).answer ≡ Consistent
all_success [] k kinds s acc w = ap (λ (r : Applied). r.answer) (all_end s)
all_success (a ∷ rest) k kinds s acc w = all_case s a rest (λ r. r.answer ≡ Consistent)
    (λ n. all_success rest k.1 kinds.1 (stepped s a).state (stepped_accepted s a acc k.0) (λ x h. let (z, m, f) = w x h in (z, (step_admits s a acc k.0 n x z).1 (m, f.0), f.1)))
    (λ y n. let (z, m, f) = w a.variable k.0 in absurd ((step_contradiction s a acc k.0 y n).2 z m (f.0 refl)))
    (λ m n. clash (step_refused s a acc k.0 m n).2 (no_room (domain_at s a.variable) a.kind a.value kinds.0))

module _ (premises consequent : List ℤ) where
  abbrev atoms : List Atom
  atoms = given (atoms_of premises) (consequent_of consequent)

  abbrev state : VariableState
  state = (prepared premises consequent).state

  -- past the tests 7 and 6
  pub ran : (P : Applied → Type 0) → (right_lists premises consequent ≡ true → P (apply_all atoms empty_state)) → ((why : Refusal) → P (record { answer = Refused why; state = empty_state }))
      → P (prepared premises consequent)
  unfolding prepared
  ran P f g = choice P (ltb (3 * PREMISES + 2) (length premises)) (λ _. g refusal.Premises) (λ _. choice P (right_lists premises consequent) f (λ _. g refusal.Atoms))

  pub prepared_right : (prepared premises consequent).answer ≡ Consistent → right_lists premises consequent ≡ true
  prepared_right = ran (λ r. r.answer ≡ Consistent → right_lists premises consequent ≡ true) (λ r _. r) (λ n e. differ (Refused n) Consistent e (omega arith))

  pub prepared_accepted : AcceptedState state
  prepared_accepted = ran (λ r. AcceptedState r.state) (λ r. all_accepted atoms (given_known premises consequent r) empty_state empty_accepted) (λ _. empty_accepted)

  -- on success the state admits what the atoms admit
  module _ (ok : (prepared premises consequent).answer ≡ Consistent) (x : ℕ) (h : x < VARIABLES) where
    pub prepared_admits : (z : ℤ) → Admitted (domain_at state x) z ↔ Admits atoms x z
    prepared_admits z = (prepare_means premises consequent).consistent (ap application_numbers ok) x h z

  -- with kinds ≥, ≤ and = alone, atoms that each variable can meet are consistent
  pub prepared_success : length premises ≤ 3 * PREMISES + 2 → right_lists premises consequent ≡ true → Every (λ a. a.kind < 3) atoms → ((x : ℕ) → x < VARIABLES → (z : ℤ) × Admits atoms x z)
      → (prepared premises consequent).answer ≡ Consistent
  prepared_success l r kinds w =
      ap (λ (t : Applied). t.answer) (prepared_runs premises consequent l r)
      ∙ all_success atoms (given_known premises consequent r) kinds empty_state empty_accepted (λ x h. let (z, m) = w x h in (z, empty_admits x h z, m))
