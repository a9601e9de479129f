-- States: one atom, and a list of atoms, applied to a state.
use native.Mathlib.Decide.{ℕ_discrete}
use mathlib.Core.Path.{◌≡◌, refl, sym, ap, ◌∙◌, subst}
use mathlib.Core.Bool.{true, false}
use mathlib.Core.List.{List, [], ◌∷◌}
use Prim.Native.Nat.{ℕ, ◌<◌}
use native.Mathlib.Omega.{arith}
use lib.IntN.{ℤ}
use lib.ListN.{length, length-set, length-replicate, get_or-replicate}
use lib.Seq.{get_or-set_same, get_or-set_other}
use Rattle.integers.specs.Limits.{VARIABLES}
use Rattle.integers.specs.declared.refused.Refusal.{Refusal}
use Rattle.integers.specs.declared.refused.Refusal.TheVariants as refusal
use Rattle.scheduling.specs.Scheduling.{Atom, Every}
use Rattle.integers.proofs.WholeNumbers.{has_none}
use Rattle.checking.specs.declared.int_ext.IntExt.TheVariants.{NegativeInf, PositiveInf}
use Rattle.checking.specs.declared.domain.Domain.{Domain}
use Rattle.checking.specs.declared.domain.Effect.TheVariants.{Narrowed, Emptied, Full}
use Rattle.checking.specs.declared.domain.Reduced.{Reduced}
use Rattle.checking.proofs.Choices.{choice}
use Rattle.checking.specs.Domains.{Tight, consistent, applied, needs_room, settled, reduced, every_integer, Proper}
use Rattle.checking.proofs.NarrowedDomains.{made_tight, applied_leaves}
use Rattle.checking.specs.declared.variable_state.VariableState.{VariableState}
use Rattle.checking.specs.declared.variable_state.Application.{Application}
use Rattle.checking.specs.declared.variable_state.Application.TheVariants.{Consistent, Contradiction, Refused}
use Rattle.checking.specs.declared.variable_state.Applied.{Applied}
use Rattle.checking.specs.States.{AcceptedState, no_domain, domain_at, put, empty_state, outcome, stepped, apply_all}

-- ---- what an atom does to a domain, by cases
module _ (d : Domain) (k : ℕ) (v : ℤ) where
  pub reduced_case : (P : Reduced → Type 0) → (needs_room d k v ≡ true → P (record { effect = Full; domain = d }))
      → (needs_room d k v ≡ false → consistent (applied d k v) ≡ true → P (record { effect = Narrowed; domain = applied d k v }))
      → (needs_room d k v ≡ false → consistent (applied d k v) ≡ false → P (record { effect = Emptied; domain = applied d k v }))
      → P (reduced d k v)
  unfolding reduced settled
  reduced_case P f g h = choice P (needs_room d k v) f (λ p. choice P (consistent (applied d k v)) (g p) (h p))

-- ---- states
pub all_tight : Tight every_integer
all_tight = made_tight NegativeInf PositiveInf [] refl refl (omega arith) tt (λ h m. absurd (has_none h m))

pub empty_accepted : AcceptedState empty_state
empty_accepted = record {
  size = length-replicate VARIABLES every_integer;
  each = λ x h. subst Proper (sym (get_or-replicate VARIABLES x every_integer no_domain h)) (record { tight = all_tight; ordered = refl });
}

pub put_same : (s : VariableState) (x : ℕ) (d : Domain) → x < length s.domains → domain_at (put s x d) x ≡ d
put_same s x d h = get_or-set_same s.domains x d no_domain h

pub put_other : (s : VariableState) (x y : ℕ) (d : Domain) → (y ≡ x → ⊥) → domain_at (put s x d) y ≡ domain_at s y
put_other s x y d n = get_or-set_other s.domains x y d no_domain n

-- what holds of the new domain and of those that were there holds of all
pub put_each : (P : Domain → Type 0) (s : VariableState) (x : ℕ) (d : Domain) → x < length s.domains → P d → (y : ℕ) → P (domain_at s y) → P (domain_at (put s x d) y)
put_each P s x d h p y q = elim (ℕ_discrete y x) [ yes e ↦ rw e (subst P (sym (put_same s x d h)) p) | no n ↦ subst P (sym (put_other s x y d n)) q ]

pub put_accepted : (s : VariableState) (x : ℕ) (d : Domain) → AcceptedState s → x < VARIABLES → Proper d → AcceptedState (put s x d)
put_accepted s x d a h p = record { size = length-set s.domains x d ∙ a.size; each = λ y l. put_each Proper s x d (omega (arith, a.size)) p y (a.each y l) }

-- ---- one atom
module _ (s : VariableState) (a : Atom) (r : Reduced) (is : r ≡ reduced (domain_at s a.variable) a.kind a.value) where
  stepped_is : stepped s a ≡ outcome s a r
  unfolding stepped
  stepped_is = ap (outcome s a) (sym is)

  pub when_narrowed : r.effect ≡ Narrowed → stepped s a ≡ record { answer = Consistent; state = put s a.variable r.domain }
  when_narrowed e = stepped_is ∙ rw e

  pub when_emptied : r.effect ≡ Emptied → stepped s a ≡ record { answer = Contradiction a.variable; state = s }
  when_emptied e = stepped_is ∙ rw e

  pub when_full : r.effect ≡ Full → stepped s a ≡ record { answer = Refused refusal.Holes; state = s }
  when_full e = stepped_is ∙ rw e

-- ---- a list of atoms
module _ (s : VariableState) (a : Atom) (rest : List Atom) where
  -- what follows the first atom's answer
  abbrev resume : Applied → Applied
  resume r = elim r.answer [
    | Consistent ↦ apply_all rest r.state
    | Contradiction x ↦ record { answer = Contradiction x; state = s }
    | Refused why ↦ record { answer = Refused why; state = empty_state }
  ]

  pub all_on : (r : Applied) → stepped s a ≡ r → apply_all (a ∷ rest) s ≡ resume r
  unfolding apply_all
  all_on r e = ap resume e

  pub all_consistent : (stepped s a).answer ≡ Consistent → apply_all (a ∷ rest) s ≡ apply_all rest (stepped s a).state
  all_consistent n = all_on (record { answer = Consistent; state = (stepped s a).state }) (λ i. record { answer = n i; state = (stepped s a).state })

  -- the three ways that a list goes on
  pub all_case : (P : Applied → Type 0) → ((stepped s a).answer ≡ Consistent → P (apply_all rest (stepped s a).state))
      → ((x : ℕ) → (stepped s a).answer ≡ Contradiction x → P (record { answer = Contradiction x; state = s }))
      → ((m : Refusal) → (stepped s a).answer ≡ Refused m → P (record { answer = Refused m; state = empty_state })) → P (apply_all (a ∷ rest) s)
  unfolding apply_all
  all_case P f g h = by (stepped s a).answer refl
    where
      by : (w : Application) → (stepped s a).answer ≡ w → P (resume (record { answer = w; state = (stepped s a).state }))
      by Consistent n = f n
      by (Contradiction x) n = g x n
      by (Refused m) n = h m n

pub all_end : (s : VariableState) → apply_all [] s ≡ record { answer = Consistent; state = s }
unfolding apply_all
all_end s = refl

-- ---- one atom, by cases
module _ (s : VariableState) (a : Atom) where
  abbrev d : Domain
  d = domain_at s a.variable

  abbrev d' : Domain
  d' = applied d a.kind a.value

  pub stepped_case : (P : Applied → Type 0) → (needs_room d a.kind a.value ≡ true → P (record { answer = Refused refusal.Holes; state = s }))
      → (needs_room d a.kind a.value ≡ false → consistent d' ≡ true → P (record { answer = Consistent; state = put s a.variable d' }))
      → (needs_room d a.kind a.value ≡ false → consistent d' ≡ false → P (record { answer = Contradiction a.variable; state = s })) → P (stepped s a)
  unfolding stepped
  stepped_case P f g h = reduced_case d a.kind a.value (λ r. P (outcome s a r)) f g h

  pub stepped_accepted : AcceptedState s → a.variable < VARIABLES → AcceptedState (stepped s a).state
  stepped_accepted acc h = stepped_case (λ r. AcceptedState r.state) (λ _. acc)
      (λ p q. put_accepted s a.variable d' acc h (record { tight = (applied_leaves d a.kind a.value (acc.each a.variable h).tight p).tight; ordered = q })) (λ _ _. acc)

pub all_accepted : (atoms : List Atom) → Every (λ a. a.variable < VARIABLES) atoms → (s : VariableState) → AcceptedState s → AcceptedState (apply_all atoms s).state
all_accepted [] k s acc = subst (λ (r : Applied). AcceptedState r.state) (sym (all_end s)) acc
all_accepted (a ∷ rest) k s acc = all_case s a rest (λ r. AcceptedState r.state) (λ _. all_accepted rest k.1 (stepped s a).state (stepped_accepted s a acc k.0)) (λ _ _. acc)
    (λ _ _. empty_accepted)
