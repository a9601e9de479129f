-- The bounds that the queries answer of a prepared state: the least and the greatest value that its atoms admit.
use mathlib.Core.Path.{◌≡◌, refl, sym, ap, ap₂, ◌∙◌}
use mathlib.Core.Logic.{⊎_elim}
use mathlib.Core.List.{List}
use mathlib.Core.Option.{some, none}
use Prim.Native.Nat.{ℕ, ◌+◌, ◌≤◌, ◌<◌}
use native.Mathlib.Omega.{arith}
use lib.IntN.{ℤ, pos}
use Rattle.integers.specs.Limits.{TASKS, VARIABLES, VALUE, HOLES}
use Rattle.integers.proofs.Ints.{ints}
use Rattle.scheduling.specs.Scheduling.{whole, Least, Largest, Atom, Admits, given}
use Rattle.integers.specs.WholeNumbers.{Within}
use Rattle.checking.specs.Atoms.{atoms_of, consequent_of}
use Rattle.checking.proofs.Atoms.{number_right}
use Rattle.checking.specs.declared.int_ext.IntExt.{IntExt}
use Rattle.checking.specs.declared.int_ext.IntExt.TheVariants.{Int, NegativeInf, PositiveInf}
use Rattle.checking.specs.declared.domain.Domain.{Domain}
use Rattle.checking.specs.Domains.{Proper}
use Rattle.checking.proofs.Values.{bound_is, lower_least, upper_largest, lower_none, upper_none}
use Rattle.checking.specs.declared.variable_state.Side.{Side}
use Rattle.checking.specs.declared.variable_state.Side.TheVariants.{Lower, Upper}
use Rattle.checking.proofs.Sides.{open_on}
use Rattle.checking.specs.declared.variable_state.VariableState.{VariableState}
use Rattle.checking.specs.declared.variable_state.Application.TheVariants.{Consistent}
use Rattle.std.specs.Prelude.{Result, Ok}
use Rattle.integers.specs.declared.refused.Refusal.{Refusal}
use Rattle.checking.specs.Bounds.{finite, lower_in, upper_in}
use Rattle.checking.specs.States.{AcceptedState, domain_at, bound_of, lower_of, upper_of, side_of, prepared}
use Rattle.checking.specs.TaskBounds.{bounds_between, bounds_of_task, bounds_at, bounds_by, bounds_among}
use Rattle.checking.proofs.FilledBounds.{bounds_same}
use Rattle.checking.proofs.AcceptedStates.{state_accepted}
use Rattle.checking.proofs.BoundLimits.{prepared_near}
use Rattle.checking.proofs.PreparedStates.{prepared_accepted, prepared_admits}

-- An accepted state ------------------------------------------------------------------------------------------------------------

-- the query answers with the bound of the domain
at : (side : Domain → IntExt) (s : VariableState) → AcceptedState s → (x : ℕ) → x < VARIABLES → bound_of side s (pos x) ≡ Ok (side (domain_at s x))
unfolding bound_of
at side s a x h = rw (state_accepted s.domains a, number_right x h) refl

pub bounds_at_are : (s : VariableState) → AcceptedState s → (x : ℕ) → x < VARIABLES → bounds_of_task (domain_at s x) ≡ bounds_at s x
bounds_at_are s a x h = ap₂ (λ (l u : Result IntExt Refusal). bounds_between (finite l) (finite u)) (sym (at lower_of s a x h)) (sym (at upper_of s a x h))

pub bounds_among_are : (s : VariableState) → AcceptedState s → (n : ℕ) → n ≤ TASKS → bounds_by (λ k. bounds_of_task (domain_at s k)) n ≡ bounds_among s n
bounds_among_are s a n few = bounds_same (λ k. bounds_of_task (domain_at s k)) (bounds_at s) n (λ k h. bounds_at_are s a k (omega arith))

-- A prepared state -------------------------------------------------------------------------------------------------------------

-- a bound that is a number
finite_is : (e : IntExt) (u : ℤ) → finite (Ok e) ≡ some u → e ≡ Int u
finite_is (Int z) u h = cc
finite_is NegativeInf u h = absurd (let z : ◌≡◌ {A = ℕ} 0 1 = cc in omega arith)
finite_is PositiveInf u h = absurd (let z : ◌≡◌ {A = ℕ} 0 1 = cc in omega arith)

module _ (premises consequent : List ℤ) (x : ℕ) (h : x < VARIABLES) where
  abbrev atoms : List Atom
  atoms = given (atoms_of premises) (consequent_of consequent)

  abbrev s : VariableState
  s = (prepared premises consequent).state

  abbrev d : Domain
  d = domain_at s x

  proper : Proper d
  proper = (prepared_accepted premises consequent).each x h

  -- the domain's bound, as the query answers it
  asked : (side : Side) → finite (Ok (side_of side d)) ≡ finite (bound_of (side_of side) s (pos x))
  asked side = ap finite (sym (at (side_of side) s (prepared_accepted premises consequent) x h))

  found : (side : Side) (u : ℤ) → finite (bound_of (side_of side) s (pos x)) ≡ some u → side_of side d ≡ Int u
  found side u e = finite_is (side_of side d) u (asked side ∙ e)

  none_found : (side : Side) → finite (bound_of (side_of side) s (pos x)) ≡ none → side_of side d ≡ open_on side
  none_found side e = ⊎_elim (λ f. absurd (number f.0 (sym (ap (λ (b : IntExt). finite (Ok b)) f.1) ∙ asked side ∙ e))) (λ g. g) (bound_is d proper side)
    where
      number : (u : ℤ) → some u ≡ none → ⊥
      number u e = let z : ◌≡◌ {A = ℕ} 0 1 = cc in omega arith

  -- no further out than an atom's value, negated, past a chain of holes
  pub lower_near : (u : ℤ) → lower_in (prepared premises consequent).state x ≡ some u → Within (VALUE + 1 + HOLES) u
  lower_near u e = (prepared_near premises consequent x h).lower u (found Lower u e)

  pub upper_near : (u : ℤ) → upper_in (prepared premises consequent).state x ≡ some u → Within (VALUE + 1 + HOLES) u
  upper_near u e = (prepared_near premises consequent x h).upper u (found Upper u e)

  -- where the atoms are consistent: their least and their greatest value, or there is none
  module _ (ok : (prepared premises consequent).answer ≡ Consistent) where
    pub lower_is : (u : ℤ) → lower_in (prepared premises consequent).state x ≡ some u → Least whole (Admits (given (atoms_of premises) (consequent_of consequent)) x) u
    lower_is u e =
        let l = lower_least d proper u (found Lower u e) in
        record { holds = (prepared_admits premises consequent ok x h u).0 l.holds; bounds = λ w m. l.bounds w ((prepared_admits premises consequent ok x h w).1 m) }

    pub upper_is : (u : ℤ) → upper_in (prepared premises consequent).state x ≡ some u → Largest whole (Admits (given (atoms_of premises) (consequent_of consequent)) x) u
    upper_is u e =
        let l = upper_largest d proper u (found Upper u e) in
        record { holds = (prepared_admits premises consequent ok x h u).0 l.holds; bounds = λ w m. l.bounds w ((prepared_admits premises consequent ok x h w).1 m) }

    pub lower_none_is : lower_in (prepared premises consequent).state x ≡ none → (u : ℤ) → Least whole (Admits (given (atoms_of premises) (consequent_of consequent)) x) u → ⊥
    lower_none_is e u l =
        let (w, m, below) = lower_none d proper (none_found Lower e) u in
        let q = l.bounds w ((prepared_admits premises consequent ok x h w).0 m) in
        omega ints

    pub upper_none_is : upper_in (prepared premises consequent).state x ≡ none → (u : ℤ) → Largest whole (Admits (given (atoms_of premises) (consequent_of consequent)) x) u → ⊥
    upper_none_is e u l =
        let (w, m, over) = upper_none d proper (none_found Upper e) u in
        let q = l.bounds w ((prepared_admits premises consequent ok x h w).0 m) in
        omega ints
