-- The bounds of a prepared state lie near the limits of an atom's value: HOLES holes and a negation further out at most.
use mathlib.Core.Path.{◌≡◌, sym, subst}
use mathlib.Core.Bool.{true}
use mathlib.Core.List.{List, [], ◌∷◌}
use Prim.Native.Nat.{ℕ, zero, suc, ◌+◌, ◌≤◌, ◌<◌}
use native.Mathlib.Omega.{arith}
use lib.IntN.{ℤ, pos, negsuc}
use lib.ListN.{length, get_or-replicate}
use Rattle.integers.specs.Limits.{VARIABLES, VALUE, HOLES}
use Rattle.integers.proofs.Ints.{ints, up, dn, sumℤ}
use Rattle.scheduling.specs.Scheduling.{Atom, Every, given, negated_kind, negated_value}
use Rattle.holes.specs.Holes.{Ascending, last_at_or_before}
use Rattle.integers.specs.WholeNumbers.{Within}
use Rattle.holes.proofs.Ascending.{first_is, last_is}
use Rattle.holes.proofs.BoundSteps.{step_within, one_up, one_down}
use Rattle.integers.proofs.WholeNumbers.{wider}
use Rattle.checking.specs.Atoms.{atoms_of, consequent_of, right_lists}
use Rattle.checking.proofs.Atoms.{given_each}
use Rattle.checking.specs.declared.int_ext.IntExt.TheVariants.{Int, NegativeInf, PositiveInf}
use Rattle.checking.specs.declared.domain.Domain.{Domain}
use Rattle.checking.specs.Domains.{every_integer, holes_of, Tight, tightened_lower, less_lower, less_upper, between, hole_added, without, applied}
use Rattle.checking.proofs.Domains.{used}
use Rattle.checking.specs.declared.variable_state.Side.{Side}
use Rattle.checking.specs.declared.variable_state.Side.TheVariants.{Lower, Upper}
use Rattle.checking.proofs.Choices.{choice}
use Rattle.checking.proofs.Sides.{after_on, moved_onward}
use Rattle.checking.proofs.NarrowedDomains.{cut_on, tightened_on, tightened_case, tightened_leaves, without_on, without_case, side_cut}
use Rattle.checking.specs.declared.variable_state.VariableState.{VariableState}
use Rattle.checking.specs.declared.variable_state.Applied.{Applied}
use Rattle.checking.specs.States.{AcceptedState, no_domain, domain_at, empty_state, stepped, apply_all, prepared}
use Rattle.checking.proofs.Meaning.{Known}
use Rattle.checking.proofs.PreparedStates.{ran}
use Rattle.checking.proofs.Promises.{given_known}
use Rattle.checking.proofs.States.{stepped_case, stepped_accepted, all_case, all_end, empty_accepted, put_each}

-- finite bounds: no further out than an atom's value, negated, past a chain of holes
pub record Near (d : Domain) : Type 0 where
  pub lower : (u : ℤ) → d.lower_bound ≡ Int u → Within (VALUE + 1 + HOLES) u
  pub upper : (u : ℤ) → d.upper_bound ≡ Int u → Within (VALUE + 1 + HOLES) u

-- the values of atoms: a ≠ atom is never a negation of an order
pub record Valued (k : ℕ) (v : ℤ) : Type 0 where
  pub any : Within (VALUE + 1) v
  pub other : 3 ≤ k → Within VALUE v

pub same_int : (a b : ℤ) → Int a ≡ Int b → a ≡ b
same_int a b e = cc

pub no_int : (b : ℤ) → NegativeInf ≡ Int b → ⊥
no_int b e = let z : ◌≡◌ {A = ℕ} 0 1 = cc in omega arith

pub no_int' : (b : ℤ) → PositiveInf ≡ Int b → ⊥
no_int' b e = let z : ◌≡◌ {A = ℕ} 0 1 = cc in omega arith

near_moved : (s : Side) (v : ℤ) (hs : List ℤ) → Ascending hs → Within (VALUE + 1) v → length hs ≤ HOLES → Within (VALUE + 1 + HOLES) (moved_onward s v hs)
unfolding up dn
near_moved Lower v hs a w l = let f = first_is v hs a in record { low = omega (ints, w.low, f.from); high = omega (ints, w.high, f.near, sumℤ v (pos (length hs))) }
near_moved Upper v hs a w l = let f = last_is v hs a in record { low = omega (ints, w.low, f.near, sumℤ (last_at_or_before v hs) (pos (length hs))); high = omega (ints, w.high, f.to) }

near_cut : (s : Side) (d : Domain) (b : ℤ) → Near d → Within (VALUE + 1 + HOLES) b → Near (cut_on s d b)
near_cut Lower d b n w = record { lower = λ u e. subst (Within (VALUE + 1 + HOLES)) (same_int b u e) w; upper = n.upper }
near_cut Upper d b n w = record { lower = n.lower; upper = λ u e. subst (Within (VALUE + 1 + HOLES)) (same_int b u e) w }

near_after : (s : Side) (v : ℤ) → Within VALUE v → Within (VALUE + 1) (after_on s v)
near_after Lower v w = step_within VALUE v (pos 1) w one_up
near_after Upper v w = step_within VALUE v (negsuc 0) w one_down

module _ (d : Domain) (t : Tight d) (n : Near d) where
  near_tightened : (s : Side) (v : ℤ) → Within (VALUE + 1) v → Near (tightened_on s d v)
  near_tightened s v w = tightened_case s d v Near (λ _. n) (λ _. near_cut s d _ n (near_moved s v (holes_of d) t.order w (omega (arith, used d t, t.few))))

  near_side : (s : Side) (v : ℤ) → Within VALUE v → Near (without_on s d v)
  near_side s v w = without_case s d v Near (λ _. near_tightened s (after_on s v) (near_after s v w)) (λ _. n)

  near_hole : (v : ℤ) → Near (hole_added d v)
  unfolding hole_added
  near_hole v = choice Near (between d v) (λ _. record { lower = n.lower; upper = n.upper }) (λ _. n)

near_without : (d : Domain) → Tight d → Near d → (v : ℤ) → Within VALUE v → Near (without d v)
unfolding without
near_without d t n v w =
    let t₁ = (side_cut Lower d v t).tight in
    let t₂ = (side_cut Upper (less_lower d v) v t₁).tight in
    near_hole (less_upper (less_lower d v) v) t₂ (near_side (less_lower d v) t₁ (near_side d t n Lower v w) Upper v w) v

near_applied : (d : Domain) (k : ℕ) (v : ℤ) → Tight d → Near d → Valued k v → Near (applied d k v)
near_applied d zero v t n w = near_tightened d t n Lower v w.any
near_applied d (suc zero) v t n w = near_tightened d t n Upper v w.any
near_applied d (suc (suc zero)) v t n w = near_tightened (tightened_lower d v) (tightened_leaves Lower d v t).tight (near_tightened d t n Lower v w.any) Upper v w.any
near_applied d (suc (suc (suc k))) v t n w = near_without d t n v (w.other (omega arith))

-- ---- states
abbrev NearState : VariableState → Type 0
NearState s = (x : ℕ) → x < VARIABLES → Near (domain_at s x)

abbrev AllValued : List Atom → Type 0
AllValued = Every (λ a. Valued a.kind a.value)

near_empty : NearState empty_state
near_empty x h = subst Near (sym (get_or-replicate VARIABLES x every_integer no_domain h)) (record { lower = λ u e. absurd (no_int u e); upper = λ u e. absurd (no_int' u e) })

near_stepped : (s : VariableState) (a : Atom) → AcceptedState s → a.variable < VARIABLES → Valued a.kind a.value → NearState s → NearState (stepped s a).state
near_stepped s a acc k w n = stepped_case s a (λ r. NearState r.state) (λ _. n)
    (λ _ _ x h. put_each Near s a.variable _ (omega (arith, acc.size))
    (near_applied (domain_at s a.variable) a.kind a.value (acc.each a.variable k).tight (n a.variable k) w) x (n x h)) (λ _ _. n)

near_all : (atoms : List Atom) → Known atoms → AllValued atoms → (s : VariableState) → AcceptedState s → NearState s → NearState (apply_all atoms s).state
near_all [] k w s acc n = subst (λ (r : Applied). NearState r.state) (sym (all_end s)) n
near_all (a ∷ rest) k w s acc n = all_case s a rest (λ r. NearState r.state)
    (λ _. near_all rest k.1 w.1 (stepped s a).state (stepped_accepted s a acc k.0) (near_stepped s a acc k.0 w.0 n)) (λ _ _. n) (λ _ _. near_empty)

-- ---- premises and the negated consequent
valued : (k : ℕ) (v : ℤ) → Within VALUE v → Valued k v
valued k v w = record { any = wider VALUE (VALUE + 1) v (omega arith) w; other = λ _. w }

negated_valued : (k : ℕ) (v : ℤ) → Within VALUE v → Valued (negated_kind k) (negated_value k v)
negated_valued zero v w = record { any = step_within VALUE v (negsuc 0) w one_down; other = λ h. absurd (omega arith) }
negated_valued (suc zero) v w = record { any = step_within VALUE v (pos 1) w one_up; other = λ h. absurd (omega arith) }
negated_valued (suc (suc zero)) v w = valued 3 v w
negated_valued (suc (suc (suc k))) v w = valued 2 v w

given_valued : (premises consequent : List ℤ) → right_lists premises consequent ≡ true → AllValued (given (atoms_of premises) (consequent_of consequent))
given_valued = given_each (λ a. Valued a.kind a.value) (λ a h. valued a.kind a.value h.1) (λ a h. negated_valued a.kind a.value h.1)

-- bounds read off a prepared state
pub prepared_near : (premises consequent : List ℤ) (x : ℕ) → x < VARIABLES → Near (domain_at (prepared premises consequent).state x)
prepared_near premises consequent = ran premises consequent (λ r. NearState r.state)
    (λ r. near_all (given (atoms_of premises) (consequent_of consequent)) (given_known premises consequent r) (given_valued premises consequent r) empty_state empty_accepted near_empty) (λ _. near_empty)
