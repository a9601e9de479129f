-- One state for one meaning: lists of atoms that leave each variable the same values leave the same state, in whatever sequence and however often applied.
use mathlib.Core.Path.{◌≡◌, refl, sym, ap, subst, ◌∙◌}
use mathlib.Core.Logic.{◌↔◌}
use mathlib.Core.Bool.{true, false}
use mathlib.Core.List.{List, [], ◌∷◌, ◌++◌}
use mathlib.Core.Option.{Option, some, none}
use Prim.Native.Nat.{ℕ, zero, suc, ◌+◌, ◌*◌, ◌≤◌, ◌<◌}
use native.Mathlib.Omega.{arith}
use lib.Dec.{ltb}
use lib.IntN.{ℤ, pos}
use lib.ListN.{length, get_or, length-append}
use borrow.Author.Tests.{not-true, le-ltb}
use Rattle.integers.specs.Limits.{VARIABLES, PREMISES}
use Rattle.integers.proofs.Bools.{clash, and_true}
use Rattle.scheduling.specs.Scheduling.{Atom, Compares, Allows, Every, Admits, given, negation}
use Rattle.scheduling.proofs.Every.{every_append, every_left, every_at, every_right}
use Rattle.checking.specs.Atoms.{atoms_of, consequent_of, right_words, right_lists}
use Rattle.checking.proofs.Atoms.{consequent_none, right_lists_are}
use Rattle.checking.proofs.RightWords.{words_each, words_append, atoms_append}
use Rattle.checking.specs.declared.int_ext.IntExt.TheVariants.{Int}
use Rattle.checking.specs.declared.domain.Domain.{Domain}
use Rattle.checking.specs.Domains.{Admitted, crowded, needs_room}
use Rattle.checking.proofs.DomainBounds.{lt_to_le}
use Rattle.checking.proofs.Values.{some_value}
use Rattle.checking.specs.declared.variable_state.VariableState.{VariableState}
use Rattle.checking.specs.declared.variable_state.Application.TheVariants.{Consistent, Contradiction, Refused}
use Rattle.checking.specs.Shuffles.{Shuffled}
use Rattle.checking.specs.States.{AcceptedState, domain_at, empty_state, stepped, applied_to, apply_all, prepared}
use Rattle.checking.proofs.Meaning.{Known, all_append, step_admits, step_contradiction, step_refused}
use Rattle.checking.proofs.PreparedStates.{prepared_accepted, prepared_admits, prepared_right}
use Rattle.checking.proofs.Remaining.{prepared_runs}
use Rattle.checking.proofs.Promises.{prepare_means, given_known, same_state}
use Rattle.checking.proofs.States.{stepped_accepted, all_on, all_end}

-- Two premise lists --------------------------------------------------------------------------------------------------------------

-- the atoms of a list that is applied without a consequent
no_consequent : (p : List ℤ) → given (atoms_of p) (consequent_of []) ≡ atoms_of p
no_consequent p = ap (given (atoms_of p)) (consequent_none [] refl)

module _ (p q : List ℤ) (ok_p : (prepared p []).answer ≡ Consistent) (ok_q : (prepared q []).answer ≡ Consistent) where
  abbrev s : VariableState
  s = (prepared p []).state

  abbrev t : VariableState
  t = (prepared q []).state

  -- the same state exactly when, for each variable, the same whole numbers are admitted
  pub one_state : s ≡ t ↔ ((x : ℕ) → x < VARIABLES → (z : ℤ) → Admitted (domain_at s x) z ↔ Admitted (domain_at t x) z)
  one_state = (λ e x h z. subst (λ (r : VariableState). Admitted (domain_at s x) z ↔ Admitted (domain_at r x) z) e (λ a. a, λ a. a), same_state s t (prepared_accepted p []) (prepared_accepted q []))

  admits : (r : List ℤ) → (prepared r []).answer ≡ Consistent → (x : ℕ) → x < VARIABLES → (z : ℤ) → Admitted (domain_at (prepared r []).state x) z ↔ Admits (atoms_of r) x z
  admits r ok x h z = subst (λ (l : List Atom). Admitted (domain_at (prepared r []).state x) z ↔ Admits l x z) (no_consequent r) (prepared_admits r [] ok x h z)

  -- or, of the lists themselves, when the atoms admit the same
  pub one_meaning : ((x : ℕ) → x < VARIABLES → (z : ℤ) → Admits (atoms_of p) x z ↔ Admits (atoms_of q) x z) → s ≡ t
  one_meaning same = one_state.1 (λ x h z.
      (λ a. (admits q ok_q x h z).1 ((same x h z).0 ((admits p ok_p x h z).0 a)), λ a. (admits p ok_p x h z).1 ((same x h z).1 ((admits q ok_q x h z).0 a))))

-- Another sequence ---------------------------------------------------------------------------------------------------------------

shuffled_to : (P : Atom → Type 0) (xs ys : List Atom) → Shuffled xs ys → Every P xs → Every P ys
shuffled_to P [] ys s e = subst (Every P) (sym s) tt
shuffled_to P (x ∷ xs) ys (before, after, z, s) e =
    let r : Every P (before ++ after) = shuffled_to P xs (before ++ after) s e.1 in
    subst (Every P) (sym z) (every_append P before (x ∷ after) (every_left P before after r) (e.0, every_right P before after r))

shuffled_from : (P : Atom → Type 0) (xs ys : List Atom) → Shuffled xs ys → Every P ys → Every P xs
shuffled_from P [] ys s e = tt
shuffled_from P (x ∷ xs) ys (before, after, z, s) e =
    let f : Every P (before ++ (x ∷ after)) = subst (Every P) z e in
    (every_at P before x after f, shuffled_from P xs (before ++ after) s (every_append P before after (every_left P before (x ∷ after) f) (every_right P before (x ∷ after) f).1))

pub shuffled_same : (p q : List ℤ) → (prepared p []).answer ≡ Consistent → (prepared q []).answer ≡ Consistent → Shuffled (atoms_of p) (atoms_of q) → (prepared p []).state ≡ (prepared q []).state
shuffled_same p q ok_p ok_q s = one_meaning p q ok_p ok_q (λ x h z.
    (shuffled_to (λ a. a.variable ≡ x → Allows a z) (atoms_of p) (atoms_of q) s, shuffled_from (λ a. a.variable ≡ x → Allows a z) (atoms_of p) (atoms_of q) s))

-- The list again -----------------------------------------------------------------------------------------------------------------

-- a value that would need a further hole is admitted
crowded_admits : (d : Domain) (v : ℤ) → crowded d v ≡ true → Admitted d v
unfolding crowded
crowded_admits d v e =
    let (b, r) = and_true _ _ e in
    let (l, u) = and_true _ _ b in
    let (n, m) = and_true _ _ r in
    record { from = lt_to_le d.lower_bound (Int v) l; to = lt_to_le (Int v) d.upper_bound u; no_hole = not-true _ n }

-- an atom that every admitted value meets needs none
met_room : (d : Domain) (k : ℕ) (v : ℤ) → ((z : ℤ) → Admitted d z → Compares k v z) → needs_room d k v ≡ true → ⊥
met_room d zero v h e = clash e refl
met_room d (suc zero) v h e = clash e refl
met_room d (suc (suc zero)) v h e = clash e refl
met_room d (suc (suc (suc k))) v h e = h v (crowded_admits d v e) refl

-- and changes nothing
met_step : (s : VariableState) (a : Atom) → AcceptedState s → a.variable < VARIABLES → ((z : ℤ) → Admitted (domain_at s a.variable) z → Allows a z)
    → ((stepped s a).answer ≡ Consistent) × ((stepped s a).state ≡ s)
met_step s a acc h met = by (stepped s a).answer refl
  where
    by : (r : _) → (stepped s a).answer ≡ r → ((stepped s a).answer ≡ Consistent) × ((stepped s a).state ≡ s)
    by Consistent e = (
      e,
      same_state (stepped s a).state s (stepped_accepted s a acc h) acc (λ x q z.
          (λ m. ((step_admits s a acc h e x z).0 m).0, λ m. (step_admits s a acc h e x z).1 (m, λ w. met z (subst (λ (y : ℕ). Admitted (domain_at s y) z) (sym w) m)))),
    )
    by (Contradiction y) e = let (z, m) = some_value (domain_at s a.variable) (acc.each a.variable h) in absurd ((step_contradiction s a acc h y e).2 z m (met z m))
    by (Refused n) e = absurd (met_room (domain_at s a.variable) a.kind a.value met (step_refused s a acc h n e).2)

-- so with each atom of a list
each_met : (atoms : List Atom) → Known atoms → (s : VariableState) → AcceptedState s → ((x : ℕ) → x < VARIABLES → (z : ℤ) → Admitted (domain_at s x) z → Admits atoms x z)
    → Every (λ a. stepped s a ≡ record { answer = Consistent; state = s }) atoms
each_met [] known s acc met = tt
each_met (a ∷ rest) known s acc met =
    let (e, same) = met_step s a acc known.0 (λ z m. (met a.variable known.0 z m).0 refl) in
    (λ i. record { answer = e i; state = same i }, each_met rest known.1 s acc (λ x h z m. (met x h z m).1))

-- and with the list
met_all : (atoms : List Atom) (s : VariableState) → Every (λ a. stepped s a ≡ record { answer = Consistent; state = s }) atoms → apply_all atoms s ≡ record { answer = Consistent; state = s }
met_all [] s e = all_end s
met_all (a ∷ rest) s e = all_on s a rest _ e.0 ∙ met_all rest s e.1

module _ (p : List ℤ) (ok : (prepared p []).answer ≡ Consistent) where
  abbrev left : VariableState
  left = (prepared p []).state

  right : right_words p ≡ true
  right = (right_lists_are p [] (prepared_right p [] ok)).0

  nothing_new : Every (λ a. stepped left a ≡ record { answer = Consistent; state = left }) (atoms_of p)
  nothing_new = each_met (atoms_of p) (subst Known (no_consequent p) (given_known p [] (prepared_right p [] ok))) left (prepared_accepted p [])
      (λ x h z m. subst (λ (l : List Atom). Admits l x z) (no_consequent p) ((prepared_admits p [] ok x h z).0 m))

  -- applied again to the state that it left, a list leaves it as it is
  pub applied_again : apply_all (atoms_of p) (prepared p []).state ≡ record { answer = Consistent; state = (prepared p []).state }
  applied_again = met_all (atoms_of p) left nothing_new

  -- each of its atoms, given to `apply`, leaves it too
  pub atom_again : (k : ℕ) → 3 * k < length p
      → applied_to (prepared p []).state (get_or p (3 * k) (pos 0)) (get_or p (3 * k + 1) (pos 0)) (get_or p (3 * k + 2) (pos 0)) ≡ record { answer = Consistent; state = (prepared p []).state }
  unfolding applied_to
  atom_again k h =
      let (atom, same) = words_each (λ a. stepped left a ≡ record { answer = Consistent; state = left }) p right nothing_new k h in
      rw ((prepare_means p []).again, atom) same

  -- and given twice in one call, it gives the same answer and the same state, whatever the consequent
  module _ (c : List ℤ) (few : length (p ++ p) ≤ 3 * PREMISES + 2) where
    short : length p ≤ 3 * PREMISES + 2
    short = omega (arith, length-append p p)

    once : apply_all (atoms_of p) empty_state ≡ record { answer = Consistent; state = left }
    once =
        let whole = sym (prepared_runs p [] short (prepared_right p [] ok) ∙ ap (λ (l : List Atom). apply_all l empty_state) (no_consequent p)) in
        whole ∙ (λ i. record { answer = ok i; state = left })

    twice : apply_all (atoms_of p ++ atoms_of p) empty_state ≡ record { answer = Consistent; state = left }
    twice = all_append (atoms_of p) (atoms_of p) empty_state left once ∙ applied_again

    with_consequent : (o : Option Atom) → apply_all (given (atoms_of p ++ atoms_of p) o) empty_state ≡ apply_all (given (atoms_of p) o) empty_state
    with_consequent none = twice ∙ sym once
    with_consequent (some a) = all_append (atoms_of p ++ atoms_of p) (negation a ∷ []) empty_state left twice ∙ sym (all_append (atoms_of p) (negation a ∷ []) empty_state left once)

    pub given_twice : prepared (p ++ p) c ≡ prepared p c
    unfolding prepared right_lists
    given_twice =
        let less : ltb (3 * PREMISES + 2) (length p) ≡ false = le-ltb (3 * PREMISES + 2) (length p) short in
        rw (le-ltb (3 * PREMISES + 2) (length (p ++ p)) few, less, words_append p p right, atoms_append p p right, with_consequent (consequent_of c)) refl
