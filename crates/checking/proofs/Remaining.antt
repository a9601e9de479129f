-- The loops over the given atoms: to apply those that remain to the state so far is to prepare the whole.
use mathlib.Core.Path.{◌≡◌, sym, ap, ◌∙◌, subst}
use mathlib.Core.Bool.{true, false}
use mathlib.Core.List.{List}
use Prim.Native.Nat.{ℕ, ◌+◌, ◌*◌, ◌/◌, ◌^◌, ◌≤◌, ◌<◌}
use native.Mathlib.Omega.{arith}
use borrow.Author.Tests.{lt-ltb, le-ltb}
use lib.Dec.{ltb}
use lib.IntN.{ℤ}
use lib.ListN.{length}
use Rattle.integers.specs.Limits.{VARIABLES, PREMISES, VALUE}
use Rattle.integers.specs.WholeNumbers.{Within}
use Rattle.integers.specs.declared.refused.Refusal.{Refusal}
use Rattle.integers.specs.declared.refused.Refusal.TheVariants as refusal
use Rattle.scheduling.specs.Scheduling.{Atom, given}
use Rattle.checking.specs.declared.variable_state.VariableState.{VariableState}
use Rattle.checking.specs.declared.variable_state.Application.TheVariants.{Consistent, Contradiction, Refused}
use Rattle.checking.specs.Atoms.{atoms_of, consequent_of, given_in, right_lists, right_from}
use Rattle.checking.specs.States.{empty_state, stepped, apply_all, Applicable, prepared}
use Rattle.checking.proofs.Atoms.{right_lists_are, three_divides}
use Rattle.checking.proofs.Given.{Next, given_from, given_start, right_start, given_end, next}
use Rattle.checking.proofs.States.{all_on, all_end}

module _ (p c : List ℤ) where
  -- the tests 7 and 6, past which all atoms are applied
  pub prepared_many : 3 * PREMISES + 2 < length p → prepared p c ≡ record { answer = Refused refusal.Premises; state = empty_state }
  unfolding prepared
  prepared_many l = let many : ltb (3 * PREMISES + 2) (length p) ≡ true = lt-ltb (3 * PREMISES + 2) (length p) l in rw many

  pub prepared_wrong : length p ≤ 3 * PREMISES + 2 → right_lists p c ≡ false → prepared p c ≡ record { answer = Refused refusal.Atoms; state = empty_state }
  unfolding prepared
  prepared_wrong l r = let few : ltb (3 * PREMISES + 2) (length p) ≡ false = le-ltb (3 * PREMISES + 2) (length p) l in rw (few, r)

  pub prepared_runs : length p ≤ 3 * PREMISES + 2 → right_lists p c ≡ true → prepared p c ≡ apply_all (given (atoms_of p) (consequent_of c)) empty_state
  unfolding prepared
  prepared_runs l r = let few : ltb (3 * PREMISES + 2) (length p) ≡ false = le-ltb (3 * PREMISES + 2) (length p) l in rw (few, r)

  -- The atoms from place i on remain, and s is the state so far.
  pub record Remaining (i : ℕ) (s : VariableState) : Type 0 where
    pub within : i ≤ length p + length c
    pub right : right_from p c i ≡ true
    pub whole : prepared p c ≡ apply_all (given_from p c i) s

  -- What is known of an atom that comes next, and what follows from what it does.
  pub record Turn (i : ℕ) (s : VariableState) (a : Atom) : Type 0 where
    pub known : a.variable < VARIABLES
    pub value : Within (VALUE + 1) a.value
    pub consistent : (t : VariableState) → stepped s a ≡ record { answer = Consistent; state = t } → Remaining (i + 3) t
    pub contradicts : (x : ℕ) → stepped s a ≡ record { answer = Contradiction x; state = s } → prepared p c ≡ record { answer = Contradiction x; state = s }
    pub refused : (n : Refusal) → stepped s a ≡ record { answer = Refused n; state = s } → prepared p c ≡ record { answer = Refused n; state = empty_state }

  module _ (a : Applicable p c) where
    pub words_fit : length p + length c < 2 ^ 64
    words_fit = omega (arith, a.few, (right_lists_are p c a.right).1)

    -- the words are three to an atom
    pub threes : 3 * ((length p + length c) / 3) ≡ length p + length c
    threes = let r = right_lists_are p c a.right in omega (arith, three_divides p r.0, three_divides c r.2)

    pub all_remain : Remaining 0 empty_state
    all_remain = record {
      within = omega arith;
      right = right_start p c ∙ a.right;
      whole = prepared_runs a.few a.right ∙ ap (λ (m : List Atom). apply_all m empty_state) (sym (given_start p c));
    }

  module _ (i : ℕ) (s : VariableState) (m : Remaining i s) where
    pub none_remains : length p + length c ≤ i → prepared p c ≡ record { answer = Consistent; state = s }
    none_remains h = m.whole ∙ ap (λ (l : List Atom). apply_all l s) (given_end p c i h) ∙ all_end s

    -- the next atom of those that remain
    pub turn : i < length p + length c → (a : Atom) → a ≡ given_in p c i → Turn i s a
    turn q a e =
        let n = subst (Next p c i) (sym e) (next p c i q m.right) in
        let here = m.whole ∙ ap (λ (l : List Atom). apply_all l s) n.atoms in
        let rest = given_from p c (i + 3) in
        record {
          known = n.known;
          value = n.value;
          consistent = λ t z. record { within = n.within; right = n.right; whole = here ∙ all_on s a rest _ z };
          contradicts = λ x z. here ∙ all_on s a rest _ z;
          refused = λ k z. here ∙ all_on s a rest _ z;
        }
