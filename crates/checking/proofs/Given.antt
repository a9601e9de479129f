-- The premises' words followed by the consequent's, three at a time: each three are an atom to apply, the consequent's negated.
use mathlib.Core.Path.{◌≡◌, refl, sym, ap, ap₂, ◌∙◌, subst}
use mathlib.Core.Bool.{true}
use mathlib.Core.List.{List, [], ◌∷◌}
use mathlib.Core.Option.{Option, some, none}
use Prim.Native.Nat.{ℕ, ◌+◌, ◌-◌, ◌≤◌, ◌<◌}
use native.Mathlib.Omega.{arith}
use borrow.Author.Tests.{ltb-true, ltb-false}
use lib.Dec.{ltb}
use lib.IntN.{ℤ, pos}
use lib.ListN.{length, get_or, drop, length-drop, drop_of_length-le}
use Rattle.integers.specs.Limits.{VARIABLES, VALUE}
use Rattle.scheduling.specs.Scheduling.{Atom, negation, given}
use Rattle.integers.specs.WholeNumbers.{Within}
use Rattle.integers.proofs.WholeNumbers.{wider}
use Rattle.checking.proofs.Choices.{choice}
use Rattle.checking.specs.Atoms.{atoms_of, atom_place, first, consequent_of, given_in, right_words, right_lists, right_from, RightAtom}
use Rattle.checking.proofs.Atoms.{right_atom_is, right_lists_are, lists_right, words_at, words_three, words_none, atoms_on, atoms_none, negation_within}

-- a first premise comes first
given_cons : (a : Atom) (atoms : List Atom) (c : Option Atom) → given (a ∷ atoms) c ≡ a ∷ given atoms c
given_cons a atoms none = refl
given_cons a atoms (some b) = refl

module _ (p c : List ℤ) where
  -- the atoms from place i on
  abbrev pub given_from : ℕ → List Atom
  given_from i = given (atoms_of (drop i p)) (consequent_of (drop (i - length p) c))

  none_before : 0 - length p ≡ 0
  none_before = omega arith

  -- from place 0 on they are all there
  pub given_start : given_from 0 ≡ given (atoms_of p) (consequent_of c)
  given_start = ap (λ (k : ℕ). given (atoms_of p) (consequent_of (drop k c))) none_before

  pub right_start : right_from p c 0 ≡ right_lists p c
  right_start = ap (λ (k : ℕ). right_lists p (drop k c)) none_before

  -- past the last word there is none
  pub given_end : (i : ℕ) → length p + length c ≤ i → given_from i ≡ []
  given_end i h =
      let none_here : drop i p ≡ [] = drop_of_length-le p {i = i} (omega arith) in
      let none_left : drop (i - length p) c ≡ [] = drop_of_length-le c {i = i - length p} (omega arith) in
      ap₂ (λ (m n : List ℤ). given (atoms_of m) (consequent_of n)) none_here none_left ∙ ap₂ (λ (m n : List Atom). given m (first n)) atoms_none atoms_none

  -- What the atom at place i is, and what is left after it.
  pub record Next (i : ℕ) (a : Atom) : Type 0 where
    pub known : a.variable < VARIABLES
    pub value : Within (VALUE + 1) a.value
    pub within : i + 3 ≤ length p + length c
    pub right : right_from p c (i + 3) ≡ true
    pub atoms : given_from i ≡ a ∷ given_from (i + 3)

  module _ (i : ℕ) (within : i < length p + length c) (right : right_from p c i ≡ true) where
    pub words : (right_words (drop i p) ≡ true) × (length (drop (i - length p) c) ≤ 3) × (right_words (drop (i - length p) c) ≡ true)
    words = right_lists_are (drop i p) (drop (i - length p) c) right

    -- a premise's three words
    module _ (l : i < length p) where
      pub premise_place : i + 3 ≤ length p
      premise_place =
          let n = length-drop i p in
          omega (arith, n, words_three (drop i p) words.0 (omega (arith, n)))

      next_premise : Next i (atom_place p i)
      next_premise =
          let (one, rest) = words_at p i premise_place words.0 in
          let r = right_atom_is (get_or p i (pos 0)) (get_or p (i + 1) (pos 0)) (get_or p (i + 2) (pos 0)) one in
          let still : i - length p ≡ (i + 3) - length p = omega (arith, premise_place) in
          let o = consequent_of (drop (i - length p) c) in
          record {
            known = r.known;
            value = wider VALUE (VALUE + 1) (get_or p (i + 2) (pos 0)) (omega arith) r.value;
            within = omega (arith, premise_place);
            right = subst (λ (k : ℕ). right_lists (drop (i + 3) p) (drop k c) ≡ true) still (lists_right (drop (i + 3) p) (drop (i - length p) c) rest words.1 words.2);
            atoms = ap (λ (m : List Atom). given m o) (atoms_on p i premise_place) ∙ given_cons (atom_place p i) (atoms_of (drop (i + 3) p)) o
                ∙ ap (λ (k : ℕ). atom_place p i ∷ given (atoms_of (drop (i + 3) p)) (consequent_of (drop k c))) still;
          }

    -- the consequent's three words
    module _ (l : length p ≤ i) where
      abbrev j : ℕ
      j = i - length p

      pub consequent_place : j + 3 ≡ length c
      consequent_place =
          let n = length-drop j c in
          omega (arith, n, words_three (drop j c) words.2 (omega (arith, n)), words.1)

      consequent_right : RightAtom (get_or c j (pos 0)) (get_or c (j + 1) (pos 0)) (get_or c (j + 2) (pos 0))
      consequent_right = right_atom_is (get_or c j (pos 0)) (get_or c (j + 1) (pos 0)) (get_or c (j + 2) (pos 0)) (words_at c j (omega (arith, consequent_place)) words.2).0

      pub consequent_value : Within VALUE (get_or c (j + 2) (pos 0))
      consequent_value = consequent_right.value

      next_consequent : Next i (negation (atom_place c j))
      next_consequent =
          let none_here : drop i p ≡ [] = drop_of_length-le p {i = i} l in
          let none_after : drop (i + 3) p ≡ [] = drop_of_length-le p {i = i + 3} (omega arith) in
          let none_left : drop ((i + 3) - length p) c ≡ [] = drop_of_length-le c {i = (i + 3) - length p} (omega (arith, consequent_place)) in
          record {
            known = consequent_right.known;
            value = negation_within (atom_place c j).kind (get_or c (j + 2) (pos 0)) consequent_value;
            within = omega (arith, consequent_place);
            right = ap₂ right_lists none_after none_left ∙ lists_right [] [] words_none (omega arith) words_none;
            atoms = ap₂ (λ (m n : List Atom). given m (first n)) (ap atoms_of none_here ∙ atoms_none) (atoms_on c j (omega (arith, consequent_place)))
                ∙ ap (λ (m : List Atom). negation (atom_place c j) ∷ m) (sym (given_end (i + 3) (omega (arith, consequent_place))));
          }

    pub next : Next i (given_in p c i)
    next = choice (Next i) (ltb i (length p)) (λ y. next_premise (ltb-true i (length p) y)) (λ y. next_consequent (ltb-false i (length p) y))
