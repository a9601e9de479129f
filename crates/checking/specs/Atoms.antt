-- Atoms as words, three to an atom: variable, kind (0 is ≥, 1 is ≤, 2 is =, 3 is ≠), value.
use Rattle.std.specs.Prelude.{◌≡◌, Bool, true, false, cond, ◌&&◌, List, [], ◌∷◌, ℕ, zero, suc, ◌+◌, ◌-◌, ◌*◌, ◌≤◌, ◌<◌, leb, ltb, ℤ, pos, negsuc, neg_ℤ, nat_abs, length, get_or, drop, ◌≤ℤ◌, Result, Ok, Err}
use Rattle.std.proofs.Math.Option.{Option, some, none}
use Rattle.std.specs.Int.Signed.{le_z, lt_z}
use Rattle.integers.specs.Limits.{VARIABLES, VALUE}
use Rattle.integers.specs.declared.refused.Refusal.{Refusal}
use Rattle.integers.specs.declared.refused.Refusal.TheVariants as refusal
use Rattle.scheduling.specs.Scheduling.{Atom, negation}
use Rattle.integers.specs.WholeNumbers.{Within}
use Rattle.checking.specs.declared.atomic_constraint.AtomicConstraint.{AtomicConstraint}
use Rattle.checking.specs.declared.atomic_constraint.Comparison.{Comparison}
use Rattle.checking.specs.declared.atomic_constraint.Comparison.TheVariants.{GreaterEqual, LessEqual, Equal, NotEqual}

-- the kind's number
abbrev pub kind_of : Comparison → ℕ
kind_of GreaterEqual = 0
kind_of LessEqual = 1
kind_of Equal = 2
kind_of NotEqual = 3

-- the comparison of a kind's number, or number 6
abbrev pub comparison_at : ℤ → Result Comparison Refusal
comparison_at (pos zero) = Ok GreaterEqual
comparison_at (pos (suc zero)) = Ok LessEqual
comparison_at (pos (suc (suc zero))) = Ok Equal
comparison_at (pos (suc (suc (suc zero)))) = Ok NotEqual
comparison_at (pos (suc (suc (suc (suc n))))) = Err refusal.Atoms
comparison_at (negsuc n) = Err refusal.Atoms

-- the atom that a record of code stands for
abbrev pub atom_of : AtomicConstraint → Atom
atom_of a = record { variable = a.identifier; kind = kind_of a.comparison; value = a.value }

-- the atom of three words
abbrev pub atom_from : ℤ → ℤ → ℤ → Atom
atom_from x k v = record { variable = nat_abs x; kind = nat_abs k; value = v }

-- the atom of the three words from place i on
abbrev pub atom_place : List ℤ → ℕ → Atom
atom_place words i = atom_from (get_or words i (pos 0)) (get_or words (i + 1) (pos 0)) (get_or words (i + 2) (pos 0))

-- the atoms of a list of words; one or two words left over are no atom
unfoldable pub atoms_of : List ℤ → List Atom
atoms_of (x ∷ k ∷ v ∷ rest) = atom_from x k v ∷ atoms_of rest
atoms_of (x ∷ k ∷ []) = []
atoms_of (x ∷ []) = []
atoms_of [] = []

-- the consequent, where there is one
abbrev pub first : List Atom → Option Atom
first [] = none
first (a ∷ rest) = some a

abbrev pub consequent_of : List ℤ → Option Atom
consequent_of words = first (atoms_of words)

-- the atom of the three words from place i on, of the premises' words followed by the consequent's, whose atom is negated
abbrev pub given_in : List ℤ → List ℤ → ℕ → Atom
given_in premises consequent i = cond (ltb i (length premises)) (atom_place premises i) (negation (atom_place consequent (i - length premises)))

-- Which words are accepted -----------------------------------------------------------------------------------------------------

-- a known variable
abbrev pub right_variable : ℤ → Bool
right_variable x = le_z (pos 0) x && lt_z x (pos VARIABLES)

-- a known variable, a known kind, a value within the limits
unfoldable pub right_atom : ℤ → ℤ → ℤ → Bool
right_atom x k v = right_variable x && ((le_z (pos 0) k && le_z k (pos 3)) && (le_z (neg_ℤ (pos VALUE)) v && le_z v (pos VALUE)))

-- the words are a multiple of three, and every atom is right
unfoldable pub right_words : List ℤ → Bool
right_words (x ∷ k ∷ v ∷ rest) = right_atom x k v && right_words rest
right_words (x ∷ k ∷ []) = false
right_words (x ∷ []) = false
right_words [] = true

-- the premises are right, and the consequent is one right atom or none
unfoldable pub right_lists : List ℤ → List ℤ → Bool
right_lists premises consequent = right_words premises && (leb (length consequent) 3 && right_words consequent)

-- the words from place i on are right, of the premises' words followed by the consequent's
abbrev pub right_from : List ℤ → List ℤ → ℕ → Bool
right_from premises consequent i = right_lists (drop i premises) (drop (i - length premises) consequent)

-- The same as facts ------------------------------------------------------------------------------------------------------------

-- A known variable, a known kind, a value within the limits.
pub record RightAtom (x k v : ℤ) : Type 0 where
  pub variable : pos 0 ≤ℤ x
  pub known : nat_abs x < VARIABLES
  pub kind_low : pos 0 ≤ℤ k
  pub kind_high : k ≤ℤ pos 3
  pub value : Within VALUE v

-- The words are a multiple of three, and every atom is right.
pub record RightWords (words : List ℤ) : Type 0 where
  pub count : ℕ
  pub threes : length words ≡ 3 * count
  pub atom : (k : ℕ) → k < count → RightAtom (get_or words (3 * k) (pos 0)) (get_or words (3 * k + 1) (pos 0)) (get_or words (3 * k + 2) (pos 0))

-- The premises are right, and the consequent is one right atom or none.
pub record RightLists (premises consequent : List ℤ) : Type 0 where
  pub first : RightWords premises
  pub short : length consequent ≤ 3
  pub second : RightWords consequent
