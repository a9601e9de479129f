-- Where a check gives no verdict by the formula: it is refused, or it finds a contradiction. Both checks are alike in this.
use Rattle.std.specs.Prelude.{◌≡◌, List, [], ◌∷◌, ◌++◌, ◌⊎◌, ◌↔◌, ℕ, ◌+◌, ◌*◌, ◌<◌, leb, ℤ, pos, length}
use Rattle.std.proofs.Math.Option.{Option, some}
use Rattle.integers.specs.Refused as refused
use Rattle.integers.specs.Answers.{Answer, answered, refused_by}
use Rattle.integers.specs.Limits.{PREMISES}
use Rattle.integers.specs.Tests.{Test, test, refusal}
use Rattle.scheduling.specs.Scheduling.{whole, Least, Largest, Atom, Admits, given}
use Rattle.checking.specs.Atoms.{atoms_of, consequent_of, right_lists}
use Rattle.checking.specs.Promises.{NoRoom, EmptiesFirst}
use Rattle.records.specs.Records.{creation_tests}

-- 1, 2 and 5 of the durations; 7: more than PREMISES premises; 6: words that are no atoms within the limits, or a consequent of more than one
abbrev pub word_tests : List ℤ → List ℤ → List ℤ → List Test
word_tests ds premises consequent = creation_tests ds ++
    (test refused.PREMISES (leb (length premises) (3 * PREMISES + 2)) ∷ test refused.ATOMS (right_lists premises consequent) ∷ [])

-- The variable is one of n tasks, and the atoms leave it a least and a greatest value.
pub record TwoSided (n : ℕ) (atoms : List Atom) (x : ℕ) : Type 0 where
  pub task : x < n
  pub low : ℤ
  pub least : Least whole (Admits atoms x) low
  pub high : ℤ
  pub greatest : Largest whole (Admits atoms x) high

-- The premises and the negated consequent, atom by atom. The answer is 21 where one needs a hole too many. Else it is a contradiction where one leaves
-- a variable no value, at the first that does. Else it is 8 where the consequent's variable is no task's, or lacks a bound. No other number is given.
pub record AtomByAtom (n : ℕ) (atoms : List Atom) (consequent : Option Atom) (a : Answer) : Type 0 where
  pub room : a ≡ refused_by refused.HOLES ↔ NoRoom atoms
  pub contradiction : (NoRoom atoms → ⊥) → (x : ℕ) → a ≡ answered 2 (pos x ∷ []) ↔ EmptiesFirst atoms x
  pub bounds : (NoRoom atoms → ⊥) → ((x : ℕ) → EmptiesFirst atoms x → ⊥) → a ≡ refused_by refused.CONSEQUENT
      ↔ ((c : Atom) × ((consequent ≡ some c) × (TwoSided n atoms c.variable → ⊥)))
  pub only : (m : ℕ) → a ≡ refused_by m → (m ≡ 21) ⊎ (m ≡ 8)

-- The first of 1, 2, 5, 7 and 6 whose test is broken refuses the check; and where none is, its atoms decide.
pub record Unjudged (ds premises consequent : List ℤ) (a : Answer) : Type 0 where
  pub words : (refusal (word_tests ds premises consequent) ≡ 0 → ⊥) → a ≡ refused_by (refusal (word_tests ds premises consequent))
  pub atoms : refusal (word_tests ds premises consequent) ≡ 0
      → AtomByAtom (length ds) (given (atoms_of premises) (consequent_of consequent)) (consequent_of consequent) a
