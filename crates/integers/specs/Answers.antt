-- An answer by the papers' numbers: each call that answers an enum has a definition that gives these for each of its cases.
use Rattle.std.specs.Prelude.{List, [], ℕ, ℤ}

-- Which case it is, the number that refused the input (0 where none did), and the values of the case.
pub record Answer : Type 0 where
  pub kind : ℕ
  pub number : ℕ
  pub values : List ℤ

-- an answer to an input that nothing refused
abbrev pub answered : ℕ → List ℤ → Answer
answered kind values = record { kind = kind; number = 0; values = values }

-- an input that this number refused: kind 3 of every call
abbrev pub refused_by : ℕ → Answer
refused_by number = record { kind = 3; number = number; values = [] }
