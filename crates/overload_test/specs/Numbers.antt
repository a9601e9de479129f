-- The answer by the papers' numbers.
use Rattle.std.specs.Prelude.{Option, Some, None, Result, Ok, Err, [], ◌∷◌, ℕ, pos}
use Rattle.integers.specs.declared.refused.Refusal.{Refusal}
use Rattle.integers.specs.Answers.{Answer, answered, refused_by}
use Rattle.integers.specs.Refused.{number_of}

-- kind 0 is a yes, whose value is the number of tasks read
abbrev pub numbers_of_overload : Result (Option ℕ) Refusal → Answer
numbers_of_overload (Ok (Some k)) = answered 0 (pos k ∷ [])
numbers_of_overload (Ok None) = answered 1 []
numbers_of_overload (Err why) = refused_by (number_of why)
