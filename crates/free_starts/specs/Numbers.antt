-- The answer by the papers' numbers.
use Rattle.std.specs.Prelude.{[], ◌∷◌, ℤ, Result, Ok, Err}
use Rattle.integers.specs.Answers.{Answer, answered, refused_by}
use Rattle.integers.specs.declared.refused.Refusal.{Refusal}
use Rattle.integers.specs.Refused.{number_of}

-- the value is the start
abbrev pub free_start_numbers : Result ℤ Refusal → Answer
free_start_numbers (Ok start) = answered 0 (start ∷ [])
free_start_numbers (Err why) = refused_by (number_of why)
