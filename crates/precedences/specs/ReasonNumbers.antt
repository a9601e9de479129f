-- The answers of the calls on one bound by the papers' numbers.
use Rattle.std.specs.Prelude.{Option, Some, None, Result, Ok, Err, [], ◌∷◌, ℕ, ℤ, pos}
use Rattle.integers.specs.declared.refused.Refusal.{Refusal}
use Rattle.integers.specs.Answers.{Answer, answered, refused_by}
use Rattle.integers.specs.Refused.{number_of}

-- the value of a reason is its atom count
abbrev pub numbers_of_reason : Result ℕ Refusal → Answer
numbers_of_reason (Ok count) = answered 0 (pos count ∷ [])
numbers_of_reason (Err why) = refused_by (number_of why)

-- the value is the bound
abbrev pub numbers_of_bound : Result (Option ℤ) Refusal → Answer
numbers_of_bound (Ok (Some b)) = answered 0 (b ∷ [])
numbers_of_bound (Ok None) = answered 1 []
numbers_of_bound (Err why) = refused_by (number_of why)
