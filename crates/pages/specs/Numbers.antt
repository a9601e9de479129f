-- The answer by the papers' numbers.
use Rattle.std.specs.Prelude.{[], ◌∷◌, ℕ, pos, Result, Ok, Err}
use Rattle.integers.specs.Answers.{Answer, answered, refused_by}
use Rattle.integers.specs.declared.refused.Refusal.{Refusal}
use Rattle.integers.specs.Refused.{number_of}

-- the value of a page is the number of bytes written
abbrev pub numbers_of_page : Result ℕ Refusal → Answer
numbers_of_page (Ok bytes) = answered 0 (pos bytes ∷ [])
numbers_of_page (Err why) = refused_by (number_of why)
