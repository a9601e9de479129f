-- The answer by the papers' numbers.
use Rattle.std.specs.Prelude.{Option, Some, None, Result, Ok, Err, [], ◌∷◌, ℕ, pos}
use Rattle.integers.specs.declared.refused.Refusal.{Refusal}
use Rattle.integers.specs.Answers.{Answer, answered, refused_by}
use Rattle.integers.specs.Refused.{number_of}

-- the value of a page is the number of bytes written
abbrev pub numbers_of_conflict_page : Result (Option ℕ) Refusal → Answer
numbers_of_conflict_page (Ok (Some bytes)) = answered 0 (pos bytes ∷ [])
numbers_of_conflict_page (Ok None) = answered 1 []
numbers_of_conflict_page (Err why) = refused_by (number_of why)
