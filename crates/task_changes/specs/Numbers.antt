-- The answer by the papers' numbers.
use Rattle.std.specs.Prelude.{[], Result, Ok, Err}
use Rattle.integers.specs.Answers.{Answer, answered, refused_by}
use Rattle.integers.specs.Refused.{number_of}
use Rattle.integers.specs.declared.refused.Refusal.{Refusal}

-- a change that is made has no value: the record comes beside it
abbrev pub numbers_of_change : Result Unit Refusal → Answer
numbers_of_change (Ok made) = answered 0 []
numbers_of_change (Err why) = refused_by (number_of why)
