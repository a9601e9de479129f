-- The answer by the papers' numbers.
use Rattle.std.specs.Prelude.{[], ◌∷◌, pos, Result, Ok, Err}
use Rattle.integers.specs.Answers.{Answer, answered, refused_by}
use Rattle.integers.specs.declared.refused.Refusal.{Refusal}
use Rattle.integers.specs.Refused.{number_of}
use Rattle.busiest_stretch.specs.declared.answer.Stretch.{Stretch}

-- the values are the covered time and the stretch's start
abbrev pub numbers_of_busiest : Result Stretch Refusal → Answer
numbers_of_busiest (Ok stretch) = answered 0 (pos stretch.covered ∷ stretch.start ∷ [])
numbers_of_busiest (Err why) = refused_by (number_of why)
