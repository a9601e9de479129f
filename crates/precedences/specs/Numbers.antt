-- The pass's answers by the papers' numbers.
use Rattle.std.specs.Prelude.{[], ◌∷◌, pos}
use Rattle.integers.specs.Answers.{Answer, answered, refused_by}
use Rattle.integers.specs.Refused.{number_of}
use Rattle.precedences.specs.declared.answers.Precedences.{Precedences}
use Rattle.precedences.specs.declared.answers.Precedences.TheVariants as pass

-- the value of an emptied pass is the task
abbrev pub numbers_of_precedences : Precedences → Answer
numbers_of_precedences pass.Done = answered 0 []
numbers_of_precedences (pass.Emptied i) = answered 1 (pos i ∷ [])
numbers_of_precedences (pass.Refused why) = refused_by (number_of why)
