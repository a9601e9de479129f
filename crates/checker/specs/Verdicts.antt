-- Verdicts by the papers' numbers.
use Rattle.std.specs.Prelude.{[], ◌∷◌, pos}
use Rattle.integers.specs.Answers.{Answer, answered, refused_by}
use Rattle.integers.specs.Refused.{number_of}
use Rattle.checker.specs.declared.checker.Verdict.{Verdict}
use Rattle.checker.specs.declared.checker.Verdict.TheVariants as verdict

-- the value of a contradiction is its variable
abbrev pub numbers_of_verdict : Verdict → Answer
numbers_of_verdict verdict.Passed = answered 0 []
numbers_of_verdict verdict.NotPassed = answered 1 []
numbers_of_verdict (verdict.Contradiction x) = answered 2 (pos x ∷ [])
numbers_of_verdict (verdict.Refused why) = refused_by (number_of why)
