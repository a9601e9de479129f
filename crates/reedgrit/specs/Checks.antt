-- The checks' verdicts as numbers.
use Rattle.std.specs.Prelude.{List, ℤ}
use Rattle.checker.specs.Checked.{Checked, CheckedMirrored}
use Rattle.checker.specs.Verdicts.{numbers_of_verdict}
use Rattle.answers.specs.declared.source_calls.CheckAnswer.{CheckAnswer}
use Rattle.answers.specs.SourceAnswers.{answer_of_check, NumbersOf}

-- the numbers of a verdict, which is the check's or the mirrored check's
abbrev pub CheckedNumbers : List ℤ → List ℤ → List ℤ → CheckAnswer → Type 0
CheckedNumbers ds premises consequent = NumbersOf (λ r. answer_of_check (numbers_of_verdict r)) (Checked ds premises consequent)

abbrev pub CheckedMirroredNumbers : List ℤ → List ℤ → List ℤ → CheckAnswer → Type 0
CheckedMirroredNumbers ds premises consequent = NumbersOf (λ r. answer_of_check (numbers_of_verdict r)) (CheckedMirrored ds premises consequent)
