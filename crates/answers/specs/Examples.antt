-- The numbers at small answers.
use Rattle.std.specs.Prelude.{◌≡◌, refl}
use Rattle.runs.specs.declared.outcome.Outcome.TheVariants as outcome
use Rattle.runs.specs.Outcomes.{outcome_numbers}
use Rattle.answers.specs.SourceAnswers.{answer_of_run}

-- an overload after two posts, whose reason is the four atoms from the tenth on, and 12 leaf changes: 12 words from word 27 on
overloaded : answer_of_run (outcome_numbers (outcome.Overload 2 9 4)) 12 ≡ record { kind = 1; number = 0; posts = 2; first = 27; count = 12; changes = 12 }
overloaded = refl
