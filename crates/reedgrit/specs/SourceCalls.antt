-- What the exported calls answer: the numbers of what the open calls of their names answer, which keep their contracts.
use Rattle.std.specs.Prelude.{List, ℤ}
use Rattle.records.specs.declared.record.DisjunctivePropagator.{DisjunctivePropagator}
use Rattle.records.specs.Records.{number_of_creation, created}
use Rattle.runs.specs.declared.outcome.Finished.{Finished}
use Rattle.runs.specs.Outcomes.{outcome_numbers}
use Rattle.ranges.specs.declared.range.Range.{Range}
use Rattle.promises.specs.RanLent.{RanLent}
use Rattle.answers.specs.declared.source_calls.NewPropagator.{NewPropagator}
use Rattle.answers.specs.declared.source_calls.RunAnswer.{RunAnswer}
use Rattle.answers.specs.SourceAnswers.{answer_of_run, NumbersOf}

-- creation: the record and its answer's number
abbrev pub new_numbers : List ℤ → NewPropagator
new_numbers ds = record { propagator = (created ds).«record»; number = number_of_creation (created ds).answer }

-- a run: the numbers of its outcome, and its leaf changes
abbrev pub RanNumbers : DisjunctivePropagator → List Range → List ℤ → List ℤ → RunAnswer
    → DisjunctivePropagator → List Range → List ℤ → List ℤ → Type 0
RanNumbers before ranges posts atoms a after ranges' posts' atoms' =
    NumbersOf (λ (r : Finished). answer_of_run (outcome_numbers r.outcome) r.changes)
    (λ r. RanLent before ranges posts atoms r.outcome r.changes after ranges' posts' atoms') a
