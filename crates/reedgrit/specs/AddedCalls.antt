-- What the exported calls beside the run answer: the numbers of what the open calls of their names answer, which keep their contracts.
use Rattle.std.specs.Prelude.{List, ℕ, ℤ}
use Rattle.records.specs.declared.record.DisjunctivePropagator.{DisjunctivePropagator}
use Rattle.charges.specs.Charges.{Charged}
use Rattle.overload_test.specs.Numbers.{numbers_of_overload}
use Rattle.overload_test.specs.Tested.{OverloadTested}
use Rattle.conflicts.specs.Conflicts.{ConflictFound}
use Rattle.conflict_pages.specs.Numbers.{numbers_of_conflict_page}
use Rattle.conflict_pages.specs.Pages.{ConflictPaged}
use Rattle.task_changes.specs.Changes.{AddedLent, RemovedLent}
use Rattle.task_changes.specs.Numbers.{numbers_of_change}
use Rattle.free_starts.specs.FreeStarts.{FreeStartAnswered}
use Rattle.free_starts.specs.Numbers.{free_start_numbers}
use Rattle.pages.specs.Numbers.{numbers_of_page}
use Rattle.pages.specs.Pages.{Paged}
use Rattle.precedences.specs.Numbers.{numbers_of_precedences}
use Rattle.precedences.specs.ReasonNumbers.{numbers_of_reason, numbers_of_bound}
use Rattle.precedences.specs.Bounds.{BoundGiven}
use Rattle.precedences.specs.Reasons.{ReasonGiven}
use Rattle.runs.specs.Outcomes.{outcome_numbers}
use Rattle.busiest_stretch.specs.Numbers.{numbers_of_busiest}
use Rattle.busiest_stretch.specs.Stretches.{BusiestAnswered}
use Rattle.ranges.specs.declared.range.Range.{Range}
use Rattle.promises.specs.PrecedencesLent.{PrecedencesLent}
use Rattle.promises.specs.RanMirroredLent.{RanMirroredLent}
use Rattle.ranges.specs.Bars.{all_bars_are_fit}
use Rattle.ranges.specs.Ranges.{earliests, latests}
use Rattle.answers.specs.declared.added_calls.MirroredAnswer.{MirroredAnswer}
use Rattle.answers.specs.declared.added_calls.CountAnswer.{CountAnswer}
use Rattle.answers.specs.declared.added_calls.ChangeAnswer.{ChangeAnswer}
use Rattle.answers.specs.declared.added_calls.StartAnswer.{StartAnswer}
use Rattle.answers.specs.declared.added_calls.BusiestAnswer.{BusiestAnswer}
use Rattle.answers.specs.declared.added_calls.ChargesAnswer.{ChargesAnswer}
use Rattle.answers.specs.declared.added_calls.ConflictAnswer.{ConflictAnswer}
use Rattle.answers.specs.AddedAnswers.{answer_of_mirrored, answer_of_count, change_answer, answer_of_start, busiest_answer, answer_of_charges, answer_of_conflict}
use Rattle.answers.specs.SourceAnswers.{NumbersOf}

abbrev pub MirroredNumbers : DisjunctivePropagator → List Range → List ℤ → List ℤ → MirroredAnswer
    → List Range → List ℤ → List ℤ → Type 0
MirroredNumbers before ranges posts atoms a ranges' posts' atoms' =
    NumbersOf (λ r. answer_of_mirrored (outcome_numbers r)) (λ r. RanMirroredLent before ranges posts atoms r ranges' posts' atoms') a

abbrev pub OverloadNumbers : DisjunctivePropagator → List Range → CountAnswer → Type 0
OverloadNumbers before ranges =
    NumbersOf (λ r. answer_of_count (numbers_of_overload r)) (OverloadTested before (earliests ranges) (latests ranges) (all_bars_are_fit ranges))

abbrev pub ConflictNumbers : DisjunctivePropagator → List Range → ConflictAnswer → Type 0
ConflictNumbers before ranges = NumbersOf answer_of_conflict (ConflictFound before (earliests ranges) (latests ranges) (all_bars_are_fit ranges))

abbrev pub ConflictPageNumbers : DisjunctivePropagator → List Range → List ℕ → CountAnswer → List ℕ → Type 0
ConflictPageNumbers before ranges out a out' =
    NumbersOf (λ r. answer_of_count (numbers_of_conflict_page r)) (λ r. ConflictPaged before (earliests ranges) (latests ranges) (all_bars_are_fit ranges) out r out') a

abbrev pub AddedNumbers : DisjunctivePropagator → ℤ → ChangeAnswer → DisjunctivePropagator → Type 0
AddedNumbers before duration a after = NumbersOf (λ r. change_answer (numbers_of_change r)) (λ r. AddedLent before duration r after) a

abbrev pub RemovedNumbers : DisjunctivePropagator → ℕ → ChangeAnswer → DisjunctivePropagator → Type 0
RemovedNumbers before task a after = NumbersOf (λ r. change_answer (numbers_of_change r)) (λ r. RemovedLent before task r after) a

abbrev pub PageNumbers : DisjunctivePropagator → List Range → List ℕ → CountAnswer → List ℕ → Type 0
PageNumbers before ranges out a out' = NumbersOf (λ r. answer_of_count (numbers_of_page r)) (λ r. Paged before (earliests ranges) (latests ranges) out r out') a

abbrev pub ChargesNumbers : DisjunctivePropagator → List Range → List ℤ → ChargesAnswer → Type 0
ChargesNumbers before ranges due = NumbersOf answer_of_charges (Charged before (earliests ranges) (latests ranges) due)

abbrev pub FreeStartNumbers : DisjunctivePropagator → List Range → ℤ → ℤ → StartAnswer → Type 0
FreeStartNumbers before ranges t d = NumbersOf (λ r. answer_of_start (free_start_numbers r)) (FreeStartAnswered before (earliests ranges) (latests ranges) t d)

abbrev pub BusiestNumbers : DisjunctivePropagator → List Range → ℤ → BusiestAnswer → Type 0
BusiestNumbers before ranges w = NumbersOf (λ r. busiest_answer (numbers_of_busiest r)) (BusiestAnswered before (earliests ranges) (latests ranges) w)

abbrev pub PrecedencesNumbers : DisjunctivePropagator → List Range → CountAnswer → List Range → Type 0
PrecedencesNumbers before ranges a ranges' = NumbersOf (λ r. answer_of_count (numbers_of_precedences r)) (λ r. PrecedencesLent before ranges r ranges') a

abbrev pub BoundNumbers : DisjunctivePropagator → List Range → ℕ → StartAnswer → Type 0
BoundNumbers before ranges task =
    NumbersOf (λ r. answer_of_start (numbers_of_bound r)) (BoundGiven before (earliests ranges) (latests ranges) (all_bars_are_fit ranges) task)

abbrev pub ReasonNumbers : DisjunctivePropagator → List Range → ℕ → List ℤ → CountAnswer → List ℤ → Type 0
ReasonNumbers before ranges task reason a reason' =
    NumbersOf (λ r. answer_of_count (numbers_of_reason r)) (λ r. ReasonGiven before (earliests ranges) (latests ranges) (all_bars_are_fit ranges) task reason r reason') a
