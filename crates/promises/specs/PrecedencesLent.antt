-- The contract of the open pass by precedences, on a lent record and lent ranges: refused or accepted.
use Rattle.std.specs.Prelude.{List, ◌≡◌, ℕ, ◌<◌, ℤ, pos, get_or, ◌≤ℤ◌}
use Rattle.integers.specs.Answers.{refused_by}
use Rattle.scheduling.specs.Scheduling.{whole, Tasks}
use Rattle.records.specs.declared.record.DisjunctivePropagator.{DisjunctivePropagator}
use Rattle.records.specs.Refusals.{input_number}
use Rattle.precedences.specs.declared.answers.Precedences.{Precedences}
use Rattle.precedences.specs.Numbers.{numbers_of_precedences}
use Rattle.precedences.specs.Precedences.{LeftPrecedences}
use Rattle.ranges.specs.declared.range.Range.{Range}
use Rattle.ranges.specs.Bars.{all_bars_are_fit}
use Rattle.ranges.specs.Permitted.{FirstPermitted, PermittedSchedule}
use Rattle.ranges.specs.Ranges.{earliests, latests, any_range, with_starts}
use Rattle.promises.specs.Promise.{tasks_lent}

-- the number that refuses a call that has no words to write: of the record, the ranges and their bars; 0 where none does
abbrev pub ranges_number : DisjunctivePropagator → List Range → ℕ
ranges_number before ranges = input_number before (earliests ranges) (latests ranges) (all_bars_are_fit ranges)

module _ (before : DisjunctivePropagator) (ranges : List Range) (r : Precedences) (ranges' : List Range) where
  -- the tasks at entry
  abbrev J : Tasks whole
  J = tasks_lent before ranges

  -- the earliest start that task k is left with
  abbrev earliest' : ℕ → ℤ
  earliest' k = get_or (earliests ranges') k (pos 0)

  -- A refused pass answers the number and changes nothing.
  pub record RefusedPrecedencesLent : Type 0 where
    pub number : numbers_of_precedences r ≡ refused_by (ranges_number before ranges)
    pub same_ranges : ranges' ≡ ranges

  pub record AcceptedPrecedencesLent : Type 0 where
    -- The starts that the pass by the bounds gives, each the larger of its old value and its bound, and what it answers;
    pub raised : List ℤ
    pub left : LeftPrecedences J (earliests ranges) r raised
    -- a raised start moves on to a permitted value, and of the ranges nothing else changes.
    pub stored : ranges' ≡ with_starts ranges raised
    pub first : (numbers_of_precedences r).kind ≡ 0 → (k : ℕ) → k < J.count
        → FirstPermitted (get_or ranges k any_range) (get_or raised k (pos 0)) (earliest' k)
    -- Where a bound passes a latest start no range changes.
    pub same_emptied : (numbers_of_precedences r).kind ≡ 1 → ranges' ≡ ranges
    -- No schedule of permitted starts is lost: each starts every task at or after the earliest start that the task is left with.
    pub none_lost : (numbers_of_precedences r).kind ≡ 0 → (s : ℕ → ℤ) → PermittedSchedule J ranges s → (k : ℕ) → k < J.count
        → earliest' k ≤ℤ s k

  pub record PrecedencesLent : Type 0 where
    pub refused : (ranges_number before ranges ≡ 0 → ⊥) → RefusedPrecedencesLent
    pub accepted : ranges_number before ranges ≡ 0 → AcceptedPrecedencesLent
