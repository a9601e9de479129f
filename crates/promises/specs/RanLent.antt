-- The contract of the open run, on a lent record, lent ranges and lent words: refused or accepted.
use Rattle.std.specs.Prelude.{◌≡◌, List, ℕ, ℤ, length}
use Rattle.integers.specs.Answers.{refused_by}
use Rattle.records.specs.declared.record.DisjunctivePropagator.{DisjunctivePropagator}
use Rattle.records.specs.Refusals.{run_number}
use Rattle.runs.specs.declared.outcome.Outcome.{Outcome}
use Rattle.runs.specs.Outcomes.{outcome_numbers}
use Rattle.propagator.specs.Ran.{trace_of, RunLeft}
use Rattle.ranges.specs.declared.range.Range.{Range}
use Rattle.ranges.specs.Bars.{all_bars_are_fit}
use Rattle.ranges.specs.Ranges.{earliests, latests, with_starts}
use Rattle.promises.specs.Promise.{Promise}

-- the number that refuses a run or a mirrored pass; 0 where none does
abbrev pub lent_number : DisjunctivePropagator → List Range → List ℤ → List ℤ → ℕ
lent_number before ranges posts atoms = run_number before (earliests ranges) (latests ranges) (all_bars_are_fit ranges) (length posts) (length atoms)

module _ (before : DisjunctivePropagator) (ranges : List Range) (posts atoms : List ℤ) (answer : Outcome) (changed : ℕ) (after : DisjunctivePropagator)
    (ranges' : List Range) (posts' atoms' : List ℤ) where
  -- A refused run answers the number, counts no leaf change, and changes nothing.
  pub record RefusedLent : Type 0 where
    pub number : outcome_numbers answer ≡ refused_by (lent_number before ranges posts atoms)
    pub no_changes : changed ≡ 0
    pub same_ranges : ranges' ≡ ranges
    pub same_posts : posts' ≡ posts
    pub same_atoms : atoms' ≡ atoms

  -- An accepted one keeps the promise, and leaves what the run's definition does: the answer, the count of leaf changes, which is at most 4n − 3, and the
  -- words of posts and reasons over what stood there; the ranges are the old ones in which its starts are stored.
  pub record AcceptedLent : Type 0 where
    pub promise : Promise before ranges answer ranges' posts' atoms'
    pub left : RunLeft before (earliests ranges) (latests ranges) posts atoms answer changed
        (trace_of before (earliests ranges) (latests ranges)).starts posts' atoms'
    pub stored : ranges' ≡ with_starts ranges (trace_of before (earliests ranges) (latests ranges)).starts

  -- The record is unchanged.
  pub record RanLent : Type 0 where
    pub same_record : after ≡ before
    pub refused : (lent_number before ranges posts atoms ≡ 0 → ⊥) → RefusedLent
    pub accepted : lent_number before ranges posts atoms ≡ 0 → AcceptedLent
