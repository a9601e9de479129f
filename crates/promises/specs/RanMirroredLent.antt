-- The contract of the open mirrored pass, on a lent record, lent ranges and lent words: refused or accepted.
use Rattle.std.specs.Prelude.{◌≡◌, List, ℤ}
use Rattle.integers.specs.Answers.{refused_by}
use Rattle.records.specs.declared.record.DisjunctivePropagator.{DisjunctivePropagator}
use Rattle.runs.specs.declared.outcome.Outcome.{Outcome}
use Rattle.runs.specs.Outcomes.{outcome_numbers}
use Rattle.mirrored.specs.RanMirrored.{mirrored_of, LeftMirrored}
use Rattle.ranges.specs.declared.range.Range.{Range}
use Rattle.ranges.specs.Ranges.{earliests, latests, with_latests}
use Rattle.promises.specs.MirroredPromise.{MirroredPromise}
use Rattle.promises.specs.RanLent.{lent_number}

module _ (before : DisjunctivePropagator) (ranges : List Range) (posts atoms : List ℤ) (answer : Outcome) (ranges' : List Range)
    (posts' atoms' : List ℤ) where
  -- A refused pass answers the number and changes nothing.
  pub record RefusedMirroredLent : Type 0 where
    pub number : outcome_numbers answer ≡ refused_by (lent_number before ranges posts atoms)
    pub same_ranges : ranges' ≡ ranges
    pub same_posts : posts' ≡ posts
    pub same_atoms : atoms' ≡ atoms

  -- An accepted one keeps its promise, and leaves what the pass's definition does: the answer, and the words of posts and reasons over what stood there; the
  -- ranges are the old ones in which its starts are stored.
  pub record AcceptedMirroredLent : Type 0 where
    pub promise : MirroredPromise before ranges answer ranges' posts' atoms'
    pub left : LeftMirrored before (earliests ranges) (latests ranges) posts atoms answer
        (mirrored_of before (earliests ranges) (latests ranges)).starts posts' atoms'
    pub stored : ranges' ≡ with_latests ranges (mirrored_of before (earliests ranges) (latests ranges)).starts

  pub record RanMirroredLent : Type 0 where
    pub refused : (lent_number before ranges posts atoms ≡ 0 → ⊥) → RefusedMirroredLent
    pub accepted : lent_number before ranges posts atoms ≡ 0 → AcceptedMirroredLent
