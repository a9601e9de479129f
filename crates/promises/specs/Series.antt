-- A series of calls: a creation, and then tasks added, tasks taken off and runs, each lent the record that the one before left.
-- Every step is the contract of the open call, accepted or refused. No other open call can change the record: it is lent to them as `&`.
use Rattle.std.specs.Prelude.{◌≡◌, List, ℕ, ℤ, Result}
use Rattle.integers.specs.Tests.{refusal}
use Rattle.integers.specs.declared.refused.Refusal.{Refusal}
use Rattle.records.specs.declared.record.DisjunctivePropagator.{DisjunctivePropagator}
use Rattle.records.specs.declared.record.Created.{Created}
use Rattle.records.specs.Records.{creation_tests, number_of_creation, created}
use Rattle.runs.specs.declared.outcome.Outcome.{Outcome}
use Rattle.task_changes.specs.Changes.{AddedLent, RemovedLent}
use Rattle.task_changes.specs.Histories.{History, creation, adding, removing}
use Rattle.ranges.specs.declared.range.Range.{Range}
use Rattle.promises.specs.RanLent.{RanLent}

-- the series that leave a record
pub data Series : DisjunctivePropagator → Type 0 where
  create : (ds : List ℤ) (c : Created) → (c ≡ created ds) × (number_of_creation c.answer ≡ refusal (creation_tests ds)) → Series c.«record»
  add : {before after : DisjunctivePropagator} → Series before → (d : ℤ) (answer : Result Unit Refusal) → AddedLent before d answer after → Series after
  remove : {before after : DisjunctivePropagator} → Series before → (t : ℕ) (answer : Result Unit Refusal) → RemovedLent before t answer after → Series after
  run : {before after : DisjunctivePropagator} → Series before
      → (ranges : List Range) (posts atoms : List ℤ) (answer : Outcome) (changed : ℕ) (ranges' : List Range) (posts' atoms' : List ℤ)
      → RanLent before ranges posts atoms answer changed after ranges' posts' atoms' → Series after

-- what a series does to the tasks: a run adds none and takes none off
abbrev pub history_of : {left : DisjunctivePropagator} → Series left → History
history_of (create ds c made) = creation ds
history_of (add calls d answer made) = adding (history_of calls) d
history_of (remove calls t answer made) = removing (history_of calls) t
history_of (run calls ranges posts atoms answer changed ranges' posts' atoms' ran) = history_of calls
