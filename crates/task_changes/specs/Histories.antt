-- Histories of a record: a creation, and then tasks added and removed. Each change is made to the record that the one before left.
use Rattle.std.specs.Prelude.{List, [], ◌∷◌, ◌++◌, map, ℕ, zero, suc, ℤ}
use Rattle.integers.specs.Tests.{refusal}
use Rattle.records.specs.declared.record.DisjunctivePropagator.{DisjunctivePropagator}
use Rattle.records.specs.Records.{duration_for, creation_tests, created}
use Rattle.task_changes.specs.Lists.{without}
use Rattle.task_changes.specs.Changes.{added, removed, add_number, remove_number}

pub data History : Type 0 where
  creation : List ℤ → History
  adding : History → ℤ → History
  removing : History → ℕ → History

-- what a change of this number leaves: a refused one changes nothing
abbrev pub leaves : {A : Type 0} → ℕ → A → A → A
leaves zero new old = new
leaves (suc n) new old = old

-- the durations that it starts from
abbrev pub start_of : History → List ℤ
start_of (creation ds) = ds
start_of (adding h d) = start_of h
start_of (removing h t) = start_of h

-- the record that it leaves
unfoldable pub record_after : History → DisjunctivePropagator
record_after (creation ds) = (created ds).«record»
record_after (adding h d) = leaves (add_number (record_after h) d) (added (record_after h) (duration_for d)) (record_after h)
record_after (removing h t) = leaves (remove_number (record_after h) t) (removed (record_after h) t) (record_after h)

-- the durations of the tasks that it leaves, by number: an added one comes last, and a removed one is left out
unfoldable pub durations_after : History → List ℕ
durations_after (creation ds) = leaves (refusal (creation_tests ds)) (map duration_for ds) []
durations_after (adding h d) = leaves (add_number (record_after h) d) (durations_after h ++ (duration_for d ∷ [])) (durations_after h)
durations_after (removing h t) = leaves (remove_number (record_after h) t) (without (durations_after h) t) (durations_after h)
