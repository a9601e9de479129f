-- The record that a series of calls leaves is that of its history. Its total is true, it is lawful, and creation makes it of the durations left.
use mathlib.Core.Path.{◌≡◌, sym, ap, subst, ◌∙◌}
use mathlib.Core.List.{List, map}
use Prim.Native.Nat.{ℕ}
use lib.IntN.{pos}
use lib.ListN.{length}
use Rattle.integers.specs.Tests.{refusal}
use Rattle.records.specs.declared.record.DisjunctivePropagator.{DisjunctivePropagator}
use Rattle.records.specs.Records.{Lawful, creation_tests, created}
use Rattle.task_changes.specs.declared.changes.Changed.{Changed}
use Rattle.task_changes.specs.Lists.{sum_of}
use Rattle.task_changes.specs.Changes.{durations_of, TaskAdded, TaskRemoved}
use Rattle.task_changes.specs.Histories.{History, start_of, record_after, durations_after}
use Rattle.task_changes.proofs.History as history
use Rattle.promises.specs.Series.{Series, create, add, remove, run, history_of}

pub leaves : {left : DisjunctivePropagator} (calls : Series left) → left ≡ record_after (history_of calls)
leaves (create ds c made) = history.create_step ds c made.0
leaves (add {before} {after} calls d answer made) =
    let c : Changed = record { «record» = after; answer = answer } in
    history.add_step (history_of calls) d c (subst (λ (r : DisjunctivePropagator). TaskAdded r d c) (leaves calls) made)
leaves (remove {before} {after} calls t answer made) =
    let c : Changed = record { «record» = after; answer = answer } in
    history.remove_step (history_of calls) t c (subst (λ (r : DisjunctivePropagator). TaskRemoved r t c) (leaves calls) made)
leaves (run calls ranges posts atoms answer changed ranges' posts' atoms' ran) = ran.same_record ∙ leaves calls

module _ {left : DisjunctivePropagator} (calls : Series left) where
  abbrev h : History
  h = history_of calls

  -- The stored total is the sum over the tasks that the history leaves, and the record's durations are theirs.
  pub total_true : (left.total ≡ sum_of (durations_after (history_of calls))) × (durations_of left ≡ durations_after (history_of calls))
  total_true = (ap (λ (r : DisjunctivePropagator). r.total) (leaves calls) ∙ (history.total_true h).0, ap durations_of (leaves calls) ∙ (history.total_true h).1)

  -- From an accepted creation on it is lawful, so that 20 refuses no call,
  pub lawful : refusal (creation_tests (start_of (history_of calls))) ≡ 0 → Lawful left
  lawful z = subst Lawful (sym (leaves calls)) (history.lawful_after h z)

  -- and the one that creation makes of the durations left.
  pub as_created : refusal (creation_tests (start_of (history_of calls))) ≡ 0 → left ≡ (created (map pos (durations_of left))).«record»
  as_created z = leaves calls ∙ history.as_created h z ∙ ap (λ (ds : List ℕ). (created (map pos ds)).«record») (sym total_true.1)

-- Every task of a record that a series leaves has its duration there.
pub count_is : {left : DisjunctivePropagator} → Series left → length (durations_of left) ≡ left.count
count_is calls = ap length (total_true calls).1 ∙ sym (ap (λ (r : DisjunctivePropagator). r.count) (leaves calls ∙ history.record_is (history_of calls)))

-- Two series that leave the same durations leave the same record.
pub same_left : {left left' : DisjunctivePropagator} → Series left → Series left' → durations_of left ≡ durations_of left' → left ≡ left'
same_left calls calls' e = leaves calls ∙ history.same_record (history_of calls) (history_of calls') (sym (total_true calls).1 ∙ e ∙ (total_true calls').1) ∙ sym (leaves calls')
