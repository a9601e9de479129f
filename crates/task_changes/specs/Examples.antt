-- The definitions at small inputs.
use Rattle.std.specs.Prelude.{◌≡◌, refl, false, [], ◌∷◌, ◌-◌, pos}
use Rattle.integers.specs.FilledLists.{filled}
use Rattle.integers.specs.Limits.{DURATIONS}
use Rattle.integers.specs.Tests.{all_below, refusal}
use Rattle.scheduling.specs.Scheduling.{total}
use Rattle.records.specs.declared.record.DisjunctivePropagator.{DisjunctivePropagator}
use Rattle.records.specs.Records.{unused_at, lawful_record, new_record, record_of}
use Rattle.records.specs.Refusals.{run_number}
use Rattle.task_changes.specs.Lists.{placed, without}
use Rattle.task_changes.specs.Changes.{added, removed, add_number, remove_number}

-- three tasks
three : DisjunctivePropagator
three = record_of 3 (placed (4 ∷ 5 ∷ 6 ∷ [])) 15

without_the_first : removed three 0 ≡ record_of 2 (placed (5 ∷ 6 ∷ [])) 11
unfolding three without
without_the_first = refl

with_one_more : added three 7 ≡ record_of 4 (placed (4 ∷ 5 ∷ 6 ∷ 7 ∷ [])) 22
unfolding three
with_one_more = refl

-- a stored total that is one too small falls under 20, before anything else
total_false : add_number (record_of 1 (placed (4 ∷ [])) 3) (pos 0) ≡ 20
unfolding refusal lawful_record all_below unused_at total
total_false = refl

run_is_refused : run_number (record_of 1 (placed (4 ∷ [])) 5) [] [] false 0 0 ≡ 20
unfolding refusal lawful_record all_below unused_at total
run_is_refused = refl

sum_above : add_number three (pos (DURATIONS - 14)) ≡ 5
unfolding three refusal lawful_record all_below unused_at total
sum_above = refl

sum_fits : add_number three (pos (DURATIONS - 15)) ≡ 0
unfolding three refusal lawful_record all_below unused_at total
sum_fits = refl

-- of a record's one task: a number past it is 12, its own 1
one : DisjunctivePropagator
one = new_record (pos 4 ∷ [])

not_there : remove_number one 1 ≡ 12
unfolding one refusal lawful_record all_below unused_at filled total
not_there = refl

the_only_task : remove_number one 0 ≡ 1
unfolding one refusal lawful_record all_below unused_at filled total
the_only_task = refl
