-- A record with a task more, and with a task less: what each call leaves, and what refuses it.
use Rattle.std.specs.Prelude.{◌≡◌, List, [], ◌∷◌, ◌++◌, ℕ, ◌+◌, ◌-◌, Result, leb, ltb, ℤ, pos, get_or, take}
use Rattle.std.specs.Int.Signed.{le_z}
use Rattle.integers.specs.Refused as refused
use Rattle.integers.specs.declared.refused.Refusal.{Refusal}
use Rattle.integers.specs.Answers.{Answer, answered, refused_by}
use Rattle.integers.specs.Limits.{DURATIONS}
use Rattle.integers.specs.Tests.{Test, test, refusal}
use Rattle.records.specs.declared.record.DisjunctivePropagator.{DisjunctivePropagator}
use Rattle.records.specs.Records.{count_within, duration_for, lawful_record, Lawful}
use Rattle.task_changes.specs.declared.changes.Changed.{Changed}
use Rattle.task_changes.specs.Numbers.{numbers_of_change}
use Rattle.task_changes.specs.Lists.{placed, without}

-- What a call leaves: its answer, by the papers' numbers, and the record.
pub record ChangeLeft (a : Answer) (after : DisjunctivePropagator) (c : Changed) : Type 0 where
  pub answer : numbers_of_change c.answer ≡ a
  pub stands : c.«record» ≡ after

module _ (r : DisjunctivePropagator) where
  -- the durations of a record's tasks, by number
  abbrev pub durations_of : List ℕ
  durations_of = take r.count r.durations

  -- the record with a task of duration d, which takes number n
  abbrev pub added : ℕ → DisjunctivePropagator
  added d = record {
    count = r.count + 1;
    durations = placed (durations_of ++ (d ∷ []));
    total = r.total + d;
  }

  -- the record without task t, and its gap in the numbers closed
  abbrev pub removed : ℕ → DisjunctivePropagator
  removed t = record {
    count = r.count - 1;
    durations = placed (without durations_of t);
    total = r.total - get_or r.durations t 0;
  }

  -- 20: a record that is not lawful. Then, as for creation, 1: more than TASKS tasks; 2: a duration below 1; 5: a sum above DURATIONS
  abbrev pub add_tests : ℤ → List Test
  add_tests d =
      test refused.RECORD (lawful_record r)
      ∷ test refused.TASK_COUNT (count_within (r.count + 1))
      ∷ test refused.DURATION (le_z (pos 1) d)
      ∷ test refused.DURATION_SUM (leb (r.total + duration_for d) DURATIONS)
      ∷ []

  abbrev pub add_number : ℤ → ℕ
  add_number d = refusal (add_tests d)

  -- 20; 12: a number that is not below n; 1: the only task
  abbrev pub remove_tests : ℕ → List Test
  remove_tests t =
      test refused.RECORD (lawful_record r)
      ∷ test refused.REMOVED (ltb t r.count)
      ∷ test refused.TASK_COUNT (count_within (r.count - 1))
      ∷ []

  abbrev pub remove_number : ℕ → ℕ
  remove_number t = refusal (remove_tests t)

  -- The first test that fails refuses a call, and the record stays unchanged; else the record is the definition's, and lawful.
  pub record TaskAdded (d : ℤ) (c : Changed) : Type 0 where
    pub refused : (add_number d ≡ 0 → ⊥) → ChangeLeft (refused_by (add_number d)) r c
    pub made : add_number d ≡ 0 → ChangeLeft (answered 0 []) (added (duration_for d)) c
    pub lawful : add_number d ≡ 0 → Lawful c.«record»

  pub record TaskRemoved (t : ℕ) (c : Changed) : Type 0 where
    pub refused : (remove_number t ≡ 0 → ⊥) → ChangeLeft (refused_by (remove_number t)) r c
    pub made : remove_number t ≡ 0 → ChangeLeft (answered 0 []) (removed t) c
    pub lawful : remove_number t ≡ 0 → Lawful c.«record»

  -- the same on a lent record: the record at the end, and the answer
  abbrev pub AddedLent : ℤ → Result Unit Refusal → DisjunctivePropagator → Type 0
  AddedLent d answer after = TaskAdded d (record { «record» = after; answer = answer })

  abbrev pub RemovedLent : ℕ → Result Unit Refusal → DisjunctivePropagator → Type 0
  RemovedLent t answer after = TaskRemoved t (record { «record» = after; answer = answer })
