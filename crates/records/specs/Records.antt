-- The propagator's record: which are lawful, and what creation gives.
use Rattle.std.specs.Prelude.{◌≡◌, Bool, ◌&&◌, ◌||◌, Result, Ok, Err, List, [], ◌∷◌, ℕ, zero, suc, ◌≤◌, ◌<◌, leb, ltb, eqb, ℤ, pos, negsuc, length, get_or, take}
use Rattle.std.specs.Int.Signed.{le_z}
use Rattle.integers.specs.Refused as refused
use Rattle.integers.specs.Refused.{number_of}
use Rattle.integers.specs.declared.refused.Refusal.{Refusal}
use Rattle.integers.specs.Limits.{TASKS, DURATIONS}
use Rattle.integers.specs.FilledLists.{filled, no_tasks}
use Rattle.integers.specs.Moments.{zero_at}
use Rattle.integers.specs.Answers.{Answer, answered, refused_by}
use Rattle.integers.specs.Tests.{Test, test, refusal, all_below}
use Rattle.scheduling.specs.Scheduling.{whole, natural, Tasks, tasks_of, total}
use Rattle.scheduling.specs.Moments.{moments}
use Rattle.records.specs.declared.record.DisjunctivePropagator.{DisjunctivePropagator}
use Rattle.records.specs.declared.record.Created.{Created}
use Rattle.integers.specs.Reasons.{reason_of}

-- the number of tasks is from 1 to TASKS
abbrev pub count_within : ℕ → Bool
count_within n = leb 1 n && leb n TASKS

-- the durations of tasks 0 to n − 1 sum to at most DURATIONS
abbrev pub sum_within : (ℕ → ℕ) → ℕ → Bool
sum_within duration n = leb (total duration n) DURATIONS

-- Lawful records ---------------------------------------------------------------------------------------------------------------

-- the duration of a record's task k is 1 or more
abbrev pub lasts_at : List ℕ → ℕ → Bool
lasts_at durations k = leb 1 (get_or durations k 0)

-- place k holds 0
abbrev pub holds_zero : List ℕ → ℕ → Bool
holds_zero places k = eqb (get_or places k 0) 0

-- place k is a task's, or holds 0
unfoldable pub unused_at : List ℕ → ℕ → ℕ → Bool
unused_at durations n k = ltb k n || eqb (get_or durations k 0) 0

-- the stored total is the sum of the durations of tasks 0 to n − 1
abbrev pub total_of_true : ℕ → List ℕ → ℕ → Bool
total_of_true stored durations n = eqb stored (total (λ k. get_or durations k 0) n)

-- each place from n on holds 0
abbrev pub unused_is_zero : List ℕ → ℕ → Bool
unused_is_zero durations n = all_below (unused_at durations n) TASKS

-- a record of these fields
abbrev pub record_of : ℕ → List ℕ → ℕ → DisjunctivePropagator
record_of n durations stored = record { count = n; durations = durations; total = stored }

-- the tests of a record, which are one number to a run
unfoldable pub lawful_record : DisjunctivePropagator → Bool
lawful_record r =
    count_within r.count
    && (all_below (lasts_at r.durations) r.count
    && (sum_within (λ k. get_or r.durations k 0) r.count
    && (total_of_true r.total r.durations r.count
    && unused_is_zero r.durations r.count)))

-- The same as facts.
pub record Lawful (r : DisjunctivePropagator) : Type 0 where
  pub some : 1 ≤ r.count
  pub few : r.count ≤ TASKS
  pub lasts : (k : ℕ) → k < r.count → 1 ≤ get_or r.durations k 0
  pub sum : total (λ k. get_or r.durations k 0) r.count ≤ DURATIONS
  pub stored : r.total ≡ total (λ k. get_or r.durations k 0) r.count
  pub unused : (k : ℕ) → r.count ≤ k → k < TASKS → get_or r.durations k 0 ≡ 0

-- The tasks of a record --------------------------------------------------------------------------------------------------------

module _ (r : DisjunctivePropagator) (es ls : List ℤ) where
  -- the tasks of a record with these ranges, and their moments
  abbrev pub tasks_in : Tasks whole
  tasks_in = tasks_of (take r.count r.durations) es ls

  abbrev pub moments_in : Tasks natural
  moments_in = moments zero_at tasks_in

-- Creation ---------------------------------------------------------------------------------------------------------------------

-- a duration as a natural number; 0 where it is negative, which 2 refuses
abbrev pub duration_for : ℤ → ℕ
duration_for (pos n) = n
duration_for (negsuc n) = 0

-- that of task k
abbrev pub duration_at : List ℤ → ℕ → ℕ
duration_at ds k = duration_for (get_or ds k (pos 0))

-- task k's duration is 1 or more
abbrev pub positive_at : List ℤ → ℕ → Bool
positive_at ds k = le_z (pos 1) (get_or ds k (pos 0))

-- 1: no tasks, or more than TASKS; 2: a duration below 1; 5: a sum above DURATIONS
abbrev pub creation_tests : List ℤ → List Test
creation_tests ds =
    test refused.TASK_COUNT (count_within (length ds))
    ∷ test refused.DURATION (all_below (positive_at ds) (length ds))
    ∷ test refused.DURATION_SUM (sum_within (duration_at ds) (length ds))
    ∷ []

-- the answer by the papers' numbers, and the number that refused creation; 0 where the record is made
abbrev pub creation_numbers : Result Unit Refusal → Answer
creation_numbers (Ok made) = answered 0 []
creation_numbers (Err why) = refused_by (number_of why)

abbrev pub number_of_creation : Result Unit Refusal → ℕ
number_of_creation answer = (creation_numbers answer).number

-- the durations of a record, from a caller's
abbrev pub lengths_of : List ℤ → List ℕ
lengths_of ds = filled (duration_at ds) (length ds) no_tasks

-- a new record: the durations with their sum
abbrev pub new_record : List ℤ → DisjunctivePropagator
new_record ds = record {
  count = length ds;
  durations = lengths_of ds;
  total = total (duration_at ds) (length ds);
}

abbrev pub zero_record : DisjunctivePropagator
zero_record = record { count = 0; durations = no_tasks; total = 0 }

-- the new record, or the record of zeros with the reason that has the number
abbrev pub created_at : ℕ → List ℤ → Created
created_at zero ds = record { «record» = new_record ds; answer = Ok tt }
created_at (suc n) ds = record { «record» = zero_record; answer = Err (reason_of (suc n)) }

abbrev pub created : List ℤ → Created
created ds = created_at (refusal (creation_tests ds)) ds

-- Creation answers with those numbers, of which the number is the first broken test's, and hands that record back.
pub record Creates (ds : List ℤ) (r : Created) : Type 0 where
  pub answer : creation_numbers r.answer ≡ creation_numbers (created ds).answer
  pub number : number_of_creation r.answer ≡ refusal (creation_tests ds)
  pub made : r.«record» ≡ (created ds).«record»
