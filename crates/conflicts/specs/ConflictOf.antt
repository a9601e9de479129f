-- The answer as a function of the input: which sets it shows are those that the overload test and the run meet.
use Rattle.std.specs.Prelude.{◌&&◌, not, Option, Some, None, List, ℕ, ◌-◌, eqb, ℤ, length}
use Rattle.integers.specs.Moments.{moment, instant, zero_at}
use Rattle.scheduling.specs.Scheduling.{natural, Tasks, TaskSet}
use Rattle.scheduling.specs.Ects.{ect_of}
use Rattle.trees.specs.Ects.{raised_to}
use Rattle.runs.specs.Traces.{Post, End, done, overload, emptied}
use Rattle.runs.specs.Demand.{post}
use Rattle.runs.specs.ReasonSets.{named}
use Rattle.records.specs.declared.record.DisjunctivePropagator.{DisjunctivePropagator}
use Rattle.records.specs.Records.{tasks_in, moments_in}
use Rattle.propagator.specs.Ran.{trace_of}
use Rattle.overload_test.specs.ReadTasks.{read, answer_of}
use Rattle.conflicts.specs.declared.answer.Found.TheVariants.{NothingFound, Overload, Late}
use Rattle.conflicts.specs.declared.answer.Conflict.{Conflict}
use Rattle.conflicts.specs.Answers.{without_work, without_conflict}
use Rattle.conflicts.specs.Suffixes.{suffix_up_to}
use Rattle.conflicts.specs.Spans.{past_by, span_of, work_of}

-- S without i
abbrev pub others : TaskSet → ℕ → TaskSet
others S i k = not (eqb k i) && S k

module _ (J : Tasks natural) where
  -- of the first k tasks by latest completion, the longest suffix that attains their ect
  abbrev pub overloading_set : ℕ → TaskSet
  overloading_set k = suffix_up_to J (read J k) (raised_to 0 (ect_of J (read J k)))

  -- Ω overloads
  abbrev pub overload_by : TaskSet → Conflict
  overload_by Ω = record {
    found = Overload;
    set = work_of J Ω;
    lct = instant zero_at (span_of J Ω).lct;
    excess = past_by (span_of J Ω) (span_of J Ω).lct;
    before = without_work;
  }

  -- task i of S is late: of the others, the longest suffix that gives the bound is before it
  abbrev pub late_in : ℕ → ℤ → ℤ → TaskSet → Conflict
  late_in i latest_start bound S = record {
    found = Late i latest_start bound;
    set = work_of J S;
    lct = instant zero_at (span_of J (others S i)).lct;
    excess = past_by (span_of J S) (span_of J (others S i)).lct;
    before = work_of J (suffix_up_to J (others S i) (moment zero_at bound));
  }

module _ (before : DisjunctivePropagator) (es ls : List ℤ) where
  -- the last post of the run
  abbrev pub last_post : Post
  last_post = post (trace_of before es ls) (length (trace_of before es ls).posts - 1)

  -- by how the run ended: its last post is late, with the tasks that its reason names
  abbrev pub late_by : End → Conflict
  late_by done = without_conflict NothingFound
  late_by (overload reason) = without_conflict NothingFound
  late_by emptied = late_in (moments_in before es ls) last_post.task ((tasks_in before es ls).latest last_post.task) last_post.bound (named last_post.reason)

  -- by what the overload test answered
  abbrev pub conflict_by : Option ℕ → Conflict
  conflict_by (Some k) = overload_by (moments_in before es ls) (overloading_set (moments_in before es ls) k)
  conflict_by None = late_by (trace_of before es ls).end

  abbrev pub conflict_of : Conflict
  conflict_of = conflict_by (answer_of (moments_in before es ls))
