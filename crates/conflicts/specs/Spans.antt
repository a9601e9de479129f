-- The est, the lct and the p of a set, task by task.
use Rattle.std.specs.Prelude.{Bool, true, false, List, ℕ, zero, suc, ◌+◌, ◌-◌, min, max}
use Rattle.integers.specs.Limits.{U32MAX}
use Rattle.integers.specs.Moments.{instant, zero_at}
use Rattle.scheduling.specs.Scheduling.{natural, Tasks, TaskSet, completion}
use Rattle.conflicts.specs.declared.answer.Work.{Work}
use Rattle.conflicts.specs.declared.spans.Span.{Span}
use Rattle.conflicts.specs.Answers.{flags_of}

-- with one task more, where it is a member
abbrev pub with_task : Bool → ℕ → ℕ → ℕ → Span → Span
with_task true est lct p s = record { est = min s.est est; lct = max s.lct lct; p = s.p + p }
with_task false est lct p s = s

-- by how much est + p is past a moment
abbrev pub past_by : Span → ℕ → ℕ
past_by s lct = (s.est + s.p) - lct

-- a set's flags with its est and its p, in the caller's time
abbrev pub work_with : List Bool → Span → Work
work_with tasks s = record { tasks = tasks; est = instant zero_at s.est; p = s.p }

module _ (J : Tasks natural) (Ω : TaskSet) where
  -- those of the tasks 0 to k − 1 of Ω
  unfoldable pub span_below : ℕ → Span
  span_below zero = record { est = U32MAX; lct = 0; p = 0 }
  span_below (suc k) = with_task (Ω k) (J.earliest k) (completion J k) (J.duration k) (span_below k)

  abbrev pub span_of : Span
  span_of = span_below J.count

  abbrev pub work_of : Work
  work_of = work_with (flags_of J.count Ω) span_of
