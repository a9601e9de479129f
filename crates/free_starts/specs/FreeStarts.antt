-- The earliest free start beside a fixed schedule: what it is, what refuses the call, and what the call answers.
use Rattle.std.specs.Prelude.{◌≡◌, ◌&&◌, List, [], ◌∷◌, ◌++◌, ◌⊎◌, ℕ, ◌+◌, ◌<◌, ℤ, pos, ◌≤ℤ◌, Result}
use Rattle.integers.specs.Refused as refused
use Rattle.integers.specs.declared.refused.Refusal.{Refusal}
use Rattle.integers.specs.Answers.{answered, refused_by}
use Rattle.integers.specs.Limits.{START, DURATIONS}
use Rattle.integers.specs.Tests.{Test, test, refusal}
use Rattle.scheduling.specs.Scheduling.{Clock, Tasks}
use Rattle.records.specs.declared.record.DisjunctivePropagator.{DisjunctivePropagator}
use Rattle.records.specs.Records.{duration_for}
use Rattle.fixed_schedules.specs.FixedSchedules.{tasks_on, fixed_tests}
use Rattle.fixed_schedules.specs.Parameters.{moment_within, length_within}
use Rattle.free_starts.specs.Numbers.{free_start_numbers}

module _ {C : Clock} (J : Tasks C) where
  -- a further task of duration d that starts at s overlaps none: it ends by the other's start, or starts from the other's end on
  abbrev pub Free : ℕ → C.Moment → Type 0
  Free d s = (k : ℕ) → k < J.count → C.upto (C.later s d) (J.earliest k) ⊎ C.upto (C.later (J.earliest k) (J.duration k)) s

  -- s is the earliest free start at or after t.
  pub record EarliestFree (t : C.Moment) (d : ℕ) (s : C.Moment) : Type 0 where
    pub from : C.upto t s
    pub free : Free d s
    pub none_before : (u : C.Moment) → C.upto t u → C.before u s → Free d u → ⊥

-- those of a fixed schedule; then 18: a duration or a moment out of the limits
abbrev pub free_tests : DisjunctivePropagator → List ℤ → List ℤ → ℤ → ℤ → List Test
free_tests r es ls t d = fixed_tests r es ls ++ (test refused.QUESTION (length_within d && moment_within t) ∷ [])

abbrev pub free_number : DisjunctivePropagator → List ℤ → List ℤ → ℤ → ℤ → ℕ
free_number r es ls t d = refusal (free_tests r es ls t d)

-- no free start is later: no task ends later, and no moment that a call takes is later
abbrev pub LATEST : ℕ
LATEST = START + DURATIONS

-- The answer is a start, the earliest free one, over all whole numbers.
pub record FreeStartFound (r : DisjunctivePropagator) (es ls : List ℤ) (t d : ℤ) (a : Result ℤ Refusal) : Type 0 where
  pub start : ℤ
  pub answer : free_start_numbers a ≡ answered 0 (start ∷ [])
  pub earliest : EarliestFree (tasks_on r es ls) t (duration_for d) start
  pub limit : start ≤ℤ pos LATEST

-- The first test that fails refuses the call; else there is a free start, and the answer is the earliest.
pub record FreeStartAnswered (r : DisjunctivePropagator) (es ls : List ℤ) (t d : ℤ) (a : Result ℤ Refusal) : Type 0 where
  pub refused : (free_number r es ls t d ≡ 0 → ⊥) → free_start_numbers a ≡ refused_by (free_number r es ls t d)
  pub found : free_number r es ls t d ≡ 0 → FreeStartFound r es ls t d a
