-- The busiest stretch of a fixed schedule: how much of a stretch is covered, what refuses the call, and what the call answers.
use Rattle.std.specs.Prelude.{◌≡◌, List, [], ◌∷◌, ◌++◌, ℕ, ◌≤◌, ◌<◌, ℤ, pos, ◌+ℤ◌, ◌-ℤ◌, ◌≤ℤ◌, ◌<ℤ◌, Result}
use Rattle.integers.specs.Refused as refused
use Rattle.integers.specs.declared.refused.Refusal.{Refusal}
use Rattle.integers.specs.Answers.{answered, refused_by}
use Rattle.integers.specs.Tests.{Test, test, refusal}
use Rattle.integers.specs.Extremes.{minℤ, maxℤ}
use Rattle.scheduling.specs.Scheduling.{whole, Tasks, total}
use Rattle.records.specs.declared.record.DisjunctivePropagator.{DisjunctivePropagator}
use Rattle.records.specs.Records.{duration_for}
use Rattle.fixed_schedules.specs.FixedSchedules.{tasks_on, fixed_tests}
use Rattle.fixed_schedules.specs.Parameters.{length_within}
use Rattle.busiest_stretch.specs.declared.answer.Stretch.{Stretch}
use Rattle.busiest_stretch.specs.Numbers.{numbers_of_busiest}

-- the time that [a, b) and [x, y) have in common: from the later start to the earlier end, or 0 where that is negative
abbrev pub common : ℤ → ℤ → ℤ → ℤ → ℕ
common a b x y = duration_for (minℤ b y -ℤ maxℤ a x)

module _ (J : Tasks whole) where
  -- the time that tasks cover of the stretch [x, x + w)
  abbrev pub covered : ℕ → ℤ → ℕ
  covered w x = total (λ k. common (J.earliest k) (J.earliest k +ℤ pos (J.duration k)) x (x +ℤ pos w)) J.count

  -- A start counts from the first task's start to the last task's start: some task starts by then, and some task starts then or later.
  pub record Counts (x : ℤ) : Type 0 where
    pub from : (k : ℕ) × (k < J.count) × (J.earliest k ≤ℤ x)
    pub to : (k : ℕ) × (k < J.count) × (x ≤ℤ J.earliest k)

  -- Of all whole-number starts that count, x is the least from which a stretch of length w has the greatest covered time, which is c.
  pub record BusiestAt (w c : ℕ) (x : ℤ) : Type 0 where
    pub counts : Counts x
    pub covers : covered w x ≡ c
    pub most : (u : ℤ) → Counts u → covered w u ≤ c
    pub least : (u : ℤ) → Counts u → u <ℤ x → covered w u < c

-- those of a fixed schedule; then 23: a length out of the limits
abbrev pub stretch_tests : DisjunctivePropagator → List ℤ → List ℤ → ℤ → List Test
stretch_tests r es ls w = fixed_tests r es ls ++ (test refused.LENGTH (length_within w) ∷ [])

abbrev pub stretch_number : DisjunctivePropagator → List ℤ → List ℤ → ℤ → ℕ
stretch_number r es ls w = refusal (stretch_tests r es ls w)

-- The answer is the greatest covered time and the least start that reaches it.
pub record BusiestFound (r : DisjunctivePropagator) (es ls : List ℤ) (w : ℤ) (a : Result Stretch Refusal) : Type 0 where
  pub time : ℕ
  pub start : ℤ
  pub answer : numbers_of_busiest a ≡ answered 0 (pos time ∷ start ∷ [])
  pub busiest : BusiestAt (tasks_on r es ls) (duration_for w) time start

-- The first test that fails refuses the call; else the answer is the busiest stretch.
pub record BusiestAnswered (r : DisjunctivePropagator) (es ls : List ℤ) (w : ℤ) (a : Result Stretch Refusal) : Type 0 where
  pub refused : (stretch_number r es ls w ≡ 0 → ⊥) → numbers_of_busiest a ≡ refused_by (stretch_number r es ls w)
  pub found : stretch_number r es ls w ≡ 0 → BusiestFound r es ls w a
