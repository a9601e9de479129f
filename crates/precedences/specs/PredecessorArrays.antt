-- What the code holds: the tasks in arrays, over moments, and those that come before a task.
use Rattle.std.specs.Prelude.{Bool, false, not, ◌&&◌, List, [], ℕ, ◌+◌, eqb, ltb, ℤ, get_or}
use Rattle.std.proofs.Math.Option.{Option}
use Rattle.integers.specs.Moments.{instant, zero_at}
use Rattle.scheduling.specs.Scheduling.{natural, Tasks, TaskSet}
use Rattle.scheduling.specs.Ects.{ect_of}
use Rattle.chosen_sets.specs.TaskArrays.{HeldSet, Late}
use Rattle.precedences.specs.declared.range_moments.RangeMoments.{RangeMoments}

-- the whole number at task k's moment
abbrev pub start_at : List ℕ → ℕ → ℤ
start_at starts k = instant zero_at (get_or starts k 0)

-- task j of the arrays must come before task i
abbrev pub precedes_at : RangeMoments → ℕ → ℕ → Bool
precedes_at m i j = not (eqb j i) && ltb (get_or m.lst j 0) (get_or m.est i 0 + get_or m.durations i 0)

module _ (J : Tasks natural) (i : ℕ) where
  -- the tasks that must come before task i
  abbrev pub comes_before : TaskSet
  comes_before j = not (eqb j i) && ltb (J.latest j) (J.earliest i + J.duration i)

  -- their ect, or none where there are none
  abbrev pub bound_at : Option ℕ
  bound_at = ect_of J comes_before

-- The arrays hold the ranges and the durations of the tasks J.
pub record HoldsRanges (J : Tasks natural) (m : RangeMoments) : Type 0 where
  pub held : HeldSet J (λ _. false) m.count [] m.est m.durations
  pub late : Late J m.count m.lst
