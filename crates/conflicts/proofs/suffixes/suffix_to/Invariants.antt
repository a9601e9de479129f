-- The invariant: the flags and the sum are those of the tasks from place x on.
use mathlib.Core.Bool.{Bool}
use mathlib.Core.List.{List}
use Prim.Native.Nat.{ℕ, ◌<◌}
use lib.ListN.{get_or}
use Rattle.integers.specs.Limits.{TASKS}
use Rattle.overload_test.specs.declared.task_moments.TaskMoments.{TaskMoments}
use Rattle.conflicts.specs.HeldTasks.{HoldsSet}
use Rattle.conflicts.proofs.SuffixWalk.{Walked}
use Rattle.conflicts.proofs.suffixes.suffix_to.Given as goal

pub record Loop (m : TaskMoments) (tasks : List Bool) (moment : ℕ) (order : List ℕ) (x : ℕ) (left : List Bool) (p : ℕ) : Type 0 where
  pub known : (y : ℕ) → y < m.count → get_or order y 0 < TASKS
  pub walked : (h : HoldsSet m tasks) → Walked h moment x left p

abbrev pub invariant-loop-k : goal.invariant-loop-k
invariant-loop-k l = Loop l.m l.initial.left l.moment l.k-items l.k-index l.left l.p
