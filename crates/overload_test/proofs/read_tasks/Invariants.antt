-- After k turns Theta has the first k tasks by latest completion, and none of them overloaded when it was read.
use mathlib.Core.Path.{◌≡◌}
use mathlib.Core.List.{List}
use Prim.Native.Nat.{ℕ, ◌-◌, ◌<◌}
use lib.ListN.{get_or}
use Rattle.integers.specs.Limits.{TASKS}
use Rattle.overload_test.specs.declared.task_moments.TaskMoments.{TaskMoments}
use Rattle.overload_test.specs.ReadArrays.{Readable}
use Rattle.overload_test.specs.ReadTasks.{answer_from, answer_of}
use Rattle.overload_test.proofs.NextTask.{Shows}
use Rattle.overload_test.proofs.read_tasks.Given as goal

-- k tasks are read, and none of them overloaded
pub record Loop (inner : ℕ) (nodes₀ mapping tasks : List ℕ) (m : TaskMoments) (nodes : List ℕ) (k : ℕ) : Type 0 where
  pub readable : Readable inner nodes₀ mapping tasks m
  pub known : (t : ℕ) → t < m.count → get_or tasks t 0 < TASKS
  pub tree : (f : Readable inner nodes₀ mapping tasks m) → Shows f k nodes
  pub answer : (f : Readable inner nodes₀ mapping tasks m) → answer_of f.J ≡ answer_from f.J k (m.count - k)

abbrev pub invariant-loop-k : goal.invariant-loop-k
invariant-loop-k l = Loop l.inner l.initial.nodes l.mapping l.tasks l.m l.nodes l.k
