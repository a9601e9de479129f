-- What the code holds while it reads: the tasks in arrays, and the theta tree.
use Rattle.std.specs.Prelude.{◌≡◌, false, List, [], ℕ, ◌<◌, get_or, replicate}
use Rattle.integers.specs.Orders.{index}
use Rattle.scheduling.specs.Scheduling.{natural, Tasks, TaskSet, completion}
use Rattle.scheduling.specs.Ects.{by_earliest}
use Rattle.trees.specs.Leaves.{empty}
use Rattle.trees.specs.Trees.{IsPlainTree}
use Rattle.chosen_sets.specs.TaskArrays.{HeldSet}
use Rattle.overload_test.specs.declared.task_moments.TaskMoments.{TaskMoments}
use Rattle.overload_test.specs.ReadTasks.{by_completion}

-- the set without a task
abbrev pub no_task : TaskSet
no_task k = false

-- The arrays hold the tasks J.
pub record HoldsTasks (J : Tasks natural) (m : TaskMoments) : Type 0 where
  pub held : HeldSet J no_task m.count [] m.est m.durations
  pub ends : (k : ℕ) → k < m.count → get_or m.lct k 0 ≡ completion J k

-- And the place of each one's leaf, and the order in which they are read. The words hold a tree of empty leaves.
pub record Readable (inner : ℕ) (words mapping tasks : List ℕ) (m : TaskMoments) : Type 0 where
  pub J : Tasks natural
  pub holds : HoldsTasks J m
  pub tree : IsPlainTree J (by_earliest J) (replicate J.count empty) inner words
  pub place : (k : ℕ) → k < m.count → get_or mapping k 0 ≡ index (by_earliest J) k
  pub task : (t : ℕ) → t < m.count → get_or tasks t 0 ≡ get_or (by_completion J) t 0
