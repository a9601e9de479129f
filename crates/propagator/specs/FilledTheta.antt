-- Every task goes into Theta.
use Rattle.std.specs.Prelude.{◌≡◌, List, ℕ, ◌<◌, get_or, replicate}
use Rattle.integers.specs.Limits.{TASKS}
use Rattle.scheduling.specs.Scheduling.{natural, Tasks}
use Rattle.trees.specs.Ects.{raised_to}
use Rattle.trees.specs.Leaves.{empty, white, ect_bar_of}
use Rattle.propagator.specs.declared.task_arrays.TaskArrays.{TaskArrays}
use Rattle.trees.specs.Trees.{Limited, IsTree, HasLeaves}

-- The words hold a tree of empty leaves, and the arrays the tasks.
pub record Fillable (tasks : TaskArrays) (words : List ℕ) : Type 0 where
  pub J : Tasks natural
  pub est_order : List ℕ
  pub limited : Limited J est_order
  pub count : J.count ≡ tasks.size.leaves
  pub tree : IsTree J est_order (replicate J.count empty) tasks.size.inner words
  pub task : (x : ℕ) → x < tasks.size.leaves → get_or tasks.reverse_mapping.now x 0 ≡ get_or est_order x 0
  pub known : (x : ℕ) → x < tasks.size.leaves → get_or est_order x 0 < TASKS
  pub start : (x : ℕ) → x < tasks.size.leaves → get_or tasks.est.now (get_or est_order x 0) 0 ≡ J.earliest (get_or est_order x 0)
  pub lasts : (x : ℕ) → x < tasks.size.leaves → get_or tasks.durations.now (get_or est_order x 0) 0 ≡ J.duration (get_or est_order x 0)

-- Whatever tasks they are, the words hold white leaves, and the answer is their ect_bar, which is the ect of all tasks.
abbrev pub Filled : TaskArrays → List ℕ → List ℕ → ℕ → Type 0
Filled tasks words words' ect = (f : Fillable tasks words)
    → HasLeaves f.J f.est_order (replicate f.J.count white) tasks.size.inner words'
    × (ect ≡ raised_to 0 (ect_bar_of f.J f.est_order (replicate f.J.count white)))
