-- A task leaves Theta: over any tasks, order and leaves that the tree's words hold.
use Rattle.std.specs.Prelude.{◌≡◌, Bool, true, false, ◌&&◌, eqb, List, ℕ, ◌+◌, ◌<◌, get_or, set}
use Rattle.integers.specs.Limits.{TASKS}
use Rattle.scheduling.specs.Scheduling.{natural, Tasks}
use Rattle.trees.specs.Leaves.{Leaf, empty, gray, task_place}
use Rattle.propagator.specs.declared.task_arrays.TaskArrays.{TaskArrays}
use Rattle.trees.specs.Trees.{Limited, IsTree, HasLeaves}

-- The words hold leaves of which one is that of task j, and their tree where the inner nodes are joined.
pub record Movable (tasks : TaskArrays) (words : List ℕ) (j : ℕ) (joined : Bool) : Type 0 where
  pub J : Tasks natural
  pub est_order : List ℕ
  pub leaves : List Leaf
  pub limited : Limited J est_order
  pub has : HasLeaves J est_order leaves tasks.size.inner words
  pub tree : joined ≡ true → IsTree J est_order leaves tasks.size.inner words
  pub known : j < TASKS
  pub inside : get_or tasks.mapping.now j 0 < J.count
  pub task : task_place J est_order (get_or tasks.mapping.now j 0) ≡ j
  pub start : get_or tasks.est.now j 0 ≡ J.earliest j
  pub lasts : get_or tasks.durations.now j 0 ≡ J.duration j

-- Whatever leaves the words held, they then hold these with the leaf of j in the colour c. They hold the tree too where the inner nodes are to be joined.
abbrev pub Recoloured : Leaf → TaskArrays → List ℕ → List ℕ → ℕ → Bool → Bool → Type 0
Recoloured c tasks words words' j joined joins = (m : Movable tasks words j joined)
    → HasLeaves m.J m.est_order (set m.leaves (get_or tasks.mapping.now j 0) c) tasks.size.inner words'
    × (joins ≡ true → IsTree m.J m.est_order (set m.leaves (get_or tasks.mapping.now j 0) c) tasks.size.inner words')

-- A turn of the next level is known where that level is needed and j alone reaches the moment `last`.
abbrev pub turn_known : TaskArrays → ℕ → ℕ → Bool → Bool
turn_known tasks j last needed = needed && eqb (get_or tasks.est.now j 0 + get_or tasks.durations.now j 0) last

-- The colour of j's leaf once j has left Theta: gray where j goes to Lambda, empty where its turn is known.
abbrev pub left_for : Bool → Leaf
left_for false = gray
left_for true = empty
