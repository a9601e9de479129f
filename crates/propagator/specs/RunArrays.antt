-- What the code of a run holds: the tasks in arrays, the tree, the slices that it writes, and how far it has got.
use Rattle.std.specs.Prelude.{◌≡◌, true, List, map, ℕ, ◌+◌, ◌*◌, ◌^◌, ◌≤◌, ◌<◌, ℤ, length, get_or}
use Rattle.std.proofs.lemmas.List.Edits.{sets}
use Rattle.integers.specs.Limits.{TASKS}
use Rattle.integers.specs.Moments.{instant, zero_at}
use Rattle.integers.specs.Orders.{index}
use Rattle.scheduling.specs.Scheduling.{natural, Tasks, Proper, processing, completion}
use Rattle.scheduling.specs.Moments.{ByEarliest, ByCompletion}
use Rattle.trees.specs.declared.disjunctive_task.DisjunctiveTask.{DisjunctiveTask}
use Rattle.trees.specs.ArraySearches.{theta_in}
use Rattle.explanations.specs.declared.theta.Theta.{Theta}
use Rattle.explanations.specs.Leaves.{tasks_of}
use Rattle.trees.specs.Trees.{Limited, IsTree}
use Rattle.trees.specs.Shapes.{height_for}
use Rattle.runs.specs.Runs.{State}
use Rattle.scheduling.specs.Words.{atom_words}
use Rattle.runs.specs.Words.{post_words, reasons}
use Rattle.propagator.specs.declared.task_arrays.TaskArrays.{TaskArrays}

-- The tasks J in the orders `est_order`, by earliest start, and `lct_order`, by latest completion; no sum that a run forms of them wraps.
pub record Ordered (J : Tasks natural) (est_order lct_order : List ℕ) : Type 0 where
  pub proper : Proper J
  pub some : 1 ≤ J.count
  pub by_earliest_is : ByEarliest J (λ j. get_or est_order j 0) (λ k. index est_order k)
  pub by_completion_is : ByCompletion J (λ t. get_or lct_order t 0) (λ k. index lct_order k)
  pub limited : Limited J est_order
  pub room : (k : ℕ) → k < J.count → processing J (λ _. true) ≤ J.earliest k
  pub fits : (k : ℕ) → k < J.count → completion J k + 2 * processing J (λ _. true) < 2 ^ 32

-- An array holds a number of each task.
pub record Holds (n : ℕ) (f : ℕ → ℕ) (array : List ℕ) : Type 0 where
  pub size : length array ≡ TASKS
  pub at : (k : ℕ) → k < n → get_or array k 0 ≡ f k

-- The arrays that a run reads: the earliest starts and the durations of the tasks, the task of each leaf and the leaf of each task; and the tree's size.
pub record Arrays (J : Tasks natural) (est_order : List ℕ) (tasks : TaskArrays) : Type 0 where
  pub count : J.count ≡ tasks.size.leaves
  pub starts : Holds tasks.size.leaves J.earliest tasks.est.now
  pub lasts : Holds tasks.size.leaves J.duration tasks.durations.now
  pub reverse_mapping_is : Holds tasks.size.leaves (λ j. get_or est_order j 0) tasks.reverse_mapping.now
  pub places : (k : ℕ) → k < tasks.size.leaves → get_or tasks.mapping.now k 0 ≡ index est_order k
  pub tall : tasks.size.height ≡ height_for tasks.size.leaves

-- A task as the tree takes it is the i-th of the arrays.
pub record IsTaskOf (tasks : TaskArrays) (i : ℕ) (task : DisjunctiveTask) : Type 0 where
  pub start : task.start_time ≡ get_or tasks.est.now i 0
  pub lasts : task.processing_time ≡ get_or tasks.durations.now i 0

-- the tasks of Theta, which the tree's words and the task of each leaf show
abbrev pub theta_shown : TaskArrays → List ℕ → List ℕ
theta_shown tasks words = theta_in words tasks.size.inner tasks.reverse_mapping.now tasks.size.leaves

-- A Theta of these tasks, beside the arrays of earliest starts and durations.
pub record ShowsTheta (tasks : TaskArrays) (words : List ℕ) (theta : Theta) : Type 0 where
  pub tasks_are : tasks_of theta ≡ theta_shown tasks words
  pub est_is : theta.est.now ≡ tasks.est.now
  pub durations_are : theta.durations.now ≡ tasks.durations.now

-- What a run has written at the state st: the slices hold its starts, posts and reasons over what stood there at entry, and its leaf changes are counted.
pub record Slices (posts₀ atoms₀ : List ℤ) (st : State) (es posts atoms : List ℤ) (many far changed : ℕ) : Type 0 where
  pub starts : es ≡ map (instant zero_at) st.starts
  pub post_words_are : posts ≡ sets posts₀ 0 (post_words 0 st.posts)
  pub atom_words_are : atoms ≡ sets atoms₀ 0 (atom_words (reasons st.posts))
  pub posted : many ≡ length st.posts
  pub explained : far ≡ length (reasons st.posts)
  pub counted : changed ≡ st.changes

-- What a run has got to, at the state st: the tree shows its leaves, and the slices are those of the state.
pub record At (J : Tasks natural) (est_order : List ℕ) (posts₀ atoms₀ : List ℤ) (st : State) (inner : ℕ) (words : List ℕ) (es posts atoms : List ℤ)
    (many far changed : ℕ) : Type 0 where
  pub tree : IsTree J est_order st.leaves inner words
  pub slices : Slices posts₀ atoms₀ st es posts atoms many far changed
