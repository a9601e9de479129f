-- What the operations of the theta-lambda tree require and ensure of its words: by the leaves that these hold, whatever the tasks, their order and colours.
use Rattle.std.specs.Prelude.{◌≡◌, true, List, ℕ, ◌<◌, replicate, set, Option}
use Rattle.scheduling.specs.Scheduling.{natural, Tasks}
use Rattle.trees.specs.declared.disjunctive_task.DisjunctiveTask.{DisjunctiveTask}
use Rattle.trees.specs.declared.theta_lambda_tree.ThetaLambdaTree.{ThetaLambdaTree}
use Rattle.trees.specs.declared.disjunctive_task.LocalId.{LocalId}
use Rattle.trees.specs.Shapes.{height_for}
use Rattle.trees.specs.Arrays.{Sized}
use Rattle.trees.specs.Leaves.{Leaf, empty, gray_at, start_at, duration_at, responsible}
use Rattle.trees.specs.ArraySearches.{responsible_of}
use Rattle.trees.specs.Trees.{Limited, IsTree, HasLeaves}

-- The words hold the tree over leaves of some tasks in some order.
pub record Held (inner : ℕ) (words : List ℕ) : Type 0 where
  pub J : Tasks natural
  pub est_order : List ℕ
  pub leaves : List Leaf
  pub limited : Limited J est_order
  pub tree : IsTree J est_order leaves inner words

-- The words hold the leaves alone, and the inner nodes may be anything.
pub record HeldLeaves (inner : ℕ) (words : List ℕ) : Type 0 where
  pub J : Tasks natural
  pub est_order : List ℕ
  pub leaves : List Leaf
  pub limited : Limited J est_order
  pub has : HasLeaves J est_order leaves inner words

-- A new tree for n tasks: every leaf is empty.
pub record New (n : ℕ) (tree : ThetaLambdaTree) : Type 0 where
  pub size : Sized n tree.number_of_internal_nodes tree.height
  pub empties : (J : Tasks natural) (est_order : List ℕ) → J.count ≡ n
      → IsTree J est_order (replicate J.count empty) tree.number_of_internal_nodes tree.nodes

-- the answer is the value of the leaves
abbrev pub Answers : {A : Type 0} → (Tasks natural → List ℕ → List Leaf → A) → List ℕ → A → Type 0
Answers value words r = (inner : ℕ) (h : Held inner words) → r ≡ value h.J h.est_order h.leaves

-- the tree has this height
abbrev pub Tall : {inner : ℕ} {words : List ℕ} → Held inner words → ℕ → Type 0
Tall h height = height ≡ height_for h.J.count

-- the answer of `responsible_ect_bar`, by the task of each leaf
abbrev pub Responds : ℕ → ℕ → List ℕ → List ℕ → Option LocalId → Type 0
Responds inner height words tasks r = (h : Held inner words) → Tall h height → r ≡ responsible_of tasks (responsible h.J h.est_order h.leaves)

-- The task at this place in the order starts at e at the earliest and lasts p.
pub record HasTask (J : Tasks natural) (est_order : List ℕ) (place e p : ℕ) : Type 0 where
  pub inside : place < J.count
  pub start : e ≡ start_at J est_order place
  pub lasts : p ≡ duration_at J est_order place

-- it is the one given
abbrev pub HasPlace : Tasks natural → List ℕ → ℕ → DisjunctiveTask → Type 0
HasPlace J est_order place task = HasTask J est_order place task.start_time task.processing_time

-- the leaf at the place is one of Lambda
abbrev pub InLambda : {inner : ℕ} {words : List ℕ} → Held inner words → ℕ → Type 0
InLambda h place = (place < h.J.count) × (gray_at h.leaves place ≡ true)

-- the leaf at the place has the colour c then, and the words hold the tree of these leaves
abbrev pub Coloured : Leaf → {inner : ℕ} {words : List ℕ} → Held inner words → ℕ → List ℕ → Type 0
Coloured c {inner} h place words' = IsTree h.J h.est_order (set h.leaves place c) inner words'

-- the same of the leaves alone: the inner nodes may be anything
abbrev pub LeafColoured : Leaf → {inner : ℕ} {words : List ℕ} → HeldLeaves inner words → ℕ → List ℕ → Type 0
LeafColoured c {inner} l place words' = HasLeaves l.J l.est_order (set l.leaves place c) inner words'
