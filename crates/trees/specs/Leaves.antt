-- The trees over tasks in an order: each leaf is empty, white for a task of Theta or gray for one of Lambda, and everything else follows from the leaves.
use Rattle.std.specs.Prelude.{Bool, true, false, List, ℕ, ◌+◌, get_or}
use Rattle.std.proofs.Math.Option.{Option}
use Rattle.scheduling.specs.Scheduling.{natural, Tasks}
use Rattle.trees.specs.declared.theta_lambda_node.Node.{Node}
use Rattle.trees.specs.Ects.{decoded}
use Rattle.trees.specs.Nodes.{empty_of, white_of, gray_of, join_of}
use Rattle.trees.specs.Shapes.{height_for, node_over}
use Rattle.trees.specs.Searches.{search_ect, theta_of}

pub data Leaf : Type 0 where
  empty : Leaf
  white : Leaf
  gray : Leaf

abbrev pub in_theta : Leaf → Bool
in_theta empty = false
in_theta white = true
in_theta gray = false

abbrev pub in_lambda : Leaf → Bool
in_lambda empty = false
in_lambda white = false
in_lambda gray = true

abbrev pub white_at : List Leaf → ℕ → Bool
white_at ls j = in_theta (get_or ls j empty)

abbrev pub gray_at : List Leaf → ℕ → Bool
gray_at ls j = in_lambda (get_or ls j empty)

-- the node of a leaf of that colour, for a task that starts at e at the earliest and lasts p
abbrev pub leaf_node : Leaf → ℕ → ℕ → Node
leaf_node empty e p = empty_of
leaf_node white e p = white_of (e + p) p
leaf_node gray e p = gray_of (e + p) p

-- The leaves stand in the order of earliest starts: `est_order` has the task of each.
module _ (J : Tasks natural) (est_order : List ℕ) where
  abbrev pub task_place : ℕ → ℕ
  task_place j = get_or est_order j 0

  abbrev pub start_at : ℕ → ℕ
  start_at j = J.earliest (task_place j)

  abbrev pub duration_at : ℕ → ℕ
  duration_at j = J.duration (task_place j)

  abbrev pub leaves : List Leaf → ℕ → Node
  leaves ls j = leaf_node (get_or ls j empty) (start_at j) (duration_at j)

  unfoldable pub root : List Leaf → Node
  root ls = node_over join_of (leaves ls) (height_for J.count) 0

  -- `ect`, `ect_bar`: a moment, or none where no leaf is white, and where none is white or gray; and `sum_of_processing_times`
  abbrev pub ect : List Leaf → Option ℕ
  ect ls = decoded (root ls).ect

  abbrev pub ect_bar_of : List Leaf → Option ℕ
  ect_bar_of ls = decoded (root ls).ect_bar

  abbrev pub sum : List Leaf → ℕ
  sum ls = (root ls).sum_of_processing_times

  -- the leaf of `responsible_ect_bar`
  unfoldable pub responsible : List Leaf → Option ℕ
  responsible ls = search_ect (leaves ls) (height_for J.count) 0

  -- the tasks of Theta, the list of the source's `get_theta`
  unfoldable pub theta : List Leaf → List ℕ
  theta ls = theta_of (white_at ls) task_place 0 J.count
