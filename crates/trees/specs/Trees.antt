-- What the words of a tree hold: the tree over the leaves of tasks in an order, all within the limits.
use Rattle.std.specs.Prelude.{◌≡◌, Bool, true, false, List, ℕ, ◌+◌, ◌≤◌, ◌<◌, length}
use Rattle.integers.specs.Limits.{TASKS, DURATIONS, THETAWORDS, TREEWORDS}
use Rattle.scheduling.specs.Scheduling.{natural, Tasks, total}
use Rattle.trees.specs.declared.theta_node.Node as plain
use Rattle.trees.specs.Nodes.{join_of, plain_empty_of, plain_of, plain_join_of}
use Rattle.trees.specs.NodeBounds.{LATEST}
use Rattle.trees.specs.Shapes.{width, height_for}
use Rattle.trees.specs.Arrays.{TreeOf}
use Rattle.trees.specs.Words.{node_at, plain_at}
use Rattle.trees.specs.Leaves.{Leaf, start_at, duration_at, white_at}
use Rattle.trees.specs.Leaves as leaves

-- the theta tree's node of a leaf, white or not
abbrev pub plain_leaf : Bool → ℕ → ℕ → plain.Node
plain_leaf false e p = plain_empty_of
plain_leaf true e p = plain_of (e + p) p

module _ (J : Tasks natural) (est_order : List ℕ) where
  abbrev pub plain_leaves : List Leaf → ℕ → plain.Node
  plain_leaves ls j = plain_leaf (white_at ls j) (start_at J est_order j) (duration_at J est_order j)

  -- the tasks, within the limits
  pub record Limited : Type 0 where
    pub count : J.count ≤ TASKS
    pub starts : (j : ℕ) → j < J.count → start_at J est_order j ≤ LATEST
    pub lasts : (j : ℕ) → j < J.count → 1 ≤ duration_at J est_order j
    pub durations : total (duration_at J est_order) J.count ≤ DURATIONS

  -- The words hold the theta-lambda tree over these leaves.
  pub record IsTree (ls : List Leaf) (inner : ℕ) (words : List ℕ) : Type 0 where
    pub tree : TreeOf join_of inner (leaves.leaves J est_order ls) (node_at words)
    pub words_length : length words ≡ TREEWORDS
    pub complete : inner + 1 ≡ width (height_for J.count)
    pub colours : length ls ≡ J.count

  -- The words hold these leaves, and the inner nodes may be anything.
  pub record HasLeaves (ls : List Leaf) (inner : ℕ) (words : List ℕ) : Type 0 where
    pub nodes : (k : ℕ) → node_at words (inner + k) ≡ leaves.leaves J est_order ls k
    pub words_length : length words ≡ TREEWORDS
    pub complete : inner + 1 ≡ width (height_for J.count)
    pub colours : length ls ≡ J.count

  -- The words hold the theta tree over the white ones of these leaves.
  pub record IsPlainTree (ls : List Leaf) (inner : ℕ) (words : List ℕ) : Type 0 where
    pub tree : TreeOf plain_join_of inner (plain_leaves ls) (plain_at words)
    pub words_length : length words ≡ THETAWORDS
    pub complete : inner + 1 ≡ width (height_for J.count)
    pub colours : length ls ≡ J.count
