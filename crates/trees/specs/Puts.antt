-- What `put` and `lay` require and ensure of the words of a tree: one leaf changes, and after `put` every inner node is the join of its children again.
use Rattle.std.specs.Prelude.{◌≡◌, List, ℕ, ◌+◌, ◌*◌, ◌-◌, ◌/◌, ◌≤◌, ◌<◌, length}
use Rattle.integers.specs.Limits.{INNER, NODES, TREEWORDS}
use Rattle.trees.specs.declared.theta_lambda_node.Node.{Node}
use Rattle.trees.specs.declared.theta_node.Node as plain
use Rattle.trees.specs.Nodes.{plain_join_of}
use Rattle.trees.specs.NodeBounds.{Fair, size, Fits}
use Rattle.trees.specs.Arrays.{leaves_of, changed, TreeOf}
use Rattle.trees.specs.Words.{node_at}
use Rattle.trees.specs.Bounds.{CanPut}

-- Node i has children, whose numbers can be added.
pub record Joinable {A : Type 0} (size : A → ℕ) (Fair : A → Type 0) (at : ℕ → A) (i : ℕ) : Type 0 where
  pub inner : i < INNER
  pub left : Fits size Fair (at (2 * i + 1))
  pub right : Fits size Fair (at (2 * i + 2))

-- the leaf at `place` may become n, in an array of `long` words that has its nodes by `at`
pub record Puttable {A : Type 0} (size : A → ℕ) (Fair : A → Type 0) (join : A → A → A) (at : List ℕ → ℕ → A)
    (long inner : ℕ) (words : List ℕ) (place : ℕ) (n : A) : Type 0 where
  pub takes : CanPut size Fair join inner (at words) place n
  pub length : length words ≡ long

-- the leaf at `place` became n
pub record Put {A : Type 0} (join : A → A → A) (at : List ℕ → ℕ → A) (long inner : ℕ) (before after : List ℕ) (place : ℕ) (n : A) : Type 0 where
  pub tree : TreeOf join inner (changed (leaves_of inner (at before)) place n) (at after)
  pub length : length after ≡ long

-- a node without its gray tasks
abbrev pub white_part : Node → plain.Node
white_part n = record { ect = n.ect; sum_of_processing_times = n.sum_of_processing_times }

-- Without their gray tasks, the first m nodes are the joins of their children.
pub record WhiteJoins (m : ℕ) (at : ℕ → Node) : Type 0 where
  pub joins : (i : ℕ) → i < m → white_part (at i) ≡ plain_join_of (white_part (at (2 * i + 1))) (white_part (at (2 * i + 2)))

-- Node i has a parent and is n, and the children of that parent fit.
pub record Liftable (at : ℕ → Node) (i : ℕ) (n : Node) : Type 0 where
  pub not_root : 0 < i
  pub small : i < NODES
  pub is : n ≡ at i
  pub left : Fits size Fair (at (2 * ((i - 1) / 2) + 1))
  pub right : Fits size Fair (at (2 * ((i - 1) / 2) + 2))

-- n may stand as the leaf at `place`, whatever its ancestors are
pub record Layable (inner : ℕ) (words : List ℕ) (place : ℕ) (n : Node) : Type 0 where
  pub fits : Fits size Fair n
  pub inside : place ≤ inner
  pub room : inner ≤ INNER
  pub length : length words ≡ TREEWORDS

-- n stands there, and nothing else changed
pub record Laid (inner : ℕ) (before after : List ℕ) (place : ℕ) (n : Node) : Type 0 where
  pub nodes : node_at after ≡ changed (node_at before) (inner + place) n
  pub length : length after ≡ TREEWORDS
