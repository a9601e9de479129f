-- The searches and the list of Theta as code has them: by an array of nodes, with positions and task numbers for answers.
use Rattle.std.specs.Prelude.{Bool, true, false, not, List, ◌≡◌, ℕ, ◌+◌, ◌*◌, ◌≤◌, ◌<◌, eqb, leb, get_or, None, Some}
use Rattle.std.specs.Prelude as code
use Rattle.std.proofs.Math.Option.{Option, some, none}
use Rattle.integers.specs.Limits.{NODES, INNER}
use Rattle.trees.specs.declared.theta_lambda_node.Node.{Node}
use Rattle.trees.specs.declared.theta_lambda_node.Around.{Around}
use Rattle.trees.specs.declared.theta_lambda_node.Around.TheVariants as around
use Rattle.trees.specs.Nodes.{join_of}
use Rattle.trees.specs.NodeBounds.{size, Fair}
use Rattle.trees.specs.declared.disjunctive_task.LocalId.{LocalId}
use Rattle.trees.specs.Arrays.{leaves_of, TreeOf, HasHeight}
use Rattle.trees.specs.Words.{node_at}
use Rattle.trees.specs.Bounds.{Bounded}
use Rattle.trees.specs.Searches.{theta_of}

-- What a search reads at node i of an array with m inner nodes.
unfoldable pub around_of : ℕ → (ℕ → Node) → ℕ → Around
around_of m at i = elim (leb m i) [ true ↦ around.Leaf (at i) | false ↦ around.Inner (at i) (at (2 * i + 1)) (at (2 * i + 2)) ]

-- no position: there are as many nodes
abbrev pub nowhere : ℕ
nowhere = NODES

-- the answer's position among the nodes, m of which are inner ones
abbrev pub found_at : ℕ → Option ℕ → ℕ
found_at m none = nowhere
found_at m (some x) = m + x

-- and its task, by the task of each leaf
abbrev pub responsible_of : List ℕ → Option ℕ → code.Option LocalId
responsible_of tasks none = None
responsible_of tasks (some x) = Some (record { 0 = get_or tasks x 0 })

-- What a search from node i of height h requires of the array.
pub record Searchable (m h i : ℕ) (at : ℕ → Node) : Type 0 where
  pub tree : TreeOf join_of m (leaves_of m at) at
  pub bounded : Bounded size Fair (leaves_of m at)
  pub has_height : HasHeight m h i
  pub room : m ≤ INNER

-- which leaves are white, by the words of a tree with `inner` inner nodes: those that have an ect
unfoldable pub white_in : List ℕ → ℕ → ℕ → Bool
white_in words inner k = not (eqb (node_at words (inner + k)).ect 0)

-- the task of each leaf, by an array
abbrev pub task_in : List ℕ → ℕ → ℕ
task_in tasks k = get_or tasks k 0

-- the tasks of Theta, by both, of a tree for n tasks
abbrev pub theta_in : List ℕ → ℕ → List ℕ → ℕ → List ℕ
theta_in words inner tasks n = theta_of (white_in words inner) (task_in tasks) 0 n

-- The first white leaf from a on and below n, or n where there is none.
pub record Next (white : ℕ → Bool) (a n place : ℕ) : Type 0 where
  pub from : a ≤ place
  pub to : place ≤ n
  pub passed : (x : ℕ) → a ≤ x → x < place → white x ≡ false
  pub found : place < n → white place ≡ true
