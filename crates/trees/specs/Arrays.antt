-- A complete binary tree in an array: first the inner nodes and then the leaves, where node i has the children 2i + 1 and 2i + 2.
use Rattle.std.specs.Prelude.{◌≡◌, true, false, ℕ, zero, suc, ◌+◌, ◌*◌, ◌≤◌, ◌<◌, eqb}
use Rattle.trees.specs.Shapes.{width, height_for}

-- The tree for n leaves: the number of its inner nodes, and its height.
pub record Sized (n inner height : ℕ) : Type 0 where
  pub least : height ≡ height_for n
  pub complete : inner + 1 ≡ width height

-- the position of the first leaf below node i of height h
unfoldable pub leftmost : ℕ → ℕ → ℕ
leftmost zero i = i
leftmost (suc h) i = leftmost h (2 * i + 1)

-- Node i of a tree with m inner nodes has height h.
pub record HasHeight (m h i : ℕ) : Type 0 where
  pub from : m ≤ leftmost h i
  pub to : leftmost h i + width h ≤ 2 * m + 1

-- f, but v at i
unfoldable pub changed : {A : Type 0} → (ℕ → A) → ℕ → A → ℕ → A
changed f i v k = elim (eqb k i) [ true ↦ v | false ↦ f k ]

-- the leaves of an array whose first m nodes are inner ones
abbrev pub leaves_of : {A : Type 0} → ℕ → (ℕ → A) → ℕ → A
leaves_of m at k = at (m + k)

module _ {A : Type 0} (join : A → A → A) where
  -- The array holds the tree over `leaf`: m inner nodes, each the join of its children, and then the leaves.
  pub record TreeOf (m : ℕ) (leaf at : ℕ → A) : Type 0 where
    pub joins : (i : ℕ) → i < m → at i ≡ join (at (2 * i + 1)) (at (2 * i + 2))
    pub leaves : (k : ℕ) → at (m + k) ≡ leaf k
