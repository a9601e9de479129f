-- Leaves whose tree has only nodes within bounds, and an array of such a tree of which one leaf changes.
use Rattle.std.specs.Prelude.{◌≡◌, ℕ, ◌+◌, ◌*◌, ◌≤◌, ◌<◌}
use Rattle.integers.specs.Limits.{DURATIONS, INNER}
use Rattle.scheduling.specs.Scheduling.{total}
use Rattle.trees.specs.Shapes.{width}
use Rattle.trees.specs.Arrays.{leaves_of, changed, TreeOf}

module _ {A : Type 0} (size : A → ℕ) (Fair : A → Type 0) where
  -- leaves whose tree has only nodes whose numbers can be added
  pub record Bounded (leaf : ℕ → A) : Type 0 where
    pub fair : (k : ℕ) → Fair (leaf k)
    pub small : (n : ℕ) → total (λ k. size (leaf k)) n ≤ DURATIONS

  -- An array of a tree but for one thing: the parent of the leaf at `index` may not be the join of its children.
  pub record NeedsUpheap (join : A → A → A) (m : ℕ) (at : ℕ → A) (index : ℕ) : Type 0 where
    pub joins : (i : ℕ) → i < m → (index ≡ 2 * i + 1 → ⊥) → (index ≡ 2 * i + 2 → ⊥) → at i ≡ join (at (2 * i + 1)) (at (2 * i + 2))
    pub bounded : Bounded (leaves_of m at)
    pub height : ℕ
    pub complete : m + 1 ≡ width height
    pub room : m ≤ INNER
    pub from : m ≤ index
    pub to : index ≤ 2 * m

  -- An array of a tree that stays within bounds when its leaf at `place` becomes n.
  pub record CanPut (join : A → A → A) (m : ℕ) (at : ℕ → A) (place : ℕ) (n : A) : Type 0 where
    pub tree : TreeOf join m (leaves_of m at) at
    pub bounded : Bounded (changed (leaves_of m at) place n)
    pub height : ℕ
    pub complete : m + 1 ≡ width height
    pub room : m ≤ INNER
    pub inside : place ≤ m
