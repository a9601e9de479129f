-- Complete binary trees over leaves 0, 1, .., at any type of nodes: the node over a range of leaves, and the height that a number of leaves needs.
use Rattle.std.specs.Prelude.{true, false, ℕ, zero, suc, ◌+◌, ltb}

-- 2^h, the leaves of a tree of height h
unfoldable pub width : ℕ → ℕ
width zero = 1
width (suc h) = width h + width h

-- the least height from h on, in f steps, of a tree with n leaves or more
unfoldable pub height_from : ℕ → ℕ → ℕ → ℕ
height_from n zero h = h
height_from n (suc f) h = elim (ltb (width h) n) [ true ↦ height_from n f (suc h) | false ↦ h ]

-- the least height of a tree with n leaves or more
abbrev pub height_for : ℕ → ℕ
height_for n = height_from n n 0

module _ {A : Type 0} (join : A → A → A) where
  -- the node of height h over the leaves from a on
  unfoldable pub node_over : (ℕ → A) → ℕ → ℕ → A
  node_over leaf zero a = leaf a
  node_over leaf (suc h) a = join (node_over leaf h a) (node_over leaf h (a + width h))
