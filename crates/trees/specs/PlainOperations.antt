-- What the operations of the theta tree require and ensure of its words: by the leaves that these hold, whatever the tasks, their order and colours.
use Rattle.std.specs.Prelude.{◌≡◌, List, ℕ, replicate, set}
use Rattle.scheduling.specs.Scheduling.{natural, Tasks}
use Rattle.trees.specs.declared.theta_tree.ThetaTree.{ThetaTree}
use Rattle.trees.specs.Leaves.{Leaf, empty, white}
use Rattle.trees.specs.Trees.{Limited, IsPlainTree}

-- The words hold the theta tree over leaves of some tasks in some order.
pub record HeldPlain (inner : ℕ) (words : List ℕ) : Type 0 where
  pub J : Tasks natural
  pub est_order : List ℕ
  pub leaves : List Leaf
  pub limited : Limited J est_order
  pub tree : IsPlainTree J est_order leaves inner words

-- A new theta tree for n tasks: every leaf is empty, whatever the tasks.
pub record PlainNew (n : ℕ) (tree : ThetaTree) : Type 0 where
  pub empties : (J : Tasks natural) (est_order : List ℕ) → J.count ≡ n
      → IsPlainTree J est_order (replicate J.count empty) tree.number_of_internal_nodes tree.nodes

-- the answer is the value of the leaves
abbrev pub PlainAnswers : {A : Type 0} → (Tasks natural → List ℕ → List Leaf → A) → List ℕ → A → Type 0
PlainAnswers value words r = (inner : ℕ) (h : HeldPlain inner words) → r ≡ value h.J h.est_order h.leaves

-- the leaf at the place is white then, and the words hold the tree of these leaves
abbrev pub PlainWhitened : {inner : ℕ} {words : List ℕ} → HeldPlain inner words → ℕ → List ℕ → Type 0
PlainWhitened {inner} h place words' = IsPlainTree h.J h.est_order (set h.leaves place white) inner words'
