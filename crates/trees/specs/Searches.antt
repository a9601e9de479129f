-- The two searches for the responsible task, as in the source: down from a node, by the tests in their order, to the leaf of a gray task. And the list of
-- Theta.
use Rattle.std.specs.Prelude.{Bool, true, false, List, [], ◌∷◌, ℕ, zero, suc, ◌+◌}
use Rattle.std.proofs.Math.Option.{Option, some, none}
use Rattle.trees.specs.declared.theta_lambda_node.Node.{Node}
use Rattle.trees.specs.declared.theta_lambda_node.PDescent.{PDescent}
use Rattle.trees.specs.declared.theta_lambda_node.PDescent.TheVariants.{Left, Right, Here, Nothing}
use Rattle.trees.specs.declared.theta_lambda_node.EctBarDescent.TheVariants as bar
use Rattle.trees.specs.declared.theta_lambda_node.EctBarDescent.{EctBarDescent}
use Rattle.trees.specs.Nodes.{join_of}
use Rattle.trees.specs.Descents.{gray, descent_by_p, descent_by_ect}
use Rattle.trees.specs.Shapes.{width, node_over}

-- Below the node of height h over the leaves from a on: the next step of each search, and the place of the leaf where it ends, or none.
module _ (leaf : ℕ → Node) where
  unfoldable pub step_p : ℕ → ℕ → PDescent
  step_p zero a = elim (gray (leaf a)) [ true ↦ Here | false ↦ Nothing ]
  step_p (suc h) a = descent_by_p (node_over join_of leaf (suc h) a) (node_over join_of leaf h a) (node_over join_of leaf h (a + width h))

  unfoldable pub step_ect : ℕ → ℕ → EctBarDescent
  step_ect zero a = elim (gray (leaf a)) [ true ↦ bar.Here | false ↦ bar.Nothing ]
  step_ect (suc h) a = descent_by_ect (node_over join_of leaf (suc h) a) (node_over join_of leaf h a) (node_over join_of leaf h (a + width h))

  -- `responsible_index_p_internal`
  unfoldable pub search_p : ℕ → ℕ → Option ℕ
  search_p zero a = elim (step_p zero a) [ Left ↦ none | Right ↦ none | Here ↦ some a | Nothing ↦ none ]
  search_p (suc h) a = elim (step_p (suc h) a) [ Left ↦ search_p h a | Right ↦ search_p h (a + width h) | Here ↦ none | Nothing ↦ none ]

  -- `responsible_index_ect_bar_internal`
  unfoldable pub search_ect : ℕ → ℕ → Option ℕ
  search_ect zero a = elim (step_ect zero a) [ bar.Right ↦ none | bar.RightP ↦ none | bar.Left ↦ none | bar.Here ↦ some a | bar.Nothing ↦ none ]
  search_ect (suc h) a = elim (step_ect (suc h) a) [
    | bar.Right ↦ search_ect h (a + width h)
    | bar.RightP ↦ search_p h (a + width h)
    | bar.Left ↦ search_ect h a
    | bar.Here ↦ none
    | bar.Nothing ↦ none
  ]

-- the tasks of the white leaves among the d from a on, in leaf order: the list of the source's `get_theta`
unfoldable pub theta_of : (ℕ → Bool) → (ℕ → ℕ) → ℕ → ℕ → List ℕ
theta_of white task a zero = []
theta_of white task a (suc d) = elim (white a) [ true ↦ task a ∷ theta_of white task (suc a) d | false ↦ theta_of white task (suc a) d ]
