-- What a search for the responsible task does at one node, as in the source: the tests in their order, and the child that it goes on in.
use Rattle.std.specs.Prelude.{Bool, true, false, ◌&&◌, not, ℕ, ◌+◌, eqb}
use Rattle.trees.specs.declared.theta_lambda_node.Node.{Node}
use Rattle.trees.specs.declared.theta_lambda_node.PDescent.{PDescent}
use Rattle.trees.specs.declared.theta_lambda_node.PDescent.TheVariants.{Left, Right, Nothing}
use Rattle.trees.specs.declared.theta_lambda_node.EctBarDescent.TheVariants as bar
use Rattle.trees.specs.declared.theta_lambda_node.EctBarDescent.{EctBarDescent}
use Rattle.trees.specs.Nodes.{is_empty}

-- a gray leaf: with the gray task it has an ect, without it none
unfoldable pub gray : Node → Bool
gray n = not (eqb n.ect_bar 0) && eqb n.ect 0

-- the child is not empty, and the value is this one
unfoldable pub tested : Node → ℕ → ℕ → Bool
tested child value this = not (is_empty child) && eqb value this

-- Where the gray task of a node's sum bar is, by its children.
unfoldable pub descent_by_p : Node → Node → Node → PDescent
descent_by_p n l r =
    elim (tested l n.sum_of_processing_times_bar (l.sum_of_processing_times_bar + r.sum_of_processing_times)) [
      | true ↦ Left
      | false ↦ elim (tested r n.sum_of_processing_times_bar (l.sum_of_processing_times + r.sum_of_processing_times_bar))
          [ true ↦ Right | false ↦ Nothing ]
    ]

-- Where the gray task of a node's ect bar is: in the right child's ect bar, in its sum bar, or in the left child's ect bar.
unfoldable pub descent_by_ect : Node → Node → Node → EctBarDescent
descent_by_ect n l r =
    elim (tested r n.ect_bar r.ect_bar) [
      | true ↦ bar.Right
      | false ↦ elim (tested r n.ect_bar (l.ect + r.sum_of_processing_times_bar)) [
        | true ↦ bar.RightP
        | false ↦ elim (tested l n.ect_bar (l.ect_bar + r.sum_of_processing_times))
            [ true ↦ bar.Left | false ↦ bar.Nothing ]
      ]
    ]
