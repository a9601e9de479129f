-- One step of a search as code: by what is read at a node, a leaf or an inner node with its children.
use Rattle.std.specs.Prelude.{true, false}
use Rattle.trees.specs.declared.theta_lambda_node.Around.{Around}
use Rattle.trees.specs.declared.theta_lambda_node.Around.TheVariants as around
use Rattle.trees.specs.declared.theta_lambda_node.PDescent.{PDescent}
use Rattle.trees.specs.declared.theta_lambda_node.PDescent.TheVariants.{Here, Nothing}
use Rattle.trees.specs.declared.theta_lambda_node.EctBarDescent.TheVariants as bar
use Rattle.trees.specs.declared.theta_lambda_node.EctBarDescent.{EctBarDescent}
use Rattle.trees.specs.NodeBounds.{size, Fair, Fits}
use Rattle.trees.specs.Descents.{gray, descent_by_p, descent_by_ect}

-- the children's numbers can be added
abbrev pub AroundFits : Around → Type 0
AroundFits (around.Leaf n) = Unit {0}
AroundFits (around.Inner n l r) = Fits size Fair l × Fits size Fair r

-- the step from there
abbrev pub step_at_p : Around → PDescent
step_at_p (around.Leaf n) = elim (gray n) [ true ↦ Here | false ↦ Nothing ]
step_at_p (around.Inner n l r) = descent_by_p n l r

abbrev pub step_at_ect : Around → EctBarDescent
step_at_ect (around.Leaf n) = elim (gray n) [ true ↦ bar.Here | false ↦ bar.Nothing ]
step_at_ect (around.Inner n l r) = descent_by_ect n l r
