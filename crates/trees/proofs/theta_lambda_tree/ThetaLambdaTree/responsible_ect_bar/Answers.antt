-- The search ends at the leaf of a task, since the leaves after those of the tasks are not gray.
use mathlib.Core.Path.{◌≡◌, sym, ap, ◌∙◌}
use mathlib.Core.Option.{some}
use Prim.Native.Nat.{ℕ, ◌-◌, ◌≤◌, ◌<◌}
use native.Mathlib.Omega.{arith}
use lib.ListN.{get_or}
use Rattle.integers.specs.Limits.{TASKS}
use Rattle.trees.specs.ArraySearches.{responsible_of}
use Rattle.trees.specs.Leaves.{responsible}
use Rattle.trees.specs.Operations.{Held, Tall}
use Rattle.trees.proofs.SearchSteps.{task_is}
use Rattle.trees.proofs.Trees.{root_searchable, no_task_found, task_found}
use Rattle.trees.proofs.theta_lambda_tree.ThetaLambdaTree.responsible_ect_bar.Goals.{Else-found-eq-NOWHERE}
use Rattle.trees.proofs.theta_lambda_tree.ThetaLambdaTree.responsible_ect_bar.Goals as goal

-- it ends at the leaf of a task
ends : (c : Else-found-eq-NOWHERE) → let a = c.args in let r = c.responsible_index_ect_bar_internal-found.result in (h : Held a.inner a.nodes.now) → Tall h a.height
    → (a.inner ≤ r) × (r - a.inner < TASKS) × (responsible h.J h.est_order h.leaves ≡ some (r - a.inner))
ends c h z = task_found h.limited h.tree z c.responsible_index_ect_bar_internal-found.ensures c.if-found-eq-NOWHERE.false

pub returns-then-found-eq-NOWHERE : goal.returns-then-found-eq-NOWHERE
returns-then-found-eq-NOWHERE c = λ h z. sym (ap (responsible_of c.args.reverse_mapping.now)
    (no_task_found h.limited h.tree z c.responsible_index_ect_bar_internal-found.ensures c.if-found-eq-NOWHERE.true))

pub returns : goal.returns
returns c = λ h z. task_is _ _ _ _ (ends (goal.at.returns c).Else-found-eq-NOWHERE h z).2
    (c.task_of.ensures ∙ ap (λ (k : ℕ). get_or c.args.reverse_mapping.now k 0) c.get_leaf_node_index-place.ensures)

pub responsible_index_ect_bar_internal-found-requires : goal.responsible_index_ect_bar_internal-found-requires
responsible_index_ect_bar_internal-found-requires c = let (h, z) = c.requires in root_searchable h.limited h.tree z

pub task_of-requires : goal.task_of-requires
task_of-requires c = let (h, z) = c.requires in omega (arith, (ends (goal.at.task_of-requires c).Else-found-eq-NOWHERE h z).1, c.get_leaf_node_index-place.ensures)
