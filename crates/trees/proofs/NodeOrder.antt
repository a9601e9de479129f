-- Nodes of which one is at most the other, word by word: joins keep that order, so a white leaf that turns gray does not raise the ect_bar of the root.
use mathlib.Core.Path.{◌≡◌, refl}
use mathlib.Core.Bool.{true, false}
use mathlib.Core.List.{List}
use Prim.Native.Nat.{ℕ, ◌≤◌, ◌<◌}
use native.Mathlib.Omega.{arith}
use native.Mathlib.Decide.{ℕ_discrete}
use lib.ListN.{length, get_or, set}
use lib.Seq.{get_or-set_same, get_or-set_other}
use Rattle.integers.proofs.Bools.{clash}
use Rattle.scheduling.specs.Scheduling.{natural, Tasks}
use Rattle.trees.specs.declared.theta_lambda_node.Node.{Node}
use Rattle.trees.specs.Nodes.{join_of}
use Rattle.trees.specs.Shapes.{height_for}
use Rattle.trees.specs.Ects.{exceeds, raised_to}
use Rattle.trees.specs.Leaves as leaves
use Rattle.trees.specs.Leaves.{Leaf, empty, gray, in_theta, white_at, leaf_node, start_at, duration_at, root}
use Rattle.trees.proofs.Ects.{raised_decoded, within_bound}
use Rattle.trees.proofs.ArrayTrees.{over_both}
use Rattle.trees.proofs.RangeNodes.{over_later}

pub record AtMost (m n : Node) : Type 0 where
  pub ect : m.ect ≤ n.ect
  pub sum : m.sum_of_processing_times ≤ n.sum_of_processing_times
  pub ect_bar_of : m.ect_bar ≤ n.ect_bar
  pub sum_bar : m.sum_of_processing_times_bar ≤ n.sum_of_processing_times_bar

join_most : (l l' r r' : Node) → AtMost l l' → AtMost r r' → AtMost (join_of l r) (join_of l' r')
unfolding join_of
join_most l l' r r' a b = record { ect = omega arith; sum = omega arith; ect_bar_of = omega arith; sum_bar = omega arith }

-- leaves
same_most : (n : Node) → AtMost n n
same_most n = record { ect = omega arith; sum = omega arith; ect_bar_of = omega arith; sum_bar = omega arith }

gray_most : (c : Leaf) (e p : ℕ) → in_theta c ≡ true → AtMost (leaf_node gray e p) (leaf_node c e p)
gray_most leaves.empty e p z = clash z refl
gray_most leaves.white e p z = record { ect = omega arith; sum = omega arith; ect_bar_of = omega arith; sum_bar = omega arith }
gray_most leaves.gray e p z = clash z refl

module _ (J : Tasks natural) (est_order : List ℕ) (ls : List Leaf) where
  -- the root's ect_bar is at least its ect
  pub root_later : (root J est_order ls).ect ≤ (root J est_order ls).ect_bar
  unfolding root
  root_later = over_later (λ j. get_or ls j empty) (start_at J est_order) (duration_at J est_order) (height_for J.count) 0

  -- an ect_bar that is not past a moment: neither is the ect
  pub ect_within : (m : ℕ) → raised_to 0 (leaves.ect_bar_of J est_order ls) ≤ m → exceeds (leaves.ect J est_order ls) m ≡ false
  ect_within m q = within_bound 0 m (leaves.ect J est_order ls)
      (omega (arith, q, raised_decoded (root J est_order ls).ect_bar, raised_decoded (root J est_order ls).ect, root_later))

  -- a white leaf turns gray: ect_bar does not rise
  module _ (k : ℕ) (inside : k < length ls) (is_white : white_at ls k ≡ true) where
    root_most : AtMost (root J est_order (set ls k gray)) (root J est_order ls)
    unfolding root
    root_most = over_both AtMost (λ l r l' r'. join_most l l' r r') (leaves.leaves J est_order (set ls k gray)) (leaves.leaves J est_order ls) each (height_for J.count) 0
      where
        each : (j : ℕ) → AtMost (leaves.leaves J est_order (set ls k gray) j) (leaves.leaves J est_order ls j)
        each j = elim (ℕ_discrete j k) [
          | yes z ↦ rw (z, get_or-set_same ls k gray empty inside) (gray_most (get_or ls k empty) (start_at J est_order k) (duration_at J est_order k) is_white)
          | no z ↦ rw (get_or-set_other ls k j gray empty z) (same_most (leaves.leaves J est_order ls j))
        ]

    pub ect_bar_no_later : raised_to 0 (leaves.ect_bar_of J est_order (set ls k gray)) ≤ raised_to 0 (leaves.ect_bar_of J est_order ls)
    ect_bar_no_later = omega (arith, raised_decoded (root J est_order ls).ect_bar, raised_decoded (root J est_order (set ls k gray)).ect_bar, root_most.ect_bar_of)
