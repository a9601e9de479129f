-- Leaves laid before their ancestors are calculated, and the tree that a rebuild then makes of them.
use mathlib.Core.Path.{◌≡◌, refl, sym, ap, subst, ◌∙◌, fun_ext}
use mathlib.Core.List.{List}
use Prim.Native.Nat.{ℕ, ◌+◌, ◌<◌}
use native.Mathlib.Omega.{arith}
use lib.ListN.{length, set, length-set}
use lib.Seq.{get_or-set_same}
use Rattle.integers.specs.Limits.{TREEWORDS}
use Rattle.scheduling.specs.Scheduling.{natural, Tasks}
use Rattle.trees.specs.declared.theta_lambda_node.Node.{Node}
use Rattle.trees.specs.Nodes.{join_of}
use Rattle.trees.specs.NodeLaws.{additive}
use Rattle.trees.specs.Shapes.{height_for}
use Rattle.trees.specs.Arrays.{changed, leaves_of, TreeOf}
use Rattle.trees.specs.Words.{node_at}
use Rattle.trees.specs.Puts.{Layable, Laid}
use Rattle.trees.specs.Leaves as leaves
use Rattle.trees.specs.Leaves.{Leaf, empty, leaf_node, start_at, duration_at}
use Rattle.trees.specs.Trees.{Limited, IsTree, HasLeaves}
use Rattle.trees.proofs.Heights.{enough, few_inner}
use Rattle.trees.proofs.ArrayTrees.{changed_leaf, leaf_fits, whole, DuringRebuild}
use Rattle.trees.proofs.LeafColours.{bounded, coloured}

module _ {J : Tasks natural} {est_order : List ℕ} (lim : Limited J est_order) where
  abbrev leaf_node_is : Leaf → ℕ → Node
  leaf_node_is c j = leaf_node c (start_at J est_order j) (duration_at J est_order j)

  pub tree_leaves : {ls : List Leaf} {inner : ℕ} {words : List ℕ} → IsTree J est_order ls inner words → HasLeaves J est_order ls inner words
  tree_leaves t = record { nodes = t.tree.leaves; words_length = t.words_length; complete = t.complete; colours = t.colours }

  module _ {ls : List Leaf} {inner : ℕ} {words : List ℕ} (t : HasLeaves J est_order ls inner words) where
    own : leaves_of inner (node_at words) ≡ leaves.leaves J est_order ls
    own = fun_ext t.nodes

    -- a leaf may get a colour, and then has it
    pub may_lay : (k : ℕ) → k < J.count → (c : Leaf) {n : Node} → n ≡ leaf_node_is c k → Layable inner words k n
    may_lay k q c z = record {
      fits = rw (z ∙ ap (λ (x : Leaf). leaf_node_is x k) (sym (get_or-set_same ls k c empty (omega (arith, t.colours)))))
          (leaf_fits (leaves.leaves J est_order (set ls k c)) (bounded J est_order lim (set ls k c) (length-set ls k c ∙ t.colours)) k);
      inside = omega (arith, enough J.count, t.complete);
      room = few_inner lim.count t.complete;
      length = t.words_length;
    }

    pub was_laid : (k : ℕ) → k < J.count → (c : Leaf) {n : Node} → n ≡ leaf_node_is c k → {words' : List ℕ} → Laid inner words words' k n
        → HasLeaves J est_order (set ls k c) inner words'
    was_laid k q c {n} z {words'} u = record {
      nodes = λ j. ap (λ (at : ℕ → Node). at (inner + j)) u.nodes ∙ ap (λ (f : ℕ → Node). f j) laid;
      words_length = u.length;
      complete = t.complete;
      colours = length-set ls k c ∙ t.colours;
    }
      where
        laid : leaves_of inner (changed (node_at words) (inner + k) n) ≡ leaves.leaves J est_order (set ls k c)
        laid = changed_leaf inner (node_at words) k n ∙ sym (coloured ls k (omega (arith, t.colours)) c leaf_node_is own z)

    -- the inner nodes may be built, and then the words hold the tree
    pub may_rebuild : DuringRebuild additive inner (node_at words) (node_at words) inner
    may_rebuild = record {
      during = record {
        joins = λ k q r. absurd (omega arith);
        leaves = refl;
        bounded = rw own (bounded J est_order lim ls t.colours);
        height = height_for J.count;
        complete = t.complete;
        room = few_inner lim.count t.complete;
      };
      inside = omega arith;
    }

    pub was_rebuilt : {words' : List ℕ} {i : ℕ} → DuringRebuild additive inner (node_at words) (node_at words') i → i ≡ 0 → length words' ≡ TREEWORDS → IsTree J est_order ls inner words'
    was_rebuilt {words'} c root l = record {
      tree = subst (λ (leaf : ℕ → Node). TreeOf join_of inner leaf (node_at words')) own (whole additive c.during (λ j. omega arith));
      words_length = l;
      complete = t.complete;
      colours = t.colours;
    }
