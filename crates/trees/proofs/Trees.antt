-- The laws of the two trees: what the operations require and do, and what the root holds, by the colours of the leaves.
use mathlib.Core.Path.{◌≡◌, refl, sym, ap, ap₂, subst, ◌∙◌}
use mathlib.Core.Bool.{true, not}
use mathlib.Core.List.{List}
use mathlib.Core.Option.{some, none}
use Prim.Native.Nat.{ℕ, ◌+◌, ◌*◌, ◌-◌, ◌≤◌, ◌<◌}
use native.Mathlib.Omega.{arith}
use lib.Dec.{eqb}
use lib.ListN.{length, get_or, set, length-set, replicate, length-replicate}
use Rattle.integers.specs.Limits.{TASKS, THETAWORDS, TREEWORDS}
use Rattle.integers.proofs.FilledLists.{get_d_fresh}
use Rattle.scheduling.specs.Scheduling.{natural, Tasks}
use Rattle.trees.specs.declared.theta_lambda_node.Node.{Node}
use Rattle.trees.specs.declared.theta_node.Node as plain
use Rattle.trees.specs.Nodes.{empty_of, join_of, plain_empty_of, plain_of, plain_join_of}
use Rattle.trees.proofs.Descents.{ects}
use Rattle.trees.specs.Shapes.{width, height_for, node_over}
use Rattle.trees.specs.Arrays.{leftmost, changed, leaves_of, TreeOf}
use Rattle.trees.specs.Words.{node_at, plain_at}
use Rattle.trees.specs.NodeBounds.{Fair, size, PlainFair, plain_size}
use Rattle.trees.specs.Bounds.{Bounded, CanPut}
use Rattle.trees.specs.Puts.{Puttable, Put, white_part}
use Rattle.trees.specs.Searches.{search_ect}
use Rattle.trees.specs.ArraySearches.{Searchable, nowhere, found_at, white_in, theta_in}
use Rattle.trees.specs.Leaves as leaves
use Rattle.trees.specs.Leaves.{Leaf, empty, in_theta, leaf_node, task_place, start_at, duration_at, white_at, gray_at, root, responsible, theta}
use Rattle.trees.specs.Trees.{plain_leaf, Limited, IsTree, IsPlainTree}
use Rattle.trees.proofs.Heights.{enough, few_inner, root_height, root_first}
use Rattle.trees.proofs.ArrayTrees.{over_both, own_leaves, own_tree, root_is}
use Rattle.trees.proofs.NodeWords.{blank_nodes, plain_blank_nodes}
use Rattle.trees.proofs.LeafColours.{gray_small, white_is, gray_white, bounded, plain_leaves_are, plain_bounded, coloured}
use Rattle.trees.proofs.WhiteParts.{join_white}
use Rattle.trees.proofs.WhiteTasks.{theta_same}
use Rattle.trees.proofs.SearchSteps.{none_at, some_at}
use Rattle.trees.proofs.ResponsibleTask.{by_ok}

-- The array of a tree over colours, of nodes of any kind: `node` is that of a leaf, by colour and place. A leaf gets a colour.
module _ {A : Type 0} {size : A → ℕ} {Fair : A → Type 0} {join : A → A → A} (node : Leaf → ℕ → A) {n : ℕ} (few : n ≤ TASKS)
    (bound : (ls : List Leaf) → length ls ≡ n → Bounded size Fair (λ j. node (get_or ls j empty) j))
    (ls : List Leaf) {inner : ℕ} {at : ℕ → A} (t : TreeOf join inner (λ j. node (get_or ls j empty) j) at) (e : inner + 1 ≡ width (height_for n)) (l : length ls ≡ n)
    (k : ℕ) (q : k < n) (c : Leaf) {v : A} (z : v ≡ node c k) where
  abbrev over : List Leaf → ℕ → A
  over colours j = node (get_or colours j empty) j

  coloured_is : over (set ls k c) ≡ changed (leaves_of inner at) k v
  coloured_is = coloured ls k (omega arith) c node (own_leaves join t) z

  -- it may,
  takes : CanPut size Fair join inner at k v
  takes = record {
    tree = own_tree join t;
    bounded = rw (← coloured_is) (bound (set ls k c) (length-set ls k c ∙ l));
    height = height_for n;
    complete = e;
    room = few_inner few e;
    inside = omega (arith, enough n);
  }

  -- and has it then
  put_gives : {at' : ℕ → A} → TreeOf join inner (changed (leaves_of inner at) k v) at' → TreeOf join inner (over (set ls k c)) at'
  put_gives {at'} = subst (λ (leaf : ℕ → A). TreeOf join inner leaf at') (sym coloured_is)

-- a node without its gray tasks is the one over leaves without theirs
plain_over : (leaf : ℕ → Node) (h a : ℕ) → node_over plain_join_of (λ k. white_part (leaf k)) h a ≡ white_part (node_over join_of leaf h a)
plain_over leaf = over_both (λ p n. p ≡ white_part n) (λ l' r' l r x y. ap₂ plain_join_of x y ∙ sym (join_white l r)) (λ k. white_part (leaf k)) leaf (λ k. refl)

-- a new tree: all nodes are the empty one, which is the join of two
blank_tree : {A : Type 0} {join : A → A → A} {inner : ℕ} {leaf at : ℕ → A} (blank : A) → join blank blank ≡ blank → ((i : ℕ) → at i ≡ blank) → ((k : ℕ) → leaf k ≡ blank) → TreeOf join inner leaf at
blank_tree {join = join} {inner} blank z all each =
    record { joins = λ i q. all i ∙ sym (ap₂ join (all (2 * i + 1)) (all (2 * i + 2)) ∙ z); leaves = λ k. all (inner + k) ∙ sym (each k) }

module _ (J : Tasks natural) (est_order : List ℕ) where
  abbrev leaf_node_is : Leaf → ℕ → Node
  leaf_node_is c j = leaf_node c (start_at J est_order j) (duration_at J est_order j)

  abbrev plain_node : Leaf → ℕ → plain.Node
  plain_node c j = plain_leaf (in_theta c) (start_at J est_order j) (duration_at J est_order j)

  -- of a new tree: every word 0, and every leaf empty
  pub new_tree : {inner : ℕ} → inner + 1 ≡ width (height_for J.count) → IsTree J est_order (replicate J.count empty) inner (replicate TREEWORDS 0)
  unfolding join_of
  new_tree e = record {
    tree = blank_tree empty_of refl blank_nodes (λ k. ap (λ (c : Leaf). leaf_node_is c k) (get_d_fresh empty J.count k));
    words_length = refl;
    complete = e;
    colours = length-replicate J.count empty;
  }

  pub new_plain_tree : {inner : ℕ} → inner + 1 ≡ width (height_for J.count) → IsPlainTree J est_order (replicate J.count empty) inner (replicate THETAWORDS 0)
  unfolding plain_join_of
  new_plain_tree e = record {
    tree = blank_tree plain_empty_of refl plain_blank_nodes (λ k. ap (λ (c : Leaf). plain_node c k) (get_d_fresh empty J.count k));
    words_length = refl;
    complete = e;
    colours = length-replicate J.count empty;
  }

-- the theta-lambda tree --------------------------------------------------------------------------------------------------------

module _ {J : Tasks natural} {est_order : List ℕ} (lim : Limited J est_order) {ls : List Leaf} {inner : ℕ} {words : List ℕ} (t : IsTree J est_order ls inner words) where
  -- the leaf of a task may get a colour: gray by `add_to_lambda`, empty by `remove_from_theta` and `remove_from_lambda`
  pub may_put : (k : ℕ) → k < J.count → (c : Leaf) {n : Node} → n ≡ leaf_node_is J est_order c k → Puttable size Fair join_of node_at TREEWORDS inner words k n
  may_put k q c z = record { length = t.words_length; takes = takes (leaf_node_is J est_order) lim.count (bounded J est_order lim) ls t.tree t.complete t.colours k q c z }

  -- and then has it
  pub was_put : (k : ℕ) → k < J.count → (c : Leaf) {n : Node} → n ≡ leaf_node_is J est_order c k → {words' : List ℕ} → Put join_of node_at TREEWORDS inner words words' k n
      → IsTree J est_order (set ls k c) inner words'
  was_put k q c z u = record {
    tree = put_gives (leaf_node_is J est_order) lim.count (bounded J est_order lim) ls t.tree t.complete t.colours k q c z u.tree;
    words_length = u.length;
    complete = t.complete;
    colours = length-set ls k c ∙ t.colours;
  }

  -- a gray leaf differs from an empty one in its bars alone
  pub gray_part : (k : ℕ) → gray_at ls k ≡ true → white_part (node_at words (inner + k)) ≡ white_part empty_of
  gray_part k y = ap white_part (t.tree.leaves k) ∙ gray_white (get_or ls k empty) (start_at J est_order k) (duration_at J est_order k) y

  -- the root's values: `ect`, `ect_bar`, `sum_of_processing_times`
  pub root_of : node_at words 0 ≡ root J est_order ls
  unfolding root
  root_of = root_is join_of (height_for J.count) t.complete t.tree

  -- a leaf that the search finds is that of a task
  responsible_small : (x : ℕ) → responsible J est_order ls ≡ some x → x < TASKS
  unfolding responsible
  responsible_small x z =
      let small = gray_small J est_order ls t.colours in
      let ok = by_ok (λ j. get_or ls j empty) (start_at J est_order) (duration_at J est_order) (λ j y. lim.lasts j (small j y)) ects (height_for J.count) 0 in
      omega (arith, small x (rw z at ok).0.gray, lim.count)

  -- the search from the root, `responsible_ect_bar`
  module _ {h : ℕ} (z : h ≡ height_for J.count) where
    pub root_searchable : Searchable inner h 0 (node_at words)
    root_searchable = rw z (record {
      tree = own_tree join_of t.tree;
      bounded = rw (own_leaves join_of t.tree) (bounded J est_order lim ls t.colours);
      has_height = root_height inner (height_for J.count) t.complete;
      room = few_inner lim.count t.complete;
    })

    -- and the position that it answers
    module _ {r : ℕ} (e : r ≡ found_at inner (search_ect (leaves_of inner (node_at words)) h (leftmost h 0 - inner))) where
      found : r ≡ found_at inner (responsible J est_order ls)
      unfolding responsible
      found = e ∙ rw (z, own_leaves join_of t.tree, root_first inner (height_for J.count) t.complete) refl

      pub no_task_found : r ≡ nowhere → responsible J est_order ls ≡ none
      no_task_found = none_at (few_inner lim.count t.complete) (responsible J est_order ls) responsible_small found

      pub task_found : (r ≡ nowhere → ⊥) → (inner ≤ r) × (r - inner < TASKS) × (responsible J est_order ls ≡ some (r - inner))
      task_found = some_at (few_inner lim.count t.complete) (responsible J est_order ls) responsible_small found

  -- the tasks of Theta, by any array of the leaves' tasks
  pub theta_of : (tasks : List ℕ) → ((j : ℕ) → j < J.count → get_or tasks j 0 ≡ task_place J est_order j) → theta_in words inner tasks J.count ≡ theta J est_order ls
  unfolding theta white_in
  theta_of tasks z = theta_same (white_in words inner) (white_at ls) (λ k. get_or tasks k 0) (task_place J est_order) 0 J.count (λ k lo hi.
      let q : k < J.count = omega arith in
      (ap (λ (n : Node). not (eqb n.ect 0)) (t.tree.leaves k) ∙ white_is (get_or ls k empty) (start_at J est_order k) (duration_at J est_order k) (lim.lasts k q), z k q))

-- the theta tree ---------------------------------------------------------------------------------------------------------------

module _ {J : Tasks natural} {est_order : List ℕ} (lim : Limited J est_order) {ls : List Leaf} {inner : ℕ} {words : List ℕ} (t : IsPlainTree J est_order ls inner words) where
  pub may_put_plain : (k : ℕ) → k < J.count → (c : Leaf) {n : plain.Node} → n ≡ plain_node J est_order c k → Puttable plain_size PlainFair plain_join_of plain_at THETAWORDS inner words k n
  may_put_plain k q c z =
      record { length = t.words_length; takes = takes (plain_node J est_order) lim.count (plain_bounded J est_order lim) ls t.tree t.complete t.colours k q c z }

  pub was_put_plain : (k : ℕ) → k < J.count → (c : Leaf) {n : plain.Node} → n ≡ plain_node J est_order c k → {words' : List ℕ}
      → Put plain_join_of plain_at THETAWORDS inner words words' k n → IsPlainTree J est_order (set ls k c) inner words'
  was_put_plain k q c z u = record {
    tree = put_gives (plain_node J est_order) lim.count (plain_bounded J est_order lim) ls t.tree t.complete t.colours k q c z u.tree;
    words_length = u.length;
    complete = t.complete;
    colours = length-set ls k c ∙ t.colours;
  }

  -- the root has the theta-lambda tree's plain values
  pub plain_root_of : plain_at words 0 ≡ plain_of (root J est_order ls).ect (leaves.sum J est_order ls)
  unfolding root
  plain_root_of = root_is plain_join_of (height_for J.count) t.complete t.tree
      ∙ ap (λ (leaf : ℕ → plain.Node). node_over plain_join_of leaf (height_for J.count) 0) (plain_leaves_are J est_order lim ls t.colours)
      ∙ plain_over (leaves.leaves J est_order ls) (height_for J.count) 0
