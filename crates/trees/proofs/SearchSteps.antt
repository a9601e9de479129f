-- Both searches step by step: what is left of a search after a step, and that the steps in the array are those over the leaves.
use mathlib.Core.Path.{◌≡◌, refl, sym, ap, subst, ◌∙◌}
use mathlib.Core.Bool.{Bool, true, false}
use mathlib.Core.Logic.{inl, inr}
use mathlib.Core.List.{List}
use mathlib.Core.Option.{Option, some, none}
use Prim.Native.Nat.{ℕ, zero, suc, ◌+◌, ◌*◌, ◌-◌, ◌≤◌, ◌<◌}
use native.Mathlib.Omega.{arith}
use lib.Dec.{leb}
use lib.ListN.{get_or}
use borrow.Author.Rules.{rules}
use borrow.Author.Tests.{le-leb, lt-leb, leb-false}
use Rattle.integers.specs.Limits.{INNER, NODES, TASKS}
use Rattle.integers.proofs.Bools.{bool}
use Rattle.trees.specs.declared.theta_lambda_node.Node.{Node}
use Rattle.trees.specs.declared.theta_lambda_node.Around.{Around}
use Rattle.trees.specs.declared.theta_lambda_node.Around.TheVariants as around
use Rattle.trees.specs.declared.theta_lambda_node.PDescent.{PDescent}
use Rattle.trees.specs.declared.theta_lambda_node.PDescent.TheVariants.{Left, Right, Here, Nothing}
use Rattle.trees.specs.declared.theta_lambda_node.EctBarDescent.TheVariants as bar
use Rattle.trees.specs.declared.theta_lambda_node.EctBarDescent.{EctBarDescent}
use Rattle.trees.specs.Nodes.{join_of}
use Rattle.trees.specs.Descents.{gray}
use Rattle.trees.specs.SearchSteps.{AroundFits, step_at_p, step_at_ect}
use Rattle.trees.proofs.Descents.{By, sums, ects, as_ect, step_at, leaf_step, Fact, fact}
use Rattle.trees.specs.NodeLaws.{additive}
use Rattle.trees.specs.declared.disjunctive_task.LocalId.{LocalId}
use Rattle.std.specs.Prelude.{Some}
use Rattle.trees.specs.Shapes.{width, node_over}
use Rattle.trees.specs.Arrays.{leftmost, HasHeight, leaves_of}
use Rattle.trees.specs.Searches.{step_p, step_ect, search_p, search_ect}
use Rattle.trees.specs.ArraySearches.{around_of, Searchable, nowhere, found_at, responsible_of}
use Rattle.trees.proofs.Heights.{leftmost_leaf, leftmost_left, leftmost_right, inner_height, left_height, right_height, leaf_at, height_inside}
use Rattle.trees.proofs.ArrayTrees.{node_is, over_fits}

module _ (leaf : ℕ → Node) where
  -- what a search reads at the node of height h over the leaves from a on
  abbrev pub around_over : ℕ → ℕ → Around
  around_over zero a = around.Leaf (leaf a)
  around_over (suc g) a = around.Inner (node_over join_of leaf (suc g) a) (node_over join_of leaf g a) (node_over join_of leaf g (a + width g))

  abbrev pub search_by : By → ℕ → ℕ → Option ℕ
  search_by sums = search_p leaf
  search_by ects = search_ect leaf

  -- what the whole search is after a step from a node above the leaves
  abbrev pub rest : By → ℕ → ℕ → EctBarDescent → Option ℕ
  rest by g a bar.Left = search_by by g a
  rest by g a bar.RightP = search_p leaf g (a + width g)
  rest by g a bar.Right = search_ect leaf g (a + width g)
  rest by g a bar.Here = none
  rest by g a bar.Nothing = none

  pub inner_is : (by : By) (g a : ℕ) → search_by by (suc g) a ≡ rest by g a (step_at by (around_over (suc g) a))
  unfolding search_p search_ect step_p step_ect
  inner_is sums g a = elim (step_p leaf (suc g) a) as (λ d. elim d [ Left ↦ search_p leaf g a | Right ↦ search_p leaf g (a + width g) | Here ↦ none | Nothing ↦ none ] ≡ rest sums g a (as_ect d))
      [ Left ↦ refl | Right ↦ refl | Here ↦ refl | Nothing ↦ refl ]
  inner_is ects g a = elim (step_ect leaf (suc g) a) as (λ d. elim d [
    | bar.Right ↦ search_ect leaf g (a + width g)
    | bar.RightP ↦ search_p leaf g (a + width g)
    | bar.Left ↦ search_ect leaf g a
    | bar.Here ↦ none
    | bar.Nothing ↦ none
  ] ≡ rest ects g a d) [ bar.Right ↦ refl | bar.RightP ↦ refl | bar.Left ↦ refl | bar.Here ↦ refl | bar.Nothing ↦ refl ]

  -- the searches at a leaf
  pub leaf_search : (by : By) (a : ℕ) → search_by by 0 a ≡ elim (gray (leaf a)) [ true ↦ some a | false ↦ none ]
  unfolding search_p search_ect step_p step_ect
  leaf_search sums a = elim (bool (gray (leaf a))) [ inl t ↦ rw (t, step_p, search_p) | inr t ↦ rw (t, step_p, search_p) ]
  leaf_search ects a = elim (bool (gray (leaf a))) [ inl t ↦ rw (t, step_ect, search_ect) | inr t ↦ rw (t, step_ect, search_ect) ]

  -- What a step says of the search from the node of height h: it goes down to a child, ends at a leaf, or ends with none.
  abbrev pub After : By → ℕ → ℕ → EctBarDescent → Type 0
  After by h a bar.Left = (1 ≤ h) × (search_by by h a ≡ search_by by (h - 1) a)
  After by h a bar.RightP = (1 ≤ h) × (search_by by h a ≡ search_p leaf (h - 1) (a + width (h - 1)))
  After by h a bar.Right = (1 ≤ h) × (search_by by h a ≡ search_ect leaf (h - 1) (a + width (h - 1)))
  After by h a bar.Here = (h ≡ 0) × (search_by by h a ≡ some a)
  After by h a bar.Nothing = search_by by h a ≡ none

  pub after : (by : By) (h a : ℕ) → After by h a (step_at by (around_over h a))
  after by zero a = elim (bool (gray (leaf a)))
      [ inl t ↦ rw (leaf_step by (leaf a), t) (refl, rw (leaf_search by a, t)) | inr t ↦ rw (leaf_step by (leaf a), t) (rw (leaf_search by a, t)) ]
  after by (suc g) a = go (step_at by (around_over (suc g) a)) (inner_is by g a) (fact (node_over join_of leaf (suc g) a) (node_over join_of leaf g a) (node_over join_of leaf g (a + width g)) by)
    where
      less : suc g - 1 ≡ g
      less = omega arith

      go : (d : EctBarDescent) → search_by by (suc g) a ≡ rest by g a d
          → Fact (node_over join_of leaf (suc g) a) (node_over join_of leaf g a) (node_over join_of leaf g (a + width g)) d by → After by (suc g) a d
      go bar.Left y f = (omega arith, rw less y)
      go bar.RightP y f = (omega arith, rw less y)
      go bar.Right y f = (omega arith, rw less y)
      go bar.Here y f = absurd f
      go bar.Nothing y f = y

-- what is left of the height falls
pub falls : {h t : ℕ} → h ≡ t → 1 ≤ h → h - 1 < t
falls is above = omega arith

module _ {m : ℕ} {at : ℕ → Node} where
  -- a node of the array
  module _ {h i : ℕ} (s : Searchable m h i at) where
    pub node_small : i < NODES
    node_small = omega (arith, height_inside m h i s.has_height, s.room)

    child : (g j : ℕ) → HasHeight m g j → Searchable m g j at
    child g j t = record { tree = s.tree; bounded = s.bounded; has_height = t; room = s.room }

  -- What is read at a node, by whether it is a leaf: b is the test.
  module _ {h i : ℕ} (s : Searchable m h i at) {b : Bool} (test : b ≡ leb m i) where
    pub leaf_read : {n : Node} → b ≡ true → n ≡ at i → around.Leaf n ≡ around_of m at i
    unfolding around_of
    leaf_read is e = rw (sym test ∙ is, around_of) (ap around.Leaf e)

    pub inner_read : {n x y : Node} {l r : ℕ} → b ≡ false → n ≡ at i → l ≡ 2 * i + 1 → r ≡ 2 * i + 2 → x ≡ at l → y ≡ at r → around.Inner n x y ≡ around_of m at i
    unfolding around_of
    inner_read is e el er ex ey = rw (sym test ∙ is, around_of) (λ t. around.Inner (e t) ((ex ∙ ap at el) t) ((ey ∙ ap at er) t))

    pub left_small : {l : ℕ} → b ≡ false → l ≡ 2 * i + 1 → l < NODES
    left_small is e = omega (arith, leb-false m i (sym test ∙ is), s.room)

    pub right_small : {r : ℕ} → b ≡ false → r ≡ 2 * i + 2 → r < NODES
    right_small is e = omega (arith, leb-false m i (sym test ∙ is), s.room)

  -- What is read is what stands around the node over its leaves.
  module _ {h i : ℕ} (s : Searchable m h i at) where
    around_is : (g : ℕ) → HasHeight m g i → around_of m at i ≡ around_over (leaves_of m at) g (leftmost g i - m)
    unfolding around_of
    around_is zero t =
        let y : leb m i ≡ true = le-leb m i (leaf_at m i t) in
        let z : i ≡ m + (leftmost 0 i - m) = omega (arith, t.from, leftmost_leaf i) in
        rw (y, around_of) (ap (λ (j : ℕ). around.Leaf (at j)) z)
    around_is (suc g) t =
        let y : leb m i ≡ false = lt-leb m i (inner_height t) in
        let l : leftmost g (2 * i + 1) - m ≡ leftmost (suc g) i - m = omega (arith, leftmost_left g i) in
        let r : leftmost g (2 * i + 2) - m ≡ (leftmost (suc g) i - m) + width g = omega (arith, leftmost_right g i, t.from) in
        let n = node_is join_of m at s.tree in
        rw (y, around_of) (rw (n (suc g) i t, n g (2 * i + 1) (left_height t), n g (2 * i + 2) (right_height t), l, r) refl)

    -- the children of a node above the leaves
    abbrev raised : 1 ≤ h → HasHeight m (suc (h - 1)) i
    raised above = let z : h ≡ suc (h - 1) = omega arith in subst (λ (g : ℕ). HasHeight m g i) z s.has_height

    pub left_child : {j : ℕ} → j ≡ 2 * i + 1 → 1 ≤ h → Searchable m (h - 1) j at
    left_child {j} e above = child s (h - 1) j (rw e (left_height (raised above)))

    pub right_child : {j : ℕ} → j ≡ 2 * i + 2 → 1 ≤ h → Searchable m (h - 1) j at
    right_child {j} e above = child s (h - 1) j (rw e (right_height (raised above)))

    abbrev L : ℕ → Node
    L = leaves_of m at

    -- the first leaf below the node
    abbrev a : ℕ
    a = leftmost h i - m

    -- The search below a child, `below` by first leaf, is the search below the node.
    to_left : {j r : ℕ} {whole : Option ℕ} (below : ℕ → Option ℕ) → (1 ≤ h) × (whole ≡ below a) → j ≡ 2 * i + 1 → r ≡ found_at m (below (leftmost (h - 1) j - m)) → r ≡ found_at m whole
    to_left {j} below (above, is) e found =
        let z : h ≡ suc (h - 1) = omega arith in
        let f : leftmost (h - 1) j - m ≡ a = omega (arith, ap (λ (g : ℕ). leftmost g i) z, ap (leftmost (h - 1)) e, leftmost_left (h - 1) i) in
        found ∙ ap (found_at m) (ap below f ∙ sym is)

    to_right : {j r : ℕ} {whole : Option ℕ} (below : ℕ → Option ℕ) → (1 ≤ h) × (whole ≡ below (a + width (h - 1))) → j ≡ 2 * i + 2 → r ≡ found_at m (below (leftmost (h - 1) j - m))
        → r ≡ found_at m whole
    to_right {j} below (above, is) e found =
        let z : h ≡ suc (h - 1) = omega arith in
        let f : leftmost (h - 1) j - m ≡ a + width (h - 1) = omega (arith, ap (λ (g : ℕ). leftmost g i) z, ap (leftmost (h - 1)) e, leftmost_right (h - 1) i, s.has_height.from) in
        found ∙ ap (found_at m) (ap below f ∙ sym is)

    to_here : {whole : Option ℕ} → (h ≡ 0) × (whole ≡ some a) → i ≡ found_at m whole
    to_here (z, is) = rw is (omega (arith, s.has_height.from, ap (λ (g : ℕ). leftmost g i) z, leftmost_leaf i))

    -- the children of a node over leaves fit
    around_over_is : (h a : ℕ) → AroundFits (around_over L h a)
    around_over_is zero a = tt
    around_over_is (suc g) a = (over_fits additive L s.bounded g a, over_fits additive L s.bounded g (a + width g))

    -- What a step from the node says, taken by what was read there.
    module _ {x : Around} (read : x ≡ around_of m at i) where
      pub around_fits : AroundFits x
      around_fits = rw (read ∙ around_is h s.has_height) (around_over_is h a)

      says : (by : By) {d : EctBarDescent} → step_at by x ≡ d → After L by h a d
      says by is = subst (After L by h a) (ap (step_at by) (sym (around_is h s.has_height) ∙ sym read) ∙ is) (after L by h a)

      -- by sums
      module _ {d : PDescent} (step : d ≡ step_at_p x) where
        says_p : {e : PDescent} → d ≡ e → After L sums h a (as_ect e)
        says_p is = says sums (ap as_ect (sym step ∙ is))

        pub above_left_p : d ≡ Left → 1 ≤ h
        above_left_p is = (says_p is).0

        pub above_right_p : d ≡ Right → 1 ≤ h
        above_right_p is = (says_p is).0

        pub left_p : {j r : ℕ} → d ≡ Left → j ≡ 2 * i + 1 → r ≡ found_at m (search_p L (h - 1) (leftmost (h - 1) j - m)) → r ≡ found_at m (search_p L h a)
        left_p is = to_left (search_p L (h - 1)) (says_p is)

        pub right_p : {j r : ℕ} → d ≡ Right → j ≡ 2 * i + 2 → r ≡ found_at m (search_p L (h - 1) (leftmost (h - 1) j - m)) → r ≡ found_at m (search_p L h a)
        right_p is = to_right (search_p L (h - 1)) (says_p is)

        pub here_p : d ≡ Here → i ≡ found_at m (search_p L h a)
        here_p is = to_here (says_p is)

        pub nothing_p : d ≡ Nothing → nowhere ≡ found_at m (search_p L h a)
        nothing_p is = sym (ap (found_at m) (says_p is))

      -- by ects
      module _ {d : EctBarDescent} (step : d ≡ step_at_ect x) where
        says_ect : {e : EctBarDescent} → d ≡ e → After L ects h a e
        says_ect is = says ects (sym step ∙ is)

        pub above_right_ect : d ≡ bar.Right → 1 ≤ h
        above_right_ect is = (says_ect is).0

        pub above_middle_ect : d ≡ bar.RightP → 1 ≤ h
        above_middle_ect is = (says_ect is).0

        pub above_left_ect : d ≡ bar.Left → 1 ≤ h
        above_left_ect is = (says_ect is).0

        pub right_ect : {j r : ℕ} → d ≡ bar.Right → j ≡ 2 * i + 2 → r ≡ found_at m (search_ect L (h - 1) (leftmost (h - 1) j - m)) → r ≡ found_at m (search_ect L h a)
        right_ect is = to_right (search_ect L (h - 1)) (says_ect is)

        pub middle_ect : {j r : ℕ} → d ≡ bar.RightP → j ≡ 2 * i + 2 → r ≡ found_at m (search_p L (h - 1) (leftmost (h - 1) j - m)) → r ≡ found_at m (search_ect L h a)
        middle_ect is = to_right (search_p L (h - 1)) (says_ect is)

        pub left_ect : {j r : ℕ} → d ≡ bar.Left → j ≡ 2 * i + 1 → r ≡ found_at m (search_ect L (h - 1) (leftmost (h - 1) j - m)) → r ≡ found_at m (search_ect L h a)
        left_ect is = to_left (search_ect L (h - 1)) (says_ect is)

        pub here_ect : d ≡ bar.Here → i ≡ found_at m (search_ect L h a)
        here_ect is = to_here (says_ect is)

        pub nothing_ect : d ≡ bar.Nothing → nowhere ≡ found_at m (search_ect L h a)
        nothing_ect is = sym (ap (found_at m) (says_ect is))

-- what reading at a node leaves to show, and each of the two searches
pub ruleset reads = (rules, node_small, leaf_read, inner_read, left_small, right_small)

pub ruleset descends = (rules, node_small, around_fits, falls, left_child, right_child)

pub ruleset by_sums = (descends, above_left_p, above_right_p, left_p, right_p, here_p, nothing_p)

pub ruleset by_ects = (descends, above_right_ect, above_middle_ect, above_left_ect, right_ect, middle_ect, left_ect, here_ect, nothing_ect)

-- the answers ------------------------------------------------------------------------------------------------------------------

-- A position that a search from the root answers, where every answer is the leaf of a task.
module _ {m r : ℕ} (few : m ≤ INNER) where
  pub none_at : (o : Option ℕ) → ((x : ℕ) → o ≡ some x → x < TASKS) → r ≡ found_at m o → r ≡ nowhere → o ≡ none
  none_at none small is y = refl
  none_at (some x) small is y = absurd (omega (arith, small x refl))

  pub some_at : (o : Option ℕ) → ((x : ℕ) → o ≡ some x → x < TASKS) → r ≡ found_at m o → (r ≡ nowhere → ⊥) → (m ≤ r) × (r - m < TASKS) × (o ≡ some (r - m))
  some_at none small is ne = absurd (ne is)
  some_at (some x) small is ne = let z : x ≡ r - m = omega arith in (omega arith, omega (arith, small x refl), ap some z)

-- the task of the answer
pub task_is : (tasks : List ℕ) (o : Option ℕ) (x : ℕ) (id : LocalId) → o ≡ some x → id.0 ≡ get_or tasks x 0 → Some id ≡ responsible_of tasks o
task_is tasks o x id q e = rw q (ap Some (λ t. record { 0 = e t }))
