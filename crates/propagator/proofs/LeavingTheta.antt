-- A task leaves Theta: its leaf gets another colour, and the leaf of a level's task may.
use mathlib.Core.Path.{◌≡◌, sym, ap, subst, ◌∙◌}
use mathlib.Core.Bool.{Bool, true, false}
use mathlib.Core.List.{List}
use Prim.Native.Nat.{ℕ, ◌+◌, ◌≤◌, ◌<◌}
use borrow.Author.Rules.{rules}
use native.Mathlib.Omega.{arith}
use lib.ListN.{get_or, set}
use Rattle.std.specs.Int.{from_bool}
use Rattle.integers.specs.Orders.{index}
use Rattle.integers.proofs.Bools.{clash}
use Rattle.scheduling.specs.Scheduling.{natural, Tasks}
use Rattle.trees.specs.Leaves.{Leaf}
use Rattle.trees.specs.Trees.{IsTree, HasLeaves}
use Rattle.trees.specs.Operations.{Held, HeldLeaves, HasTask, LeafColoured}
use Rattle.trees.proofs.RebuiltTrees.{tree_leaves}
use Rattle.propagator.specs.declared.task_arrays.TaskArrays.{TaskArrays}
use Rattle.propagator.specs.RunArrays.{Ordered, Arrays}
use Rattle.propagator.specs.LeavingTheta.{Movable, turn_known}

module _ {tasks : TaskArrays} {words : List ℕ} {j : ℕ} {joined : Bool} (m : Movable tasks words j joined) where
  abbrev inner : ℕ
  inner = tasks.size.inner

  abbrev pub shown : joined ≡ true → Held inner words
  shown z = record { J = m.J; est_order = m.est_order; leaves = m.leaves; limited = m.limited; tree = m.tree z }

  abbrev pub shown_leaves : HeldLeaves inner words
  shown_leaves = record { J = m.J; est_order = m.est_order; leaves = m.leaves; limited = m.limited; has = m.has }

  -- the task has its place among the leaves
  pub placed : {k : ℕ} → k ≡ get_or tasks.mapping.now j 0 → {e p : ℕ} → e ≡ get_or tasks.est.now j 0 → p ≡ get_or tasks.durations.now j 0 → HasTask m.J m.est_order k e p
  placed is {e} {p} s d = subst (λ (k : ℕ). HasTask m.J m.est_order k e p) (sym is)
      (record { inside = m.inside; start = s ∙ m.start ∙ ap m.J.earliest (sym m.task); lasts = d ∙ m.lasts ∙ ap m.J.duration (sym m.task) })

  -- that place is below the number of tasks
  pub within : {k : ℕ} → k ≡ get_or tasks.mapping.now j 0 → k < m.J.count
  within is = omega (arith, m.inside)

  -- the leaf is laid, with other names for colour and words
  pub laid_as : {c c' : Leaf} (k : ℕ) {words' words'' : List ℕ} → c ≡ c' → words' ≡ words'' → LeafColoured c' shown_leaves k words'' → LeafColoured c shown_leaves k words'
  laid_as k z e q = rw (z, e) q

  module _ (c : Leaf) {k : ℕ} (e : k ≡ get_or tasks.mapping.now j 0) where
    -- the words with the leaf in its new colour
    abbrev pub laid : {words' : List ℕ} → LeafColoured c shown_leaves k words' → HeldLeaves inner words'
    laid q = record { J = m.J; est_order = m.est_order; leaves = set m.leaves k c; limited = m.limited; has = q }

    -- the leaf is that of j, and the inner nodes are joined or are not to be
    abbrev Left : List ℕ → Bool → Type 0
    Left words' joins = LeafColoured c shown_leaves (get_or tasks.mapping.now j 0) words' × (joins ≡ true → IsTree m.J m.est_order (set m.leaves (get_or tasks.mapping.now j 0) c) inner words')

    pub all_joined : {words' : List ℕ} {joins : Bool} → IsTree m.J m.est_order (set m.leaves k c) inner words' → Left words' joins
    all_joined q = rw (← e) (tree_leaves m.limited q, λ _. q)

    pub none_joined : {words' : List ℕ} {joins : Bool} → LeafColoured c shown_leaves k words' → joins ≡ false → Left words' joins
    none_joined q not = rw (← e) (q, λ z. clash z not)

-- a task whose turn is known reaches the moment `last` alone
pub reaches : (tasks : TaskArrays) (j last : ℕ) (needed : Bool) → turn_known tasks j last needed ≡ true → get_or tasks.est.now j 0 + get_or tasks.durations.now j 0 ≡ last
reaches tasks j last needed h = search rules

-- a turn that is known or not is one or none
pub one_at_most : (taken : Bool) → from_bool taken ≤ 1
one_at_most false = omega arith
one_at_most true = omega arith

-- the task of a level may leave Theta
module _ {J : Tasks natural} {est_order lct_order : List ℕ} (G : Ordered J est_order lct_order) {tasks : TaskArrays} (arrays : Arrays J est_order tasks)
    (t : ℕ) (small : t < J.count) (j : ℕ) (z : j ≡ get_or lct_order t 0) where
  pub known_j : j < J.count
  known_j = omega (arith, z, G.by_completion_is.task t small)

  pub place_j : get_or tasks.mapping.now j 0 ≡ index est_order j
  place_j = arrays.places j (omega (arith, known_j, arrays.count))

  abbrev pub movable : {words : List ℕ} (ls : List Leaf) {joined : Bool} → HasLeaves J est_order ls tasks.size.inner words → (joined ≡ true → IsTree J est_order ls tasks.size.inner words)
      → Movable tasks words j joined
  movable ls has tree = record {
    J = J;
    est_order = est_order;
    leaves = ls;
    limited = G.limited;
    has = has;
    tree = tree;
    known = omega (arith, known_j, G.limited.count);
    inside = omega (arith, place_j, G.by_earliest_is.placed j known_j);
    task = ap (λ (x : ℕ). get_or est_order x 0) place_j ∙ G.by_earliest_is.there j known_j;
    start = arrays.starts.at j (omega (arith, known_j, arrays.count));
    lasts = arrays.lasts.at j (omega (arith, known_j, arrays.count));
  }

  pub gray_place : get_or tasks.mapping.now j 0 ≡ index est_order (get_or lct_order t 0)
  gray_place = place_j ∙ ap (λ (k : ℕ). index est_order k) z
