-- The leaves become white, one after the other, and the ect of their tasks is known.
use mathlib.Core.Path.{◌≡◌, sym, ap, ap₂, ◌∙◌}
use mathlib.Core.List.{List}
use Prim.Native.Nat.{ℕ, ◌+◌, ◌≤◌, ◌<◌, max}
use native.Mathlib.Omega.{arith}
use lib.ListN.{get_or, replicate, length-replicate, get_or-replicate}
use lib.Seq.{ext_get_or}
use Rattle.integers.specs.Limits.{TASKS, DURATIONS}
use Rattle.integers.specs.FilledLists.{filled}
use Rattle.integers.proofs.FilledLists.{filled_none, filled_more, filled_length, filled_at}
use Rattle.scheduling.proofs.Sets.{total_up}
use Rattle.trees.specs.NodeBounds.{LATEST}
use Rattle.trees.specs.Ects.{raised_to}
use Rattle.trees.specs.Leaves.{Leaf, empty, white, duration_at, ect_bar_of}
use Rattle.trees.specs.Trees.{HasLeaves}
use Rattle.trees.specs.Operations.{HeldLeaves, HasTask, LeafColoured}
use Rattle.trees.proofs.RebuiltTrees.{tree_leaves}
use Rattle.trees.proofs.TasksInTurn.{ect_of_first, first_more, first_small, all_in_turn}
use Rattle.propagator.specs.declared.task_arrays.TaskArrays.{TaskArrays}
use Rattle.propagator.specs.FilledTheta.{Fillable}

module _ {tasks : TaskArrays} {words : List ℕ} (f : Fillable tasks words) where
  abbrev inner : ℕ
  inner = tasks.size.inner

  abbrev n : ℕ
  n = tasks.size.leaves

  -- the first x leaves are white
  abbrev pub up_to : ℕ → List Leaf
  up_to x = filled (λ _. white) x (replicate f.J.count empty)

  pub none_white : HasLeaves f.J f.est_order (up_to 0) inner words
  none_white = rw (filled_none (λ _. white) (replicate f.J.count empty)) (tree_leaves f.limited f.tree)

  module _ (x : ℕ) (q : x < n) where
    abbrev t : ℕ
    t = get_or tasks.reverse_mapping.now x 0

    pub task_known : t < TASKS
    task_known = omega (arith, f.task x q, f.known x q)

    -- the task that the mapping gives has its place there
    pub placed : {i : ℕ} → i ≡ get_or tasks.reverse_mapping.now x 0 → {e p : ℕ} → e ≡ get_or tasks.est.now i 0 → p ≡ get_or tasks.durations.now i 0 → HasTask f.J f.est_order x e p
    placed is s d = record {
      inside = omega (arith, f.count);
      start = s ∙ ap (λ (k : ℕ). get_or tasks.est.now k 0) (is ∙ f.task x q) ∙ f.start x q;
      lasts = d ∙ ap (λ (k : ℕ). get_or tasks.durations.now k 0) (is ∙ f.task x q) ∙ f.lasts x q;
    }

  -- the words with the first x leaves white
  abbrev pub shown : (x : ℕ) {now : List ℕ} → HasLeaves f.J f.est_order (up_to x) inner now → HeldLeaves inner now
  shown x i = record { J = f.J; est_order = f.est_order; leaves = up_to x; limited = f.limited; has = i }

  pub one_white : (x : ℕ) {now now' : List ℕ} (i : HasLeaves f.J f.est_order (up_to x) inner now) → LeafColoured white (shown x i) x now' → HasLeaves f.J f.est_order (up_to (x + 1)) inner now'
  one_white x i p = rw (filled_more (λ _. white) x (replicate f.J.count empty)) p

  -- the ect of the first x tasks
  abbrev pub Ect : ℕ → ℕ → Type 0
  Ect x ect = ect ≡ ect_of_first f.J f.est_order x

  module _ {x ect e p m : ℕ} (is : Ect x ect) (h : HasTask f.J f.est_order x e p) (z : m ≡ max ect e) where
    pub one_later : Ect (x + 1) (m + p)
    one_later = ap₂ ◌+◌ (z ∙ ap₂ max is h.start) h.lasts ∙ sym (first_more f.J f.est_order x)

    pub ect_small : m + p ≤ LATEST + DURATIONS
    ect_small = omega (
      arith,
      one_later,
      first_small f.J f.est_order f.limited (x + 1) (omega (arith, h.inside)),
      total_up (duration_at f.J f.est_order) (x + 1) f.J.count (omega (arith, h.inside)),
      f.limited.durations,
    )

  pub all_later : (x : ℕ) → x ≡ n → {ect : ℕ} → Ect x ect → ect ≡ raised_to 0 (ect_bar_of f.J f.est_order (replicate f.J.count white))
  all_later x z is = is ∙ ap (ect_of_first f.J f.est_order) (z ∙ sym f.count) ∙ sym (all_in_turn f.J f.est_order)

  pub all_white : (x : ℕ) → x ≡ n → {now : List ℕ} → HasLeaves f.J f.est_order (up_to x) inner now → HasLeaves f.J f.est_order (replicate f.J.count white) inner now
  all_white x z t = rw (← is) t
    where
      is : up_to x ≡ replicate f.J.count white
      is = ext_get_or empty (up_to x) (replicate f.J.count white)
          (filled_length (λ _. white) x (replicate f.J.count empty) ∙ length-replicate f.J.count empty ∙ sym (length-replicate f.J.count white))
          (λ k q. let r : k < f.J.count = omega (arith, filled_length (λ _. white) x (replicate f.J.count empty), length-replicate f.J.count empty) in
          filled_at (λ _. white) x (replicate f.J.count empty) empty k (omega (arith, r, z, f.count)) (omega (arith, z, f.count, length-replicate f.J.count empty))
          ∙ sym (get_or-replicate f.J.count k white empty r))
