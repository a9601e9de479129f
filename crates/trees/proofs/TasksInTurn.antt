-- Where every leaf is white, ect_bar is the ect of the tasks one after the other, in the order of the leaves.
use mathlib.Core.Path.{◌≡◌, refl, ap, ◌∙◌}
use mathlib.Core.Bool.{Bool, true}
use mathlib.Core.List.{List}
use Prim.Native.Nat.{ℕ, zero, suc, ◌+◌, ◌≤◌, ◌<◌, max}
use native.Mathlib.Omega.{arith}
use native.Mathlib.Numerals.{add-one}
use lib.ListN.{get_or, replicate, length-replicate, get_or-replicate}
use Rattle.scheduling.specs.Scheduling.{natural, Tasks, total}
use Rattle.scheduling.proofs.Sets.{total_suc}
use Rattle.scheduling.proofs.LeafRanges as range
use Rattle.trees.specs.NodeBounds.{LATEST}
use Rattle.trees.specs.Shapes.{height_for}
use Rattle.trees.specs.Ects.{raised_to}
use Rattle.trees.specs.Leaves.{Leaf, empty, white, in_theta, in_lambda, start_at, duration_at, root, ect_bar_of}
use Rattle.trees.specs.Trees.{Limited}
use Rattle.trees.proofs.Ects.{raised_decoded}
use Rattle.trees.proofs.Heights.{enough}
use Rattle.trees.proofs.LeafColours.{past_empty}
use Rattle.trees.proofs.RangeNodes.{first_hold}

module _ (J : Tasks natural) (est_order : List ℕ) where
  abbrev e : ℕ → ℕ
  e = start_at J est_order

  abbrev p : ℕ → ℕ
  p = duration_at J est_order

  -- the ect of the first x tasks
  unfoldable pub ect_of_first : ℕ → ℕ
  ect_of_first zero = 0
  ect_of_first (suc x) = max (ect_of_first x) (start_at J est_order x) + duration_at J est_order x

  pub first_none : ect_of_first 0 ≡ 0
  unfolding ect_of_first
  first_none = refl

  pub first_more : (x : ℕ) → ect_of_first (x + 1) ≡ max (ect_of_first x) (start_at J est_order x) + duration_at J est_order x
  unfolding ect_of_first
  first_more x = rw add-one

  -- no sum wraps
  pub first_small : Limited J est_order → (x : ℕ) → x ≤ J.count → ect_of_first x ≤ LATEST + total (duration_at J est_order) x
  unfolding ect_of_first
  first_small lim zero q = omega arith
  first_small lim (suc x) q = omega (arith, first_small lim x (omega arith), lim.starts x q, total_suc p x)

  abbrev whites : List Leaf
  whites = replicate J.count white

  abbrev colour : ℕ → Leaf
  colour k = get_or whites k empty

  abbrev w : ℕ → Bool
  w k = in_theta (colour k)

  abbrev g : ℕ → Bool
  g k = in_lambda (colour k)

  is_white : (k : ℕ) → k < J.count → w k ≡ true
  is_white k q = ap in_theta (get_or-replicate J.count k white empty q)

  in_turn : (x : ℕ) → x ≤ J.count → range.ect_bar_of w g e p 0 x ≡ ect_of_first x
  unfolding ect_of_first
  in_turn zero q = (range.blank w g e p 0).tb
  in_turn (suc x) q = (range.white w g e p 0 x x (omega arith) (is_white x q)).tb ∙ ap (λ (v : ℕ). max v (e x) + p x) (in_turn x (omega arith))

  pub all_in_turn : raised_to 0 (ect_bar_of J est_order (replicate J.count white)) ≡ ect_of_first J.count
  unfolding root
  all_in_turn = raised_decoded (root J est_order whites).ect_bar
      ∙ (first_hold colour e p (height_for J.count) J.count (enough J.count) (past_empty J est_order whites (length-replicate J.count white))).2
      ∙ in_turn J.count (omega arith)
