-- Leaves by their colours: which of them the code takes for white or gray, their bounds, and one of them changed.
use mathlib.Core.Path.{◌≡◌, refl, sym, ap, ap₂, ◌∙◌, fun_ext}
use mathlib.Core.Bool.{true, not}
use mathlib.Core.Logic.{inl, inr}
use mathlib.Core.List.{List}
use Prim.Native.Nat.{ℕ, zero, suc, ◌+◌, ◌≤◌, ◌<◌}
use native.Mathlib.Omega.{arith}
use native.Mathlib.Decide.{dec_lt}
use lib.Dec.{eqb}
use lib.ListN.{length, get_or, set, get_or-eq_default}
use lib.Seq.{get_or-set_same, get_or-set_other}
use borrow.Author.Tests.{ne_eqb}
use Rattle.integers.proofs.Bools.{bool, clash}
use Rattle.scheduling.specs.Scheduling.{natural, Tasks, total}
use Rattle.scheduling.proofs.Sets.{total_none, total_mono, total_up, total_suc}
use Rattle.trees.specs.Nodes.{empty_of}
use Rattle.trees.specs.Descents.{gray}
use Rattle.trees.specs.NodeBounds.{LATEST, Fair, size, PlainFair, plain_size}
use Rattle.trees.specs.Arrays.{changed}
use Rattle.trees.specs.Bounds.{Bounded}
use Rattle.trees.specs.Leaves as leaves
use Rattle.trees.specs.Leaves.{Leaf, empty, white, in_theta, in_lambda, gray_at, leaf_node, start_at, duration_at}
use Rattle.trees.specs.Trees.{plain_leaf, plain_leaves, Limited}
use Rattle.trees.specs.Operations.{HasTask}
use Rattle.trees.specs.Puts.{white_part}
use Rattle.trees.proofs.ArrayTrees.{changed_is}

-- which leaves the searches take for gray
pub gray_is : (c : Leaf) (e p : ℕ) → (in_lambda c ≡ true → 1 ≤ p) → gray (leaf_node c e p) ≡ in_lambda c
unfolding gray
gray_is empty e p some = refl
gray_is white e p some = elim (bool (eqb (e + p) 0)) [ inl t ↦ rw t | inr t ↦ rw t ]
gray_is leaves.gray e p some = rw (ne_eqb (e + p) 0 (λ z. omega (arith, some refl)))

-- which leaves the code takes for white
pub white_is : (c : Leaf) (e p : ℕ) → 1 ≤ p → not (eqb (leaf_node c e p).ect 0) ≡ in_theta c
white_is empty e p q = refl
white_is white e p q = ap not (ne_eqb (e + p) 0 (λ z. omega arith))
white_is leaves.gray e p q = refl

-- without its gray task a gray leaf is an empty one
pub gray_white : (c : Leaf) (e p : ℕ) → in_lambda c ≡ true → white_part (leaf_node c e p) ≡ white_part empty_of
gray_white empty e p y = refl
gray_white white e p y = clash y refl
gray_white leaves.gray e p y = refl

-- the node of a task's leaf, by what it is told of the task
pub task_node : (c : Leaf) {J : Tasks natural} {est_order : List ℕ} {place e p : ℕ} → HasTask J est_order place e p → leaf_node c e p ≡ leaf_node c (start_at J est_order place) (duration_at J est_order place)
task_node c h = ap₂ (leaf_node c) h.start h.lasts

-- bounds
leaf_fair : (c : Leaf) (e p : ℕ) → e ≤ LATEST → 1 ≤ p → Fair (leaf_node c e p)
leaf_fair empty e p q _ = record { ect = omega arith; ect_bar_of = omega arith; sum = omega arith; blank = λ _. (refl, refl) }
leaf_fair white e p q some = record { ect = omega arith; ect_bar_of = omega arith; sum = omega arith; blank = λ z. absurd (omega arith) }
leaf_fair leaves.gray e p q some = record { ect = omega arith; ect_bar_of = omega arith; sum = omega arith; blank = λ z. absurd (omega arith) }

leaf_size : (c : Leaf) (e p : ℕ) → size (leaf_node c e p) ≤ p
leaf_size empty e p = omega arith
leaf_size white e p = omega arith
leaf_size leaves.gray e p = omega arith

-- without its gray task a leaf is that of the theta tree
pub plain_leaf_is : (c : Leaf) (e p : ℕ) → plain_leaf (in_theta c) e p ≡ white_part (leaf_node c e p)
plain_leaf_is empty e p = refl
plain_leaf_is white e p = refl
plain_leaf_is leaves.gray e p = refl

-- a sum of which only the terms below n count, each at most that of another
total_under : (f h : ℕ → ℕ) (n : ℕ) → ((k : ℕ) → f k ≤ h k) → ((k : ℕ) → n ≤ k → f k ≡ 0) → (d : ℕ) → total f d ≤ total h n
total_under f h n le past zero = omega (arith, total_none f)
total_under f h n le past (suc d) = elim (dec_lt d n) [
  | yes q ↦ omega (arith, total_mono f h (suc d) (λ k _. le k), total_up h (suc d) n q)
  | no q ↦ omega (arith, total_under f h n le past d, total_suc f d, past d (omega arith))
]

module _ (J : Tasks natural) (est_order : List ℕ) where
  -- past the tasks the leaves are empty
  pub past_empty : (ls : List Leaf) → length ls ≡ J.count → (k : ℕ) → J.count ≤ k → get_or ls k empty ≡ empty
  past_empty ls z k q = get_or-eq_default ls empty (omega arith)

  pub gray_small : (ls : List Leaf) → length ls ≡ J.count → (x : ℕ) → gray_at ls x ≡ true → x < J.count
  gray_small ls z x y = elim (dec_lt x J.count) [ yes q ↦ q | no q ↦ clash y (ap in_lambda (past_empty ls z x (omega arith))) ]

  module _ (lim : Limited J est_order) (ls : List Leaf) (z : length ls ≡ J.count) where
    pub bounded : Bounded size Fair (leaves.leaves J est_order ls)
    bounded = record {
      fair = λ k. elim (dec_lt k J.count) [
        | yes q ↦ leaf_fair (get_or ls k empty) (start_at J est_order k) (duration_at J est_order k) (lim.starts k q) (lim.lasts k q)
        | no q ↦ rw
            (past_empty ls z k (omega arith)) (leaf_fair empty 0 1 (omega arith) (omega arith))
      ];
      small = λ n. omega (
        arith,
        lim.durations,
        total_under (λ k. size (leaves.leaves J est_order ls k)) (duration_at J est_order) J.count (λ k. leaf_size (get_or ls k empty) (start_at J est_order k) (duration_at J est_order k))
            (λ k q. ap (λ (c : Leaf). size (leaf_node c (start_at J est_order k) (duration_at J est_order k))) (past_empty ls z k q)) n,
      );
    }

    pub plain_leaves_are : plain_leaves J est_order ls ≡ (λ (k : ℕ). white_part (leaves.leaves J est_order ls k))
    plain_leaves_are = fun_ext (λ k. plain_leaf_is (get_or ls k empty) (start_at J est_order k) (duration_at J est_order k))

    pub plain_bounded : Bounded plain_size PlainFair (plain_leaves J est_order ls)
    plain_bounded = rw plain_leaves_are (record {
      fair = λ k. record { ect = (bounded.fair k).ect };
      small = λ n. omega (arith, bounded.small n, total_mono (λ k. plain_size (white_part (leaves.leaves J est_order ls k))) (λ k. size (leaves.leaves J est_order ls k)) n (λ k q. (bounded.fair k).sum));
    })

-- one leaf changed
pub coloured : (ls : List Leaf) (k : ℕ) → k < length ls → (c : Leaf) {A : Type 0} (f : Leaf → ℕ → A) {g : ℕ → A} → g ≡ (λ j. f (get_or ls j empty) j)
    → {v : A} → v ≡ f c k → (λ (j : ℕ). f (get_or (set ls k c) j empty) j) ≡ changed g k v
coloured ls k q c {A} f {g} own {v} z = changed_is g (λ j. f (get_or (set ls k c) j empty) j) k v (ap (λ (x : Leaf). f x k) (get_or-set_same ls k c empty q) ∙ sym z)
    (λ j ne. ap (λ (x : Leaf). f x j) (get_or-set_other ls k j c empty ne) ∙ sym (ap (λ (h : ℕ → A). h j) own))
