-- The two searches as one: the step of each at a node, and what it says of the bar. Either the test of a child held, or none did.
use mathlib.Core.Path.{◌≡◌, refl, sym, ◌∙◌}
use mathlib.Core.Bool.{true, false, ◌&&◌, not}
use mathlib.Core.Logic.{inl, inr}
use Prim.Native.Nat.{ℕ, ◌+◌}
use native.Mathlib.Omega.{arith}
use lib.Dec.{eqb}
use borrow.Author.Tests.{eqb-true, eqb-false, eq-eqb, not-false}
use Rattle.integers.proofs.Bools.{bool, clash, and_true, and_false}
use Rattle.trees.specs.declared.theta_lambda_node.Node.{Node}
use Rattle.trees.specs.declared.theta_lambda_node.PDescent.{PDescent}
use Rattle.trees.specs.declared.theta_lambda_node.PDescent.TheVariants.{Left, Right, Here, Nothing}
use Rattle.trees.specs.declared.theta_lambda_node.EctBarDescent.TheVariants as bar
use Rattle.trees.specs.declared.theta_lambda_node.EctBarDescent.{EctBarDescent}
use Rattle.trees.specs.Nodes.{is_empty}
use Rattle.trees.specs.NodeBounds.{Fair}
use Rattle.trees.specs.declared.theta_lambda_node.Around.{Around}
use Rattle.trees.specs.declared.theta_lambda_node.Around.TheVariants as around
use Rattle.trees.specs.Descents.{gray, tested, descent_by_p, descent_by_ect}
use Rattle.trees.specs.SearchSteps.{step_at_p, step_at_ect}

-- The two searches: by sums, and by ects.
pub data By : Type 0 where
  sums : By
  ects : By

-- the bar that a search follows, and the value without a gray task
abbrev pub bar_of : By → Node → ℕ
bar_of sums n = n.sum_of_processing_times_bar
bar_of ects n = n.ect_bar

abbrev pub plain_of : By → Node → ℕ
plain_of sums n = n.sum_of_processing_times
plain_of ects n = n.ect

-- a step by sums as one of the search by ects, which goes right by sums too
abbrev pub as_ect : PDescent → EctBarDescent
as_ect Left = bar.Left
as_ect Right = bar.RightP
as_ect Here = bar.Here
as_ect Nothing = bar.Nothing

abbrev pub step_at : By → Around → EctBarDescent
step_at sums x = as_ect (step_at_p x)
step_at ects x = step_at_ect x

pub leaf_step : (by : By) (n : Node) → step_at by (around.Leaf n) ≡ elim (gray n) [ true ↦ bar.Here | false ↦ bar.Nothing ]
leaf_step sums n = elim (gray n) as (λ b. as_ect (elim b [ true ↦ Here | false ↦ Nothing ]) ≡ elim b [ true ↦ bar.Here | false ↦ bar.Nothing ]) [ true ↦ refl | false ↦ refl ]
leaf_step ects n = refl

-- a test that failed: where the value is this one, the child has no task
abbrev pub TestFailed : Node → ℕ → ℕ → Type 0
TestFailed child value this = value ≡ this → (child.ect_bar ≡ 0) × (child.sum_of_processing_times_bar ≡ 0)

tested_yes : (child : Node) (value this : ℕ) → tested child value this ≡ true → value ≡ this
unfolding tested
tested_yes child value this t = eqb-true value this (and_true (not (is_empty child)) (eqb value this) t).1

-- the bars of an empty node are 0
empty_bars : (n : Node) → is_empty n ≡ true → (n.ect_bar ≡ 0) × (n.sum_of_processing_times_bar ≡ 0)
unfolding is_empty
empty_bars n t =
    let c = eqb n.ect_bar 0 in
    let d = eqb n.sum_of_processing_times_bar 0 in
    let b = eqb n.sum_of_processing_times 0 in
    let v = and_true c d (and_true b (c && d) (and_true (eqb n.ect 0) (b && (c && d)) t).1).1 in
    (eqb-true n.ect_bar 0 v.0, eqb-true n.sum_of_processing_times_bar 0 v.1)

-- and a fair node whose sum bar is 0 is empty
no_task : (n : Node) → Fair n → n.sum_of_processing_times_bar ≡ 0 → is_empty n ≡ true
unfolding is_empty
no_task n f z =
    let blank = f.blank z in
    rw (eq-eqb n.ect 0 blank.0, eq-eqb n.sum_of_processing_times 0 (omega (arith, f.sum)), eq-eqb n.ect_bar 0 blank.1, eq-eqb n.sum_of_processing_times_bar 0 z)

pub bar_empty : (n : Node) → Fair n → eqb n.sum_of_processing_times_bar 0 ≡ is_empty n
bar_empty n f = elim (bool (eqb n.sum_of_processing_times_bar 0)) [
  | inl t ↦ t ∙ sym (no_task n f (eqb-true n.sum_of_processing_times_bar 0 t))
  | inr t ↦ elim (bool (is_empty n)) [ inl e ↦ clash (eq-eqb n.sum_of_processing_times_bar 0 (empty_bars n e).1) t | inr e ↦ t ∙ sym e ]
]

tested_no : (child : Node) (value this : ℕ) → tested child value this ≡ false → TestFailed child value this
unfolding tested
tested_no child value this t e = elim (and_false (not (is_empty child)) (eqb value this) t)
    [ inl u ↦ empty_bars child (not-false (is_empty child) u) | inr u ↦ absurd (eqb-false value this u e) ]

module _ (n l r : Node) where
  -- the value of a bar with its gray task on the left, and of one with its gray task in the sum on the right
  abbrev pub in_left : By → ℕ
  in_left by = bar_of by l + r.sum_of_processing_times

  abbrev pub in_right : By → ℕ
  in_right by = plain_of by l + r.sum_of_processing_times_bar

  -- what a step says: which value the bar has, or that each test failed
  abbrev pub Fact : EctBarDescent → By → Type 0
  Fact bar.Left by = bar_of by n ≡ in_left by
  Fact bar.RightP by = bar_of by n ≡ in_right by
  Fact bar.Right sums = ⊥
  Fact bar.Right ects = n.ect_bar ≡ r.ect_bar
  Fact bar.Here by = ⊥
  Fact bar.Nothing sums = TestFailed l (bar_of sums n) (in_left sums) × TestFailed r (bar_of sums n) (in_right sums)
  Fact bar.Nothing ects = TestFailed r n.ect_bar r.ect_bar × TestFailed r (bar_of ects n) (in_right ects) × TestFailed l (bar_of ects n) (in_left ects)

  pub fact : (by : By) → Fact (step_at by (around.Inner n l r)) by
  unfolding descent_by_p descent_by_ect
  fact sums = elim (bool (tested l (bar_of sums n) (in_left sums))) [
    | inl t ↦ rw (t, descent_by_p) (tested_yes l _ _ t)
    | inr t ↦ elim (bool (tested r (bar_of sums n) (in_right sums)))
        [ inl u ↦ rw (t, u, descent_by_p) (tested_yes r _ _ u) | inr u ↦ rw (t, u, descent_by_p) (tested_no l _ _ t, tested_no r _ _ u) ]
  ]
  fact ects = elim (bool (tested r n.ect_bar r.ect_bar)) [
    | inl t ↦ rw (t, descent_by_ect) (tested_yes r _ _ t)
    | inr t ↦ elim (bool (tested r (bar_of ects n) (in_right ects))) [
      | inl u ↦ rw (t, u, descent_by_ect) (tested_yes r _ _ u)
      | inr u ↦ elim (bool (tested l (bar_of ects n) (in_left ects)))
          [ inl v ↦ rw (t, u, v, descent_by_ect) (tested_yes l _ _ v) | inr v ↦ rw (t, u, v, descent_by_ect) (tested_no r _ _ t, tested_no r _ _ u, tested_no l _ _ v) ]
    ]
  ]
