-- The node over a range of leaves has the values of the range.
use mathlib.Core.Path.{◌≡◌, refl, sym, ap, ◌∙◌}
use mathlib.Core.Bool.{Bool, false}
use mathlib.Core.Logic.{inl, inr}
use Prim.Native.Nat.{ℕ, zero, suc, ◌+◌, ◌-◌, ◌≤◌}
use native.Mathlib.Omega.{arith}
use native.Mathlib.Nat.{add-zero}
use Rattle.integers.proofs.Bools.{bool}
use Rattle.scheduling.proofs.LeafRanges as range
use Rattle.trees.specs.declared.theta_lambda_node.Node.{Node}
use Rattle.trees.specs.Nodes.{join_of}
use Rattle.trees.specs.Shapes.{width, node_over}
use Rattle.trees.specs.Leaves.{Leaf, empty, white, gray, in_theta, in_lambda, leaf_node}
use Rattle.trees.proofs.Heights.{once, twice}
use Rattle.trees.proofs.ArrayTrees.{over_leaf, over_join}

-- a leaf more that is not white
pub not_white : (w g : ℕ → Bool) (e p : ℕ → ℕ) (a d x : ℕ) → a + d ≡ x → w x ≡ false
    → (range.sum w g e p a (suc d) ≡ range.sum w g e p a d) × (range.ect w g e p a (suc d) ≡ range.ect w g e p a d)
not_white w g e p a d x z y = elim (bool (g x)) [
  | inl v ↦ (let l = range.gray w g e p a d x z y v in (l.s, l.t))
  | inr v ↦ (let l = range.no_leaf w g e p a d x z y v in (l.s, l.t))
]

module _ (colour : ℕ → Leaf) (e p : ℕ → ℕ) where
  abbrev leaf : ℕ → Node
  leaf k = leaf_node (colour k) (e k) (p k)

  abbrev w : ℕ → Bool
  w k = in_theta (colour k)

  abbrev g : ℕ → Bool
  g k = in_lambda (colour k)

  -- the four values of a node are those of d leaves from a on
  pub record Holds (n : Node) (a d : ℕ) : Type 0 where
    pub ect : n.ect ≡ range.ect w g e p a d
    pub sum : n.sum_of_processing_times ≡ range.sum w g e p a d
    pub ect_bar_of : n.ect_bar ≡ range.ect_bar_of w g e p a d
    pub sum_bar : n.sum_of_processing_times_bar ≡ range.sum_bar w g e p a d

  one : (a : ℕ) → range.Values w g e p a 0 0 0 0 0 → (c : Leaf) → colour a ≡ c → Holds (leaf_node c (e a) (p a)) a 1
  one a b empty z =
      let s = range.no_leaf w g e p a 0 a (add-zero a) (ap in_theta z) (ap in_lambda z) in
      record { ect = omega arith; sum = omega arith; ect_bar_of = omega arith; sum_bar = omega arith }
  one a b white z =
      let s = range.white w g e p a 0 a (add-zero a) (ap in_theta z) in
      record { ect = omega arith; sum = omega arith; ect_bar_of = omega arith; sum_bar = omega arith }
  one a b gray z =
      let s = range.gray w g e p a 0 a (add-zero a) (ap in_theta z) (ap in_lambda z) in
      record { ect = omega arith; sum = omega arith; ect_bar_of = omega arith; sum_bar = omega arith }

  -- two ranges beside each other
  pub both : (l r : Node) (a b c : ℕ) → Holds l a b → Holds r (a + b) c → Holds (join_of l r) a (b + c)
  unfolding join_of
  both l r a b c x y =
      let j = range.join w g e p a b c in
      record {
        ect = rw (x.ect, y.ect, y.sum) (sym j.ects);
        sum = rw (x.sum, y.sum) (sym j.sums);
        ect_bar_of = rw (x.ect, x.ect_bar_of, y.sum, y.ect_bar_of, y.sum_bar) (sym j.ect_bars);
        sum_bar = rw (x.sum, x.sum_bar, y.sum, y.sum_bar) (sym j.sum_bars);
      }

  pub over_holds : (h a : ℕ) → Holds (node_over join_of leaf h a) a (width h)
  over_holds zero a = rw (over_leaf join_of leaf a, once) (one a (range.blank w g e p a) (colour a) refl)
  over_holds (suc h) a = rw (over_join join_of leaf h a, twice h)
      (both (node_over join_of leaf h a) (node_over join_of leaf h (a + width h)) a (width h) (width h) (over_holds h a) (over_holds h (a + width h)))

  -- with a gray task the ect is no earlier
  pub over_later : (h a : ℕ) → (node_over join_of leaf h a).ect ≤ (node_over join_of leaf h a).ect_bar
  over_later h a = omega (arith, (over_holds h a).ect, (over_holds h a).ect_bar_of, (range.bars w g e p a (width h)).later)

  -- leaves that are empty from n on make no difference: a node over all leaves has the values of the first n
  pub first_hold : (h n : ℕ) → n ≤ width h → ((j : ℕ) → n ≤ j → colour j ≡ empty) → let v = node_over join_of leaf h 0 in
      (v.sum_of_processing_times ≡ range.sum w g e p 0 n) × (v.ect ≡ range.ect w g e p 0 n) × (v.ect_bar ≡ range.ect_bar_of w g e p 0 n)
  first_hold h n q past =
      let z : n + (width h - n) ≡ width h = omega arith in
      let t = rw z at (range.past w g e p 0 n (width h - n) (λ j r. ap in_theta (past j (omega arith))) (λ j r. ap in_lambda (past j (omega arith)))) in
      let v = over_holds h 0 in
      (v.sum ∙ t.0, v.ect ∙ t.1, v.ect_bar_of ∙ t.2)
