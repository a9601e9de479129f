-- A parent's children, of which one is carried up and the other is read: whichever is carried, both are nodes of the array.
use mathlib.Core.Path.{◌≡◌, sym, ap, ◌∙◌}
use mathlib.Core.Bool.{Bool, true, false, cond}
use mathlib.Core.Logic.{⊎_elim}
use Prim.Native.Nat.{ℕ, ◌+◌, ◌*◌, ◌-◌, ◌/◌, ◌%◌, ◌<◌}
use native.Mathlib.Omega.{arith}
use lib.Dec.{eqb}
use borrow.Author.Tests.{eqb-true, eqb-false}
use Rattle.integers.proofs.Bools.{bool}
use Rattle.trees.specs.declared.theta_lambda_node.Node.{Node}
use Rattle.trees.specs.declared.theta_node.Node as plain
use Rattle.trees.specs.Puts.{white_part, Liftable}
use Rattle.trees.proofs.NodeWords.{same}

-- self with the bars of one of two nodes is that node, where both have the same ect and sum
pub bars_of : (first : Bool) (self a b : Node) {x y : ℕ} → x ≡ cond first a.ect_bar b.ect_bar
    → y ≡ cond first a.sum_of_processing_times_bar b.sum_of_processing_times_bar → white_part self ≡ white_part (cond first a b)
    → record { ect = self.ect; sum_of_processing_times = self.sum_of_processing_times; ect_bar = x; sum_of_processing_times_bar = y } ≡ cond first a b
bars_of true self a b ex ey e = same _ a (ap (λ (w : plain.Node). w.ect) e) (ap (λ (w : plain.Node). w.sum_of_processing_times) e) ex ey
bars_of false self a b ex ey e = same _ b (ap (λ (w : plain.Node). w.ect) e) (ap (λ (w : plain.Node). w.sum_of_processing_times) e) ex ey

-- a node with an even number is its parent's right child
even : {i : ℕ} → 0 < i → (i % 2 ≡ 1 → ⊥) → i ≡ 2 * ((i - 1) / 2) + 2
even {i} q n = let z : i % 2 ≡ 0 = omega (arith, n) in let h : i ≡ 2 * (i / 2) = omega (arith, z) in omega (arith, h, q)

-- node i is n and its sibling s: they are the parent's children, n the left one where i is odd
module _ {at : ℕ → Node} {i : ℕ} {n : Node} (c : Liftable at i n) {s : Node} (es : s ≡ at (i + 2 * (i % 2) - 1)) where
  sides : (cond (eqb (i % 2) 1) n s ≡ at (2 * ((i - 1) / 2) + 1)) × (cond (eqb (i % 2) 1) s n ≡ at (2 * ((i - 1) / 2) + 2))
  sides = ⊎_elim
      (λ y. let odd = eqb-true (i % 2) 1 y in rw y (c.is ∙ ap at (omega (arith, odd)), es ∙ ap at (omega (arith, odd))))
      (λ y. let right = even c.not_root (eqb-false (i % 2) 1 y) in rw y (es ∙ ap at (omega (arith, right)), c.is ∙ ap at right))
      (bool (eqb (i % 2) 1))

  -- The nodes read at the children's places are the children once they have the bars of n and s.
  module _ {p l r : ℕ} (is_up : p ≡ (i - 1) / 2) (is_left : l ≡ 2 * p + 1) (is_right : r ≡ 2 * p + 2) {x y x' y' : Node} (ex : x ≡ at l) (ey : y ≡ at r)
      (with_x : white_part x ≡ white_part (cond (eqb (i % 2) 1) n s) → x' ≡ cond (eqb (i % 2) 1) n s)
      (with_y : white_part y ≡ white_part (cond (eqb (i % 2) 1) s n) → y' ≡ cond (eqb (i % 2) 1) s n) where
    pub children : (x' ≡ at (2 * ((i - 1) / 2) + 1)) × (y' ≡ at (2 * ((i - 1) / 2) + 2))
    children = (with_x (ap white_part (ex ∙ ap at (omega arith) ∙ sym sides.0)) ∙ sides.0, with_y (ap white_part (ey ∙ ap at (omega arith) ∙ sym sides.1)) ∙ sides.1)
