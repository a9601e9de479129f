-- Heights and positions in a complete binary tree.
use mathlib.Core.Path.{◌≡◌, refl, sym, ap, ◌∙◌}
use mathlib.Core.Logic.{◌⊎◌, inl, inr}
use Prim.Native.Nat.{ℕ, zero, suc, ◌+◌, ◌*◌, ◌-◌, ◌/◌, ◌^◌, ◌≤◌, ◌<◌, max}
use native.Mathlib.Omega.{arith}
use native.Mathlib.Nat.{two-pow-succ}
use native.Mathlib.Decide.{dec_lt, ℕ_discrete}
use lib.Dec.{ltb}
use borrow.Author.Tests.{ltb-true, ltb-false}
use Rattle.integers.specs.Limits.{INNER, TASKS}
use Rattle.integers.proofs.Bools.{bool}
use Rattle.trees.specs.Shapes.{width, height_from, height_for}
use Rattle.trees.specs.Arrays.{Sized, leftmost, HasHeight}

pub once : width 0 ≡ 1
unfolding width
once = refl

pub twice : (h : ℕ) → width (suc h) ≡ width h + width h
unfolding width
twice h = refl

pub width_some : (h : ℕ) → 1 ≤ width h
width_some zero = omega (arith, once)
width_some (suc h) = omega (arith, width_some h, twice h)

-- the least height -------------------------------------------------------------------------------------------------------------

pub height_on : (n f h : ℕ) → width h < n → height_from n (suc f) h ≡ height_from n f (suc h)
unfolding height_from
height_on n f h q = elim (bool (ltb (width h) n)) [ inl y ↦ rw (y, height_from) | inr y ↦ absurd (omega (arith, ltb-false (width h) n y)) ]

pub height_reached : (n f h : ℕ) → n ≤ width h → height_from n f h ≡ h
unfolding height_from
height_reached n zero h q = refl
height_reached n (suc f) h q = elim (bool (ltb (width h) n)) [ inl y ↦ absurd (omega (arith, ltb-true (width h) n y)) | inr y ↦ rw (y, height_from) ]

height_zero : (n h : ℕ) → height_from n 0 h ≡ h
unfolding height_from
height_zero n h = refl

height_enough : (n f h : ℕ) → n ≤ width h + f → n ≤ width (height_from n f h)
height_enough n zero h q = rw (height_zero n h) (omega arith)
height_enough n (suc f) h q = elim (dec_lt (width h) n)
    [ yes y ↦ rw (height_on n f h y) (height_enough n f (suc h) (omega (arith, width_some h, twice h))) | no y ↦ rw (height_reached n (suc f) h (omega arith)) (omega arith) ]

-- the tree is large enough
pub enough : (n : ℕ) → n ≤ width (height_for n)
enough n = height_enough n n 0 (omega (arith, once))

-- a tree that is less wide than another is no wider one level higher
level_more : (h m : ℕ) → width h < width m → width (suc h) ≤ width m
level_more h zero q = absurd (omega (arith, once, width_some h))
level_more zero (suc m) q = omega (arith, once, twice 0, twice m, width_some m)
level_more (suc h) (suc m) q = omega (arith, twice (suc h), twice h, twice m, level_more h m (omega (arith, twice h, twice m)))

width_power : (h : ℕ) → 2 ^ h ≡ width h
width_power zero = sym once
width_power (suc h) = omega (arith, two-pow-succ h, width_power h, twice h)

-- a higher tree is at least twice as wide
width_less : (h k : ℕ) → h < k → 2 * width h ≤ width k
width_less h zero q = absurd (omega arith)
width_less h (suc k) q = elim (dec_lt h k)
    [ yes r ↦ omega (arith, width_less h k r, twice k) | no r ↦ let z : h ≡ k = omega arith in rw z (omega (arith, twice k)) ]

wide : (h : ℕ) → h < width h
wide zero = omega (arith, once)
wide (suc h) = omega (arith, wide h, twice h)

-- the height at which a tree is wide enough, where no lower one is
height_met : (n f h k : ℕ) → h ≤ k → k ≤ h + f → n ≤ width k → ((j : ℕ) → j < k → width j < n) → height_from n f h ≡ k
height_met n zero h k q r wide_enough lower = height_zero n h ∙ omega arith
height_met n (suc f) h k q r wide_enough lower = elim (dec_lt h k) [
  | yes t ↦ height_on n f h (lower h t) ∙ height_met n f (suc h) k (omega arith) (omega arith) wide_enough lower
  | no t ↦ let z : h ≡ k = omega arith in height_reached n (suc f) h (rw z wide_enough) ∙ z
]

-- the least power of two that is n or more has that many leaves, and its logarithm is the height
pub size_is : {n w h : ℕ} → ((k : ℕ) × (w ≡ 2 ^ k)) → n ≤ w → w / 2 < max 1 n → 2 ^ h ≤ w → w < 2 * 2 ^ h → (h ≡ height_for n) × (w ≡ width h)
size_is {n} {w} {h} (k, e) leaves half from below = (same ∙ sym (height_met n n 0 k (omega arith) (omega (arith, few)) (omega (arith, is)) lower), is ∙ ap width (sym same))
  where
    is : w ≡ width k
    is = e ∙ width_power k

    same : h ≡ k
    same = elim (dec_lt h k) [
      | yes q ↦ absurd (omega (arith, width_less h k q, is, width_power h))
      | no q ↦ elim (dec_lt k h) [ yes r ↦ absurd (omega (arith, width_less k h r, is, width_power h, width_some k)) | no r ↦ omega arith ]
    ]

    lower : (j : ℕ) → j < k → width j < n
    lower j q = omega (arith, width_less j k q, is, width_some j)

    few : k ≤ n
    few = elim (dec_lt 0 k) [ yes q ↦ omega (arith, lower (k - 1) (omega arith), wide (k - 1)) | no q ↦ omega arith ]

-- six levels are enough for the leaves of the largest tree
pub low : (h : ℕ) → width h ≤ INNER → width (suc h) ≤ INNER + 1
unfolding width
low h q = level_more h 6 (omega arith)

height_low : (n f h : ℕ) → n ≤ INNER + 1 → width h ≤ INNER + 1 → width (height_from n f h) ≤ INNER + 1
height_low n zero h q r = rw (height_zero n h) r
height_low n (suc f) h q r = elim (dec_lt (width h) n)
    [ yes y ↦ rw (height_on n f h y) (height_low n f (suc h) q (low h (omega arith))) | no y ↦ rw (height_reached n (suc f) h (omega arith)) r ]

-- and not larger than the array
pub room : (n : ℕ) → n ≤ INNER + 1 → width (height_for n) ≤ INNER + 1
room n q = height_low n n 0 q (omega (arith, once))

pub few_inner : {n m : ℕ} → n ≤ TASKS → m + 1 ≡ width (height_for n) → m ≤ INNER
few_inner {n} q e = omega (arith, room n (omega arith))

-- the inner nodes of a tree of the size for n leaves
pub sized : {n inner h k : ℕ} → Sized n inner h → k ≡ n → inner + 1 ≡ width (height_for k)
sized s z = s.complete ∙ ap width s.least ∙ sym (ap (λ (n : ℕ). width (height_for n)) z)

-- positions --------------------------------------------------------------------------------------------------------------------

pub leftmost_leaf : (i : ℕ) → leftmost 0 i ≡ i
unfolding leftmost
leftmost_leaf i = refl

pub leftmost_left : (h i : ℕ) → leftmost (suc h) i ≡ leftmost h (2 * i + 1)
unfolding leftmost
leftmost_left h i = refl

leftmost_next : (h i : ℕ) → leftmost h (i + 1) ≡ leftmost h i + width h
leftmost_next zero i = omega (arith, leftmost_leaf i, leftmost_leaf (i + 1), once)
leftmost_next (suc h) i =
    let e : 2 * (i + 1) + 1 ≡ 2 * i + 1 + 1 + 1 = omega arith in
    omega (arith, leftmost_left h i, leftmost_left h (i + 1), ap (leftmost h) e, leftmost_next h (2 * i + 1), leftmost_next h (2 * i + 1 + 1), twice h)

pub leftmost_right : (h i : ℕ) → leftmost h (2 * i + 2) ≡ leftmost (suc h) i + width h
leftmost_right h i =
    let e : 2 * i + 2 ≡ 2 * i + 1 + 1 = omega arith in
    omega (arith, leftmost_left h i, ap (leftmost h) e, leftmost_next h (2 * i + 1))

leftmost_double : (h i : ℕ) → leftmost (suc h) i ≡ 2 * leftmost h i + 1
leftmost_double zero i = omega (arith, leftmost_left 0 i, leftmost_leaf i, leftmost_leaf (2 * i + 1))
leftmost_double (suc h) i = omega (arith, leftmost_left (suc h) i, leftmost_left h i, leftmost_double h (2 * i + 1))

-- the root
leftmost_root : (h : ℕ) → leftmost h 0 + 1 ≡ width h
leftmost_root zero = omega (arith, leftmost_leaf 0, once)
leftmost_root (suc h) = omega (arith, leftmost_double h 0, leftmost_root h, twice h)

pub root_height : (m h : ℕ) → m + 1 ≡ width h → HasHeight m h 0
root_height m h e = record { from = omega (arith, leftmost_root h); to = omega (arith, leftmost_root h) }

pub root_first : (m h : ℕ) → m + 1 ≡ width h → leftmost h 0 - m ≡ 0
root_first m h e = omega (arith, leftmost_root h)

-- an inner node and its children
module _ {m h i : ℕ} (s : HasHeight m (suc h) i) where
  grows : (h i : ℕ) → 2 * i + 3 ≤ leftmost (suc h) i + width (suc h)
  grows zero i = omega (arith, leftmost_left 0 i, leftmost_leaf (2 * i + 1), twice 0, once)
  grows (suc h) i = omega (arith, leftmost_left (suc h) i, grows h (2 * i + 1), twice (suc h))

  pub inner_height : i < m
  inner_height = omega (arith, grows h i, s.to)

  pub left_height : HasHeight m h (2 * i + 1)
  left_height = record { from = omega (arith, s.from, leftmost_left h i); to = omega (arith, s.to, leftmost_left h i, twice h) }

  pub right_height : HasHeight m h (2 * i + 2)
  right_height = record { from = omega (arith, s.from, leftmost_right h i); to = omega (arith, s.to, leftmost_right h i, twice h) }

-- a node of height 0 is a leaf, and no inner node
pub leaf_at : (m i : ℕ) → HasHeight m 0 i → m ≤ i
leaf_at m i s = omega (arith, s.from, leftmost_leaf i)

-- inside the array
pub height_inside : (m h i : ℕ) → HasHeight m h i → i ≤ 2 * m
height_inside m zero i s = omega (arith, s.to, leftmost_leaf i, once)
height_inside m (suc h) i s = omega (arith, inner_height s)

-- a child has a height where its parent has one: that of the parent, less one
below : (m p i : ℕ) → p < m → (i ≡ 2 * p + 1) ⊎ (i ≡ 2 * p + 2) → (h : ℕ) × HasHeight m h p → (h : ℕ) × HasHeight m h i
below m p i q side (zero, s) = absurd (omega (arith, leaf_at m p s))
below m p i q (inl z) (suc h, s) = (h, rw z (left_height s))
below m p i q (inr z) (suc h, s) = (h, rw z (right_height s))

side : (i : ℕ) → (i ≡ 0 → ⊥) → (i ≡ 2 * ((i - 1) / 2) + 1) ⊎ (i ≡ 2 * ((i - 1) / 2) + 2)
side i q = elim (ℕ_discrete i (2 * ((i - 1) / 2) + 1)) [ yes z ↦ inl z | no z ↦ inr (omega arith) ]

-- so every node of a tree has a height, after at most f steps down from the root
pub height_of : (m H : ℕ) → m + 1 ≡ width H → (f i : ℕ) → i ≤ f → i ≤ 2 * m → (h : ℕ) × HasHeight m h i
height_of m H e zero i q r = let z : i ≡ 0 = omega arith in rw z (H, root_height m H e)
height_of m H e (suc f) i q r = elim (ℕ_discrete i 0) [
  | yes z ↦ rw z (H, root_height m H e)
  | no z ↦ below m ((i - 1) / 2) i (omega arith) (side i z) (height_of m H e f ((i - 1) / 2) (omega arith) (omega arith))
]
