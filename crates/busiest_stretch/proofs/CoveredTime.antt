-- A stretch that slides one unit on loses the unit it leaves and wins the unit it reaches. So covered time stops rising only where a task starts at the stretch's
-- start, or ends at its end.
use mathlib.Core.Path.{◌≡◌, sym, ap, ◌∙◌}
use mathlib.Core.Bool.{Bool, true, ◌||◌}
use mathlib.Core.Logic.{◌⊎◌, inl, inr}
use Prim.Native.Nat.{ℕ, ◌+◌, ◌-◌, ◌≤◌, ◌<◌, min, max}
use native.Mathlib.Omega.{arith}
use native.Mathlib.Decide.{dec_le}
use lib.Dec.{eqb}
use borrow.Author.Tests.{eqb-true, eqb-false}
use Rattle.integers.proofs.Bools.{or_true, or_false}
use Rattle.scheduling.specs.Scheduling.{natural, Tasks, total}
use Rattle.scheduling.proofs.Sets.{Empty, top, total_ext, total_mono, total_part}
use Rattle.scheduling.proofs.Joins.{total_sum}
use Rattle.busiest_stretch.specs.StretchMoments.{common_in, common_at, covered_in}

left : (a y : ℕ) → y ≤ a → max a y ≡ a
left a y h = omega arith

right : (a y : ℕ) → a < y → max a y ≡ y
right a y h = omega arith

before : (a b z : ℕ) → (a ≤ z) ⊎ (z + 1 < a) → min b (z + 1 + 1) - max a (z + 1) ≤ min b (z + 1) - max a z
before a b z (inl h) = omega arith
before a b z (inr h) = omega arith

after : (a b v : ℕ) → (b ≤ v) ⊎ (v + 1 < b) → min b (v + 1) - max a v ≤ min b (v + 1 + 1) - max a (v + 1)
after a b v (inl h) = omega arith
after a b v (inr h) = omega arith

-- ---- one task, from a to b
module _ (a b : ℕ) where
  -- a stretch in two parts
  pub common_split : (x y z : ℕ) → x ≤ y → y ≤ z → common_in a b x z ≡ common_in a b x y + common_in a b y z
  unfolding common_in
  common_split x y z p q = elim (dec_le y a) [ yes h ↦ rw (left a y h) (omega arith) | no h ↦ rw (right a y (omega arith)) (omega arith) ]

  -- the unit left, and the unit reached
  common_slide : (w x : ℕ) → common_in a b (x + 1) (x + 1 + w) + common_in a b x (x + 1) ≡ common_in a b x (x + w) + common_in a b (x + w) (x + w + 1)
  common_slide w x =
      let e : x + 1 + w ≡ x + w + 1 = omega arith in
      omega (arith, common_split x (x + 1) (x + 1 + w) (omega arith) (omega arith), common_split x (x + w) (x + w + 1) (omega arith) (omega arith), ap (common_in a b x) e)

  -- a task that does not start at z + 1 is on at z where it is on at z + 1
  on_before : (z : ℕ) → (a ≡ z + 1 → ⊥) → common_in a b (z + 1) (z + 1 + 1) ≤ common_in a b z (z + 1)
  unfolding common_in
  on_before z ne = before a b z (elim (dec_le a z) [ yes h ↦ inl h | no h ↦ inr (omega arith) ])

  -- and one that does not end at v + 1 is on at v + 1 where it is on at v
  on_after : (v : ℕ) → (b ≡ v + 1 → ⊥) → common_in a b v (v + 1) ≤ common_in a b (v + 1) (v + 1 + 1)
  unfolding common_in
  on_after v ne = after a b v (elim (dec_le b v) [ yes h ↦ inl h | no h ↦ inr (omega arith) ])

-- no more than the task lasts
pub common_short : (a d x y : ℕ) → common_in a (a + d) x y ≤ d
unfolding common_in
common_short a d x y = omega arith

-- ---- all tasks
module _ (M : Tasks natural) where
  -- tasks cover no more than they last together
  pub covered_short : (w x k : ℕ) → k < M.count
      → total (common_at M w x) k + common_at M w x k ≤ total M.duration M.count
  covered_short w x k q =
      omega (arith, total_part (common_at M w x) M.count k q, total_mono (common_at M w x) M.duration M.count (λ j r. common_short (M.earliest j) (M.duration j) x (x + w)))

  -- the units that are left and reached: a stretch of length 1 is covered as often as a task is on then
  slide : (w x : ℕ) → covered_in M w (x + 1) + covered_in M 1 x ≡ covered_in M w x + covered_in M 1 (x + w)
  slide w x =
      total_sum (common_at M w (x + 1)) (common_at M 1 x) M.count
      ∙ total_ext (λ k. common_at M w (x + 1) k + common_at M 1 x k) (λ k. common_at M w x k + common_at M 1 (x + w) k) M.count (λ k q. common_slide (M.earliest k) (M.earliest k + M.duration k) w x)
      ∙ sym (total_sum (common_at M w x) (common_at M 1 (x + w)) M.count)

  -- Covered time rises up to z + 1 and not beyond: a task starts there, or ends where the stretch ends.
  pub edge : (w z : ℕ) → covered_in M w z < covered_in M w (z + 1) → covered_in M w (z + 1 + 1) ≤ covered_in M w (z + 1)
      → (k : ℕ) × (k < M.count) × ((M.earliest k ≡ z + 1) ⊎ (M.earliest k + M.duration k ≡ z + 1 + w))
  edge w z rise fall = elim (top meets (λ k. 0) M.count) [ inl none ↦ absurd (no_edge none) | inr t ↦ (t.at, t.small, read t.at t.mem) ]
    where
      starts : ℕ → Bool
      starts k = eqb (M.earliest k) (z + 1)

      ends : ℕ → Bool
      ends k = eqb (M.earliest k + M.duration k) (z + 1 + w)

      meets : ℕ → Bool
      meets k = starts k || ends k

      read : (k : ℕ) → meets k ≡ true → (M.earliest k ≡ z + 1) ⊎ (M.earliest k + M.duration k ≡ z + 1 + w)
      read k h = elim (or_true (starts k) (ends k) h) [ inl y ↦ inl (eqb-true (M.earliest k) (z + 1) y) | inr y ↦ inr (eqb-true (M.earliest k + M.duration k) (z + 1 + w) y) ]

      no_edge : Empty meets M.count → ⊥
      no_edge none =
          let e : z + 1 + w ≡ z + w + 1 = omega arith in
          let no_start : (k : ℕ) → k < M.count → M.earliest k ≡ z + 1 → ⊥ = λ k q. eqb-false (M.earliest k) (z + 1) (or_false (starts k) (ends k) (none k q)).0 in
          let no_end : (k : ℕ) → k < M.count → M.earliest k + M.duration k ≡ z + w + 1
          → ⊥ = λ k q y. eqb-false (M.earliest k + M.duration k) (z + 1 + w) (or_false (starts k) (ends k) (none k q)).1 (y ∙ sym e) in
          let before = total_mono (common_at M 1 (z + 1)) (common_at M 1 z) M.count (λ k q. on_before (M.earliest k) (M.earliest k + M.duration k) z (no_start k q)) in
          let after = total_mono (common_at M 1 (z + w)) (common_at M 1 (z + w + 1)) M.count (λ k q. on_after (M.earliest k) (M.earliest k + M.duration k) (z + w) (no_end k q)) in
          omega (arith, slide w z, slide w (z + 1), ap (covered_in M 1) e, before, after)
