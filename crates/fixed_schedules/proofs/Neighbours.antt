-- Neighbours of the order that do not overlap, and no two tasks that do: one test for the other.
use mathlib.Core.Path.{◌≡◌, sym, ap, ◌∙◌}
use mathlib.Core.Bool.{Bool, true, ◌||◌}
use mathlib.Core.Logic.{◌↔◌, ◌⊎◌, inl, inr, ⊎_elim}
use mathlib.Core.List.{List}
use Prim.Native.Nat.{ℕ, ◌+◌, ◌-◌, ◌≤◌, ◌<◌}
use native.Mathlib.Omega.{arith}
use native.Mathlib.Decide.{dec_lt, ℕ_discrete}
use lib.Dec.{eqb}
use lib.IntN.{ℤ, pos}
use lib.Signed.{le_z, ◌≤ℤ◌}
use lib.ListN.{length, get_or, take}
use Rattle.std.proofs.lemmas.List.{length-take-le, get_or-take}
use borrow.Author.Tests.{eqb-true, eq-eqb}
use Rattle.integers.specs.Orders.{index}
use Rattle.integers.specs.Tests.{all_below}
use Rattle.integers.proofs.Bools.{same_tests, or_true, or_right}
use Rattle.integers.proofs.Ints.{ints, up, dn, sumℤ, le_z_true, le_le_z}
use Rattle.integers.proofs.Tests.{all_at, all_show, all_ext}
use Rattle.fixed_schedules.specs.FixedSchedules.{start_at, end_at, apart_at, all_apart, order_of}
use Rattle.fixed_schedules.specs.Neighbours.{neighbours_are_apart}
use Rattle.fixed_schedules.proofs.ScheduleOrder.{ordered, order_length, front_within}

or_left : (a b : Bool) → a ≡ true → a || b ≡ true
or_left a b p = rw p

module _ (ds : List ℕ) (es : List ℤ) where
  -- the task at a place of the order, and the place of a task
  at : ℕ → ℕ
  at t = get_or (order_of es) t 0

  -- the tasks 0 to n − 1 are apart, each pair by one of its two orders
  abbrev pub Apart : ℕ → Type 0
  Apart n = (j k : ℕ) → j < n → k < n → (j ≡ k → ⊥) → (end_at ds es j ≤ℤ start_at es k) ⊎ (end_at ds es k ≤ℤ start_at es j)

  pub apart_is : (n : ℕ) → all_apart ds es n ≡ true ↔ Apart n
  apart_is n = (λ h j k p q ne. read j k (all_at _ n (all_at _ n h j p) k q) ne, λ f. all_show _ n (λ j p. all_show _ n (λ k q. show j k (f j k p q))))
    where
      read : (j k : ℕ) → apart_at ds es j k ≡ true → (j ≡ k → ⊥) → (end_at ds es j ≤ℤ start_at es k) ⊎ (end_at ds es k ≤ℤ start_at es j)
      read j k h ne = elim (or_true (eqb j k) _ h) [
        | inl y ↦ absurd (ne (eqb-true j k y))
        | inr y ↦ elim (or_true (le_z (end_at ds es j) (start_at es k)) _ y) [ inl z ↦ inl (le_z_true _ _ z) | inr z ↦ inr (le_z_true _ _ z) ]
      ]

      show : (j k : ℕ) → ((j ≡ k → ⊥) → (end_at ds es j ≤ℤ start_at es k) ⊎ (end_at ds es k ≤ℤ start_at es j)) → apart_at ds es j k ≡ true
      show j k h = elim (ℕ_discrete j k) [ yes z ↦ search (or_left, eq-eqb) | no z ↦ ⊎_elim (λ y. search (or_right, or_left, le_le_z)) (λ y. search (or_right, le_le_z)) (h z) ]

  -- neighbours apart: each task ends by the start of any later one
  later : all_below (neighbours_are_apart (order_of es) es ds) (length es - 1) ≡ true → (s t : ℕ) → s < t → t < length es → end_at ds es (at s) ≤ℤ start_at es (at t)
  unfolding at
  later h s t q r =
      let a = le_z_true (end_at ds es (at s)) (start_at es (at (s + 1))) (all_at (neighbours_are_apart (order_of es) es ds) (length es - 1) h s (omega arith)) in
      let b = (ordered es).sorted (s + 1) t (omega arith) r in
      omega (ints, a, b)

  neighbours_then_all : all_below (neighbours_are_apart (order_of es) es ds) (length es - 1) ≡ true → Apart (length es)
  unfolding at
  neighbours_then_all h j k q r ne =
      let o = ordered es in
      let s = index (order_of es) j in
      let t = index (order_of es) k in
      elim (dec_lt s t) [
        | yes l ↦ inl (rw (o.there j q, o.there k r) at (later h s t l (o.placed k r)))
        | no l ↦ (let m : t < s = elim (ℕ_discrete s t) [ yes z ↦ absurd (ne (sym (o.there j q) ∙ ap (λ (x : ℕ). get_or (order_of es) x 0) z ∙ o.there k r)) | no z ↦ omega arith ] in
            inr (rw (o.there j q, o.there k r) at (later h t s m (o.placed j q))))
      ]

  -- and no two tasks overlapping: of two neighbours it is the first that ends by the start of the other, as each task lasts
  all_then_neighbours : ((k : ℕ) → k < length es → 1 ≤ get_or ds k 0) → Apart (length es) → all_below (neighbours_are_apart (order_of es) es ds) (length es - 1) ≡ true
  unfolding at up dn
  all_then_neighbours lasts f = all_show (neighbours_are_apart (order_of es) es ds) (length es - 1) one
    where
      one : (t : ℕ) → t < length es - 1 → neighbours_are_apart (order_of es) es ds t ≡ true
      one t q =
          let o = ordered es in
          let j = at t in
          let k = at (t + 1) in
          let small : k < length es = o.task (t + 1) (omega arith) in
          let up : start_at es j ≤ℤ start_at es k = o.sorted t (t + 1) (omega arith) (omega arith) in
          let other : j ≡ k → ⊥ = λ z. omega (arith, o.back t (omega arith), o.back (t + 1) (omega arith), ap (index (order_of es)) z) in
          ⊎_elim
          (λ y. le_le_z (end_at ds es j) (start_at es k) y)
          (λ y. absurd (omega (ints, y, up, lasts k small, sumℤ (start_at es k) (pos (get_or ds k 0)))))
          (f j k (o.task t (omega arith)) small other)

  pub same_test : ((k : ℕ) → k < length es → 1 ≤ get_or ds k 0) → all_below (neighbours_are_apart (order_of es) es ds) (length es - 1) ≡ all_apart ds es (length es)
  same_test lasts = let n = length es in same_tests _ _ (λ h. (apart_is n).1 (neighbours_then_all h)) (λ h. all_then_neighbours lasts ((apart_is n).0 h))

  -- the neighbours among the first places of a list, which alone count
  pub front_apart : (order : List ℕ) → length es ≤ length order
      → all_below (neighbours_are_apart (take (length es) order) es ds) (length (take (length es) order) - 1) ≡ all_below (neighbours_are_apart order es ds) (length es - 1)
  front_apart order long =
      rw (length-take-le (length es) order long) (all_ext (neighbours_are_apart (take (length es) order) es ds) (neighbours_are_apart order es ds) (length es - 1) agree)
    where
      agree : (t : ℕ) → t < length es - 1 → neighbours_are_apart (take (length es) order) es ds t ≡ neighbours_are_apart order es ds t
      agree t q = rw (get_or-take (length es) order t 0 (omega arith), get_or-take (length es) order (t + 1) 0 (omega arith))

  -- the same of a list that has the order in its first places
  pub neighbours_are : (order : List ℕ) → take (length es) order ≡ order_of es → ((k : ℕ) → k < length es → 1 ≤ get_or ds k 0)
      → all_below (neighbours_are_apart order es ds) (length es - 1) ≡ all_apart ds es (length es)
  neighbours_are order e lasts = sym (front_apart order (front_within es order e)) ∙ rw (e, order_length es) (same_test lasts)
