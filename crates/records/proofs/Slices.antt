-- The used and the unused part of an array: what is said of a part alone, said of the whole.
use mathlib.Core.Path.{◌≡◌, refl, sym, ap, ◌∙◌}
use mathlib.Core.Bool.{Bool, true, false, ◌&&◌}
use mathlib.Core.List.{List, [], ◌∷◌}
use Prim.Native.Nat.{ℕ, zero, suc, ◌+◌, ◌-◌, ◌≤◌, ◌<◌}
use native.Mathlib.Omega.{arith}
use native.Mathlib.Decide.{dec_lt}
use native.Mathlib.Numerals.{add-one}
use lib.Dec.{leb, eqb}
use lib.ListN.{length, get_or, take, drop, length-drop}
use Rattle.std.proofs.lemmas.List.{get_or-drop}
use Rattle.std.proofs.lemmas.List.Sums.{sum_by-cons}
use lib.Seq.{length-take-le, get_or-take}
use borrow.Author.Tests.{eqb-true, eq-eqb}
use Rattle.std.specs.Prelude.{sum}
use Rattle.integers.specs.Limits.{TASKS, DURATIONS}
use Rattle.integers.specs.Tests.{all_below}
use Rattle.integers.proofs.Bools.{same_tests, and_left, and_right, and_is}
use Rattle.integers.proofs.Tests.{all_at, all_show, all_ext}
use Rattle.scheduling.specs.Scheduling.{total}
use Rattle.scheduling.proofs.Sets.{total_none, total_more, total_ext}
use Rattle.records.specs.declared.record.DisjunctivePropagator.{DisjunctivePropagator}
use Rattle.records.specs.Records.{count_within, total_of_true, lawful_record, lasts_at, holds_zero, unused_at, unused_is_zero}
use Rattle.records.proofs.Lawful.{unused_task, unused_show, unused_read}

-- a sum with its first number apart, and the sum of a list
pub total_first : (f : ℕ → ℕ) (n : ℕ) → total f (n + 1) ≡ f 0 + total (λ k. f (suc k)) n
total_first f zero = omega (arith, total_more f 0, total_none f, total_none (λ k. f (suc k)))
total_first f (suc n) =
    let rest : ℕ → ℕ = λ k. f (suc k) in
    omega (arith, total_more f (suc n), total_first f n, ap (total f) (add-one n), total_more rest n, ap (total rest) (add-one n))

pub total_sum : (l : List ℕ) → total (λ k. get_or l k 0) (length l) ≡ sum l
total_sum [] = total_none _
total_sum (x ∷ xs) = ap (total (λ k. get_or (x ∷ xs) k 0)) (sym (add-one (length xs))) ∙ total_first (λ k. get_or (x ∷ xs) k 0) (length xs) ∙ ap (λ (s : ℕ). x + s) (total_sum xs) ∙ sym (sum_by-cons (λ x. x) x xs)

module _ (ds : List ℕ) (n : ℕ) (few : n ≤ length ds) where
  pub front_lasts : all_below (lasts_at (take n ds)) (length (take n ds)) ≡ all_below (lasts_at ds) n
  front_lasts = ap (all_below (lasts_at (take n ds))) (length-take-le n ds few) ∙ all_ext _ _ n (λ k q. ap (leb 1) (get_or-take n ds k 0 q))

  pub front_total : total (λ k. get_or (take n ds) k 0) (length (take n ds)) ≡ total (λ k. get_or ds k 0) n
  front_total = ap (total (λ k. get_or (take n ds) k 0)) (length-take-le n ds few) ∙ total_ext _ _ n (λ k q. get_or-take n ds k 0 q)

  pub rest_zero : length ds ≡ TASKS → all_below (holds_zero (drop n ds)) (length (drop n ds)) ≡ unused_is_zero ds n
  rest_zero long = same_tests _ _ (λ h. all_show (unused_at ds n) TASKS (λ k q. elim (dec_lt k n) [ yes s ↦ unused_task ds n k s | no s ↦ unused_show ds n k (there h k s q) ]))
      (λ h. all_show (holds_zero (drop n ds)) (length (drop n ds)) (λ j q. eq-eqb _ 0 (here h j q)))
    where
      there : all_below (holds_zero (drop n ds)) (length (drop n ds)) ≡ true → (k : ℕ) → (k < n → ⊥) → k < TASKS → get_or ds k 0 ≡ 0
      there h k s q =
          let e : n + (k - n) ≡ k = omega arith in
          ap (λ (j : ℕ). get_or ds j 0) (sym e) ∙ sym (get_or-drop n ds (k - n) 0) ∙ eqb-true _ 0 (all_at (holds_zero (drop n ds)) (length (drop n ds)) h (k - n) (omega (arith, length-drop n ds, long)))

      here : unused_is_zero ds n ≡ true → (j : ℕ) → j < length (drop n ds) → get_or (drop n ds) j 0 ≡ 0
      here h j q = get_or-drop n ds j 0 ∙ unused_read ds n (n + j) (omega arith) (all_at (unused_at ds n) TASKS h (n + j) (omega (arith, length-drop n ds, long)))

-- The tests of a record, as the code asks them of the two parts. A stored total that is the sum is tested in its place.
module _ (r : DisjunctivePropagator) (few : r.count ≤ TASKS) (long : length r.durations ≡ TASKS) where
  in_parts : (l s t d u : Bool) → (t ≡ true → d ≡ s) → ((l && t) && d) && u ≡ l && (s && (t && u))
  in_parts false s t d u e = refl
  in_parts true s false d u e = sym (and_right s false refl)
  in_parts true s true d u e = ap (λ (b : Bool). b && u) (e refl)

  module _ (h : count_within r.count ≡ true) (used rest : List ℕ) (f : used ≡ take r.count r.durations) (b : rest ≡ drop r.count r.durations) where
    lawful_parts : ((all_below (lasts_at used) (length used) && total_of_true r.total used (length used)) && leb r.total DURATIONS) && all_below (holds_zero rest) (length rest) ≡ lawful_record r
    unfolding lawful_record
    lawful_parts =
        let le : r.count ≤ length r.durations = omega (arith, few, long) in
        let sum : ℕ = total (λ k. get_or r.durations k 0) r.count in
        rw (f, b, front_lasts r.durations r.count le, front_total r.durations r.count le, rest_zero r.durations r.count le long)
        (in_parts _ (leb sum DURATIONS) (eqb r.total sum) _ _ (λ e. ap (λ (t : ℕ). leb t DURATIONS) (eqb-true r.total sum e)) ∙ sym (and_is _ _ h))

    -- the first two leave v, and the third w
    module _ {v w : Bool} (first : v ≡ all_below (lasts_at used) (length used) && total_of_true r.total used (length used)) (third : w ≡ v && leb r.total DURATIONS) where
      passed : w && all_below (holds_zero rest) (length rest) ≡ lawful_record r
      passed = ap (λ (x : Bool). x && all_below (holds_zero rest) (length rest)) (third ∙ ap (λ (x : Bool). x && leb r.total DURATIONS) first) ∙ lawful_parts

      pub lawful_last : w ≡ true → {z : Bool} → z ≡ all_below (holds_zero rest) (length rest) → z ≡ lawful_record r
      lawful_last y e = e ∙ sym (and_is w _ y) ∙ passed

      pub lawful_not : w ≡ false → w ≡ lawful_record r
      lawful_not y = y ∙ sym (and_left w _ y) ∙ passed

-- what two tests leave, of which the second is tried where the first is passed
pub second_tried : {a b r s v : Bool} → r ≡ a → r ≡ true → v ≡ s → s ≡ b → v ≡ a && b
second_tried {a} {b} e y is f = is ∙ f ∙ sym (and_is a b (sym e ∙ y))

pub first_failed : {a r v : Bool} (b : Bool) → r ≡ a → r ≡ false → v ≡ r → v ≡ a && b
first_failed {a} b e y is = is ∙ y ∙ sym (and_left a b (sym e ∙ y))
