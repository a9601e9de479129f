-- The order of a fixed schedule: a sort by moments is the sort by starts, and it is a permutation of the tasks.
use mathlib.Core.Path.{◌≡◌, sym, ap, ap₂, ◌∙◌}
use mathlib.Core.Bool.{true, false}
use mathlib.Core.List.{List}
use Prim.Native.Nat.{ℕ, ◌+◌, ◌≤◌, ◌<◌}
use native.Mathlib.Omega.{arith}
use lib.Dec.{leb}
use lib.IntN.{ℤ, pos, ◌+ℤ◌}
use lib.Signed.{le_z, ◌≤ℤ◌}
use lib.ListN.{length, get_or, take, length-take}
use borrow.Author.Tests.{le-leb, leb-true}
use Rattle.integers.specs.Limits.{TASKS, START}
use Rattle.integers.specs.FilledLists.{filled, no_tasks}
use Rattle.integers.specs.Moments.{moment, zero_at, Above, moment_at}
use Rattle.integers.specs.Orders.{index, numbers, Permutes, Ordered}
use Rattle.integers.proofs.Bools.{same_tests}
use Rattle.integers.proofs.FilledLists.{filled_at}
use mir.Syntax.{w32}
use mir.Val.{to_z, of_z}
use Rattle.integers.proofs.Ints.{ints, up, dn, up_neg, dn_neg, le_z_true, le_le_z, fits_show, back}
use Rattle.integers.proofs.MomentSums.{mono, reflect, plus, plus_above, above_show, at_moment}
use Rattle.integers.proofs.Permutations.{permuted, numbers_permute, numbers_length}
use Rattle.integers.proofs.StableSort.{sort_length, sort_permutes, sort_ordered}
use Rattle.sorts.specs.Orders.{SortedBy, by_key}
use Rattle.sorts.proofs.Sorted.{sorted_as}
use Rattle.records.specs.Refusals.{StartFits}
use Rattle.fixed_schedules.specs.FixedSchedules.{start_at, by_start, order_of}
use Rattle.fixed_schedules.specs.Neighbours.{Sortable}

-- ---- the order of moments is that of starts
pub moment_test : (a b : ℤ) → Above zero_at a → Above zero_at b → leb (moment zero_at a) (moment zero_at b) ≡ le_z a b
moment_test a b p q = same_tests _ _ (λ y. le_le_z a b (reflect zero_at a b p q (leb-true _ _ y))) (λ y. le-leb _ _ (mono zero_at a b (le_z_true a b y)))

-- a start is at or after the moment 0, and its moment is far from the largest u32
pub start_above : (z : ℤ) → StartFits z → Above zero_at z
unfolding up dn
start_above z h = above_show zero_at z (omega (ints, h.low, up_neg (pos START), dn_neg (pos START)))

pub start_moment : (z : ℤ) → StartFits z → moment zero_at z ≤ zero_at + START
unfolding up dn
start_moment z h = omega (ints, h.high, at_moment zero_at z (start_above z h))

-- and it is what a machine word of it holds
pub start_word : (z : ℤ) → StartFits z → to_z w32 (of_z w32 z) ≡ z
unfolding up dn
start_word z h = back (fits_show w32 z (omega (ints, h.high)) (omega (ints, h.low, up_neg (pos START), dn_neg (pos START))))

-- a task ends by the start of another: the test in moments, and in whole numbers
pub ends_by_test : (a b : ℤ) (d : ℕ) → StartFits a → StartFits b → leb (moment zero_at a + d) (moment zero_at b) ≡ le_z (a +ℤ pos d) b
ends_by_test a b d p q =
    ap (λ (m : ℕ). leb m (moment zero_at b)) (sym (plus zero_at a d (start_above a p)))
    ∙ moment_test (a +ℤ pos d) b (plus_above zero_at a d (start_above a p)) (start_above b q)

-- ---- the sort
module _ (es : List ℤ) where
  -- a test of starts is an order
  start_whole : (j k : ℕ) → by_start es j k ≡ false → by_start es k j ≡ true
  start_whole j k h = le_le_z (start_at es k) (start_at es j) (omega ints)

  start_chain : (i j k : ℕ) → by_start es i j ≡ true → by_start es j k ≡ true → by_start es i k ≡ true
  start_chain i j k h q = le_le_z (start_at es i) (start_at es k) (omega ints)

  pub order_length : length (order_of es) ≡ length es
  order_length = sort_length (by_start es) (numbers 0 (length es)) ∙ numbers_length 0 (length es)

  -- an array that begins with the order is long enough
  pub front_length : (order : List ℕ) → take (length es) order ≡ order_of es → length es ≡ length (take (length es) order)
  front_length order e = omega (arith, ap length e, order_length)

  pub front_within : (order : List ℕ) → take (length es) order ≡ order_of es → length es ≤ length order
  front_within order e = omega (arith, front_length order e, length-take (length es) order)

  pub order_permutes : Permutes (length es) (order_of es)
  order_permutes = sort_permutes (by_start es) (length es) (numbers 0 (length es)) (numbers_permute (length es))

  -- each task has one place, and starts go from the least
  pub ordered : Ordered (length es) (λ t. get_or (order_of es) t 0) (index (order_of es)) (λ j k. start_at es j ≤ℤ start_at es k)
  ordered = permuted (length es) (order_of es) (λ j k. start_at es j ≤ℤ start_at es k) order_permutes
      (λ s t q r. le_z_true _ _ ((sort_ordered (by_start es) start_whole start_chain (length es) (numbers 0 (length es)) (numbers_permute (length es))).sorted s t q r))

  -- the code's keys are the moments
  pub key_at : (keys : List ℕ) → length es ≤ TASKS → keys ≡ filled (moment_at es) (length es) no_tasks → (k : ℕ) → k < length es → get_or keys k 0 ≡ moment_at es k
  key_at keys h e k q = ap (λ (l : List ℕ). get_or l k 0) e ∙ filled_at (moment_at es) (length es) no_tasks 0 k q h

  -- so the numbers sorted by them are the tasks by start
  pub order_is : (keys order : List ℕ) → Sortable es → keys ≡ filled (moment_at es) (length es) no_tasks → SortedBy (by_key keys) (length es) order → take (length es) order ≡ order_of es
  order_is keys order h e s = sorted_as s (by_start es) (λ j k p q.
      ap₂ leb (key_at keys h.few e j p) (key_at keys h.few e k q)
      ∙ moment_test (start_at es j) (start_at es k) (start_above (start_at es j) (h.starts j p)) (start_above (start_at es k) (h.starts k q)))

  -- and they have the tasks by the moments of their starts
  pub ordered_moments : (keys : List ℕ) → ((k : ℕ) → k < length es → get_or keys k 0 ≡ moment_at es k)
      → Ordered (length es) (λ t. get_or (order_of es) t 0) (index (order_of es)) (λ j k. get_or keys j 0 ≤ get_or keys k 0)
  ordered_moments keys at = let o = ordered in record {
    task = o.task;
    placed = o.placed;
    there = o.there;
    back = o.back;
    sorted = λ s t p q. omega (
      arith,
      at (get_or (order_of es) s 0) (o.task s (omega arith)),
      at (get_or (order_of es) t 0) (o.task t q),
      mono zero_at (start_at es (get_or (order_of es) s 0)) (start_at es (get_or (order_of es) t 0)) (o.sorted s t p q),
    );
  }
