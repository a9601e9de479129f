-- The test of a record says what a lawful record is.
use mathlib.Core.Path.{◌≡◌}
use mathlib.Core.Bool.{Bool, true, false, not}
use mathlib.Core.Logic.{inl, inr, ◌↔◌}
use mathlib.Core.List.{List}
use Prim.Native.Nat.{ℕ, ◌≤◌, ◌<◌}
use native.Mathlib.Omega.{arith}
use native.Mathlib.Decide.{dec_lt}
use lib.Dec.{ltb, eqb}
use lib.ListN.{get_or}
use borrow.Author.Tests.{leb-true, ltb-true, lt-ltb, eqb-true, eq-eqb}
use Rattle.integers.specs.Limits.{TASKS}
use Rattle.integers.specs.Tests.{all_below}
use Rattle.integers.proofs.Bools.{or_true, or_right}
use Rattle.integers.proofs.Tests.{all_at, all_show}
use Rattle.records.specs.declared.record.DisjunctivePropagator.{DisjunctivePropagator}
use Rattle.records.specs.Records.{count_within, lasts_at, unused_at, unused_is_zero, lawful_record, Lawful}
use Rattle.records.proofs.TestsInOrder.{said_yes, as_facts, as_tests}

-- the test of the number of tasks
pub count_is : (n : ℕ) → count_within n ≡ true ↔ ((1 ≤ n) × (n ≤ TASKS))
count_is n = (λ h. search as_facts, λ f. search as_tests)

pub few_said : {n : ℕ} {r : Bool} → r ≡ count_within n → not r ≡ false → n ≤ TASKS
few_said {n} {r} e h = ((count_is n).0 (said_yes e h)).1

-- a place of a task, and one that is unused
module _ (durations : List ℕ) (n k : ℕ) where
  pub unused_task : k < n → unused_at durations n k ≡ true
  unfolding unused_at
  unused_task h = rw (lt-ltb k n h)

  pub unused_show : get_or durations k 0 ≡ 0 → unused_at durations n k ≡ true
  unfolding unused_at
  unused_show d = or_right (ltb k n) _ (eq-eqb (get_or durations k 0) 0 d)

  pub unused_read : n ≤ k → unused_at durations n k ≡ true → get_or durations k 0 ≡ 0
  unfolding unused_at
  unused_read q h = elim (or_true (ltb k n) (eqb (get_or durations k 0) 0) h) [ inl y ↦ absurd (omega (arith, ltb-true k n y)) | inr y ↦ eqb-true (get_or durations k 0) 0 y ]

-- what the tests of all places say of each
module _ (ds : List ℕ) (n : ℕ) where
  lasts_at_is : (k : ℕ) → k < n → all_below (lasts_at ds) n ≡ true → 1 ≤ get_or ds k 0
  lasts_at_is k q h = leb-true 1 (get_or ds k 0) (all_at (lasts_at ds) n h k q)

  unused_at_is : (k : ℕ) → n ≤ k → k < TASKS → unused_is_zero ds n ≡ true → get_or ds k 0 ≡ 0
  unused_at_is k p q h = unused_read ds n k p (all_at (unused_at ds n) TASKS h k q)

  unused_all : ((k : ℕ) → n ≤ k → k < TASKS → get_or ds k 0 ≡ 0) → unused_is_zero ds n ≡ true
  unused_all f = all_show (unused_at ds n) TASKS (λ k q. elim (dec_lt k n) [ yes h ↦ unused_task ds n k h | no h ↦ unused_show ds n k (f k (omega arith) q) ])

-- the test says what a lawful record is
pub lawful_is : (r : DisjunctivePropagator) → lawful_record r ≡ true ↔ Lawful r
unfolding lawful_record
lawful_is r = (facts, λ l. search (as_tests, all_show, unused_all, l.lasts, l.unused) depth 7)
  where
    facts : lawful_record r ≡ true → Lawful r
    facts h = search (as_facts, lasts_at_is, unused_at_is)
