-- The tests of a change, as the code asks them of a record that it has found lawful.
use mathlib.Core.Path.{◌≡◌}
use mathlib.Core.Bool.{Bool, true, false, not}
use Prim.Native.Nat.{ℕ, ◌+◌, ◌-◌, ◌≤◌, ◌<◌}
use native.Mathlib.Omega.{arith}
use lib.Dec.{leb}
use lib.IntN.{ℤ}
use borrow.Author.Tests.{le-leb, lt-leb}
use Rattle.integers.specs.Limits.{TASKS, DURATIONS}
use Rattle.integers.proofs.Tests.{broken}
use Rattle.records.specs.declared.record.DisjunctivePropagator.{DisjunctivePropagator}
use Rattle.records.specs.Records.{count_within, lawful_record, Lawful, duration_for}
use Rattle.records.proofs.Lawful.{count_is, lawful_is}
use Rattle.records.proofs.TestsInOrder.{said_yes}

-- the number of tasks with one more, and with one less
module _ (n : ℕ) where
  pub more_fit : n < TASKS → count_within (n + 1) ≡ true
  more_fit q = (count_is (n + 1)).1 (omega arith, omega arith)

  pub more_not : TASKS ≤ n → count_within (n + 1) ≡ false
  more_not q = (broken (count_is (n + 1))).1 (λ f. omega arith)

  pub less_not : n < 2 → count_within (n - 1) ≡ false
  less_not q = (broken (count_is (n - 1))).1 (λ f. omega arith)

  pub more_room : count_within (n + 1) ≡ true → n < TASKS
  more_room h = omega (arith, (count_is (n + 1)).0 h)

  pub less_room : count_within (n - 1) ≡ true → 2 ≤ n
  less_room h = omega (arith, (count_is (n - 1)).0 h)

module _ (r : DisjunctivePropagator) {b : Bool} (e : b ≡ lawful_record r) (h : not b ≡ false) where
  held : Lawful r
  held = (lawful_is r).0 (said_yes e h)

  pub less_fit : 2 ≤ r.count → count_within (r.count - 1) ≡ true
  less_fit q = (count_is (r.count - 1)).1 (omega arith, omega (arith, held.few))

  pub stored_most : r.total ≤ DURATIONS
  stored_most = omega (arith, held.sum, held.stored)

  -- the new duration is tested by what the stored total leaves
  module _ (d : ℤ) {more : ℕ} (m : more ≡ duration_for d) where
    pub sum_over : DURATIONS - r.total < more → leb (r.total + duration_for d) DURATIONS ≡ false
    sum_over q = lt-leb (r.total + duration_for d) DURATIONS (omega (arith, stored_most, m))

    pub sum_under : more ≤ DURATIONS - r.total → leb (r.total + duration_for d) DURATIONS ≡ true
    sum_under q = le-leb (r.total + duration_for d) DURATIONS (omega (arith, stored_most, m))
