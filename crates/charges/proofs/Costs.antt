-- The tariff row by row: hours of one row cost its cents each, which is what the code sums. So the cost is as printed, at most 2,000, and no less for more minutes.
use mathlib.Core.Path.{◌≡◌, sym, ap, ◌∙◌}
use Prim.Native.Nat.{ℕ, zero, suc, ◌+◌, ◌-◌, ◌*◌, ◌≤◌, ◌<◌, min}
use native.Mathlib.Omega.{arith}
use native.Mathlib.Decide.{dec_lt}
use native.Mathlib.Nat.{suc-mul}
use native.Mathlib.Numerals.{add-one}
use lib.ListN.{get_or}
use borrow.Author.Tests.{le-leb, lt-leb}
use Rattle.scheduling.specs.Scheduling.{total}
use Rattle.scheduling.proofs.Sets.{total_none, total_more, total_up}
use Rattle.charges.specs.declared.rates.Row.{Row}
use Rattle.charges.specs.Charges.{MINUTES}
use Rattle.charges.specs.Tariff.{tariff, rate, cost_of_hours, hours_begun, cost_of_minutes, printed}

-- ---- a sum
-- d places from a on that hold c each
total_even : (f : ℕ → ℕ) (c a d : ℕ) → ((k : ℕ) → a ≤ k → k < a + d → f k ≡ c) → total f (a + d) ≡ total f a + d * c
total_even f c a zero h = let e : a + 0 ≡ a = omega arith in ap (total f) e ∙ omega arith
total_even f c a (suc d) h =
    let e : a + suc d ≡ (a + d) + 1 = omega arith in
    omega (arith, ap (total f) e, total_more f (a + d), total_even f c a d (λ k p q. h k p (omega arith)), h (a + d) (omega arith) (omega arith), suc-mul d c)

-- ---- the rows
-- row i of the table, and the hours that the rows before it go up to
abbrev pub row_at : ℕ → Row
row_at i = get_or tariff i (record { upto = 0; cents = 0 })

abbrev pub from : ℕ → ℕ
from zero = 0
from (suc i) = (row_at i).upto

-- rows go up, and none past hour 59
pub ascends : (i : ℕ) → i < 2 → (from i ≤ (row_at i).upto) × ((row_at i).upto ≤ 59) × ((row_at i).cents ≤ 40)
ascends zero q = omega arith
ascends (suc zero) q = omega arith
ascends (suc (suc i)) q = absurd (omega arith)

-- the hours of row i cost its cents
row_rate : (i : ℕ) → i < 2 → (k : ℕ) → from i ≤ k → k < (row_at i).upto → rate tariff (k + 1) ≡ (row_at i).cents
unfolding rate
row_rate zero q k p h = rw (le-leb (k + 1) 24 (omega arith), rate)
row_rate (suc zero) q k p h = rw (lt-leb (k + 1) 24 (omega arith), le-leb (k + 1) 59 (omega arith), rate)
row_rate (suc (suc i)) q k p h = absurd (omega arith)

past_rate : (k : ℕ) → 59 ≤ k → rate tariff (k + 1) ≡ 0
unfolding rate
past_rate k h = rw (lt-leb (k + 1) 24 (omega arith), lt-leb (k + 1) 59 (omega arith), rate)

-- ---- the loop over the rows
-- one row more
pub row_more : (hours i : ℕ) → i < 2 → cost_of_hours (min hours (row_at i).upto) ≡ cost_of_hours (min hours (from i)) + (min hours (row_at i).upto - min hours (from i)) * (row_at i).cents
row_more hours i q = ap cost_of_hours (sym back) ∙ total_even (λ k. rate tariff (k + 1)) (row_at i).cents a d even
  where
    a : ℕ
    a = min hours (from i)

    d : ℕ
    d = min hours (row_at i).upto - min hours (from i)

    up : min hours (from i) ≤ min hours (row_at i).upto
    up = omega (arith, (ascends i q).0)

    back : a + d ≡ min hours (row_at i).upto
    back = omega (arith, up)

    even : (k : ℕ) → a ≤ k → k < a + d → rate tariff (k + 1) ≡ (row_at i).cents
    even k p h = row_rate i q k (omega (arith, back)) (omega (arith, back))

-- and after the last row no hour costs anything
pub rows_all : (hours : ℕ) → cost_of_hours (min hours 59) ≡ cost_of_hours hours
rows_all hours = elim (dec_lt hours 59) [
  | yes q ↦ (let e : min hours 59 ≡ hours = omega arith in ap cost_of_hours e)
  | no q ↦
      (let e : min hours 59 ≡ 59 = omega arith in
      let b : 59 + (hours - 59) ≡ hours = omega arith in
      omega (arith, ap cost_of_hours e, ap cost_of_hours b, total_even (λ k. rate tariff (k + 1)) 0 59 (hours - 59) (λ k p h. past_rate k p)))
]

-- ---- what the tariff comes to
-- The table is the tariff as printed.
pub as_printed : (hours : ℕ) → cost_of_hours hours ≡ printed hours
as_printed hours = omega (arith, two)
  where
    zeros : cost_of_hours (min hours 0) ≡ 0
    zeros = let e : min hours 0 ≡ 0 = omega arith in ap cost_of_hours e ∙ total_none (λ k. rate tariff (k + 1))

    one : cost_of_hours (min hours 24) ≡ 25 * min hours 24
    one = omega (arith, zeros, row_more hours 0 (omega arith))

    two : cost_of_hours hours ≡ 25 * min hours 24 + (min hours 59 - min hours 24) * 40
    two = omega (arith, one, row_more hours 1 (omega arith), rows_all hours)

-- no charge is above 2,000
pub hours_most : (hours : ℕ) → cost_of_hours hours ≤ 2000
hours_most hours = omega (arith, as_printed hours)

pub cost_most : (minutes : ℕ) → cost_of_minutes minutes ≤ 2000
cost_most minutes = hours_most (hours_begun minutes)

-- more minutes cost no less
pub cost_mono : (a b : ℕ) → a ≤ b → cost_of_minutes a ≤ cost_of_minutes b
cost_mono a b h = total_up (λ k. rate tariff (k + 1)) (hours_begun a) (hours_begun b) (omega arith)

-- a task that is as late as can be
far_late : cost_of_minutes MINUTES ≡ 2000
far_late = as_printed (hours_begun MINUTES)

-- ---- a turn of the code's loop
-- After the rows before i, and row i of the table.
pub record RowTurn (hours i done cost reached : ℕ) : Type 0 where
  pub next : reached ≡ min hours (from (i + 1))
  pub sum : cost + (reached - done) * (row_at i).cents ≡ cost_of_hours reached
  pub most : cost + (reached - done) * (row_at i).cents ≤ 2000

pub row_turn : (hours i : ℕ) {done cost reached : ℕ} → i < 2 → done ≡ min hours (from i) → cost ≡ cost_of_hours done → reached ≡ min hours (row_at i).upto → RowTurn hours i done cost reached
row_turn hours i {done} {cost} {reached} q d k h = record {
  next = h ∙ ap (λ (n : ℕ). min hours (from n)) (sym (add-one i));
  sum = sum;
  most = omega (arith, sum, hours_most reached);
}
  where
    sum : cost + (reached - done) * (row_at i).cents ≡ cost_of_hours reached
    sum = rw (k, h, d) (sym (row_more hours i q))

-- before the first row, and after the last
pub rows_none : 0 ≡ cost_of_hours 0
rows_none = sym (total_none (λ k. rate tariff (k + 1)))

pub rows_end : (hours i done cost : ℕ) → i ≡ 2 → done ≡ min hours (from i) → cost ≡ cost_of_hours done → cost ≡ cost_of_hours hours
rows_end hours i done cost e d k = k ∙ ap cost_of_hours (d ∙ ap (λ (n : ℕ). min hours (from n)) e) ∙ rows_all hours
