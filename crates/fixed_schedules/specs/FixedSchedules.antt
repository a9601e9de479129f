-- A fixed schedule: each range holds one start, and no two tasks overlap. What refuses one, what holds of one, and its tasks by start.
use Rattle.std.specs.Prelude.{◌≡◌, Bool, ◌&&◌, ◌||◌, List, [], ◌∷◌, ◌++◌, ℕ, ◌<◌, eqb, ℤ, pos, ◌+ℤ◌, length, get_or}
use Rattle.std.specs.Int.Signed.{le_z}
use Rattle.integers.specs.Refused as refused
use Rattle.integers.specs.Orders.{sort, numbers}
use Rattle.integers.specs.Tests.{Test, test, all_below, refusal}
use Rattle.scheduling.specs.Scheduling.{whole, Tasks, NoOverlap}
use Rattle.records.specs.declared.record.DisjunctivePropagator.{DisjunctivePropagator}
use Rattle.records.specs.Records.{Lawful}
use Rattle.records.specs.Refusals.{range_tests, CountsFit, StartsFit, RangesFit}

-- task k's start, which is its earliest, and its end
abbrev pub start_at : List ℤ → ℕ → ℤ
start_at es k = get_or es k (pos 0)

abbrev pub end_at : List ℕ → List ℤ → ℕ → ℤ
end_at ds es k = start_at es k +ℤ pos (get_or ds k 0)

-- The tests ---------------------------------------------------------------------------------------------------------------------

-- two numbers are equal
abbrev pub same_start : ℤ → ℤ → Bool
same_start a b = le_z a b && le_z b a

-- task k's range holds one start
abbrev pub one_start_at : List ℤ → List ℤ → ℕ → Bool
one_start_at es ls k = same_start (get_or es k (pos 0)) (get_or ls k (pos 0))

-- j and k are one task, or one of them ends by the start of the other
abbrev pub apart_at : List ℕ → List ℤ → ℕ → ℕ → Bool
apart_at ds es j k = eqb j k || (le_z (end_at ds es j) (start_at es k) || le_z (end_at ds es k) (start_at es j))

-- no two of the tasks 0 to n − 1 overlap
abbrev pub all_apart : List ℕ → List ℤ → ℕ → Bool
all_apart ds es n = all_below (λ j. all_below (apart_at ds es j) n) n

-- those of a record and its ranges; then 14: a range with more than one start, or an overlap
abbrev pub fixed_tests : DisjunctivePropagator → List ℤ → List ℤ → List Test
fixed_tests r es ls = range_tests r es ls ++ (test refused.SCHEDULE (all_below (one_start_at es ls) (length es) && all_apart r.durations es (length es)) ∷ [])

abbrev pub fixed_number : DisjunctivePropagator → List ℤ → List ℤ → ℕ
fixed_number r es ls = refusal (fixed_tests r es ls)

-- the tasks of a record with these ranges
abbrev pub tasks_on : DisjunctivePropagator → List ℤ → List ℤ → Tasks whole
tasks_on r es ls = record { count = r.count; earliest = λ k. get_or es k (pos 0); latest = λ k. get_or ls k (pos 0); duration = λ k. get_or r.durations k 0 }

-- The test of 14 as facts,
pub record Fixed (r : DisjunctivePropagator) (es ls : List ℤ) : Type 0 where
  pub one : (k : ℕ) → k < r.count → get_or es k (pos 0) ≡ get_or ls k (pos 0)
  pub apart : NoOverlap (tasks_on r es ls) (start_at es)

-- and what holds of a schedule that no test refuses.
pub record AcceptedFixed (r : DisjunctivePropagator) (es ls : List ℤ) : Type 0 where
  pub lawful : Lawful r
  pub counts : CountsFit r.count es ls
  pub starts : StartsFit es ls
  pub ranges : RangesFit es ls
  pub fixed : Fixed r es ls

-- The order ---------------------------------------------------------------------------------------------------------------------

-- j may come before k: it starts no later
abbrev pub by_start : List ℤ → ℕ → ℕ → Bool
by_start es j k = le_z (start_at es j) (start_at es k)

-- the tasks by start, least first
abbrev pub order_of : List ℤ → List ℕ
order_of es = sort (by_start es) (numbers 0 (length es))
