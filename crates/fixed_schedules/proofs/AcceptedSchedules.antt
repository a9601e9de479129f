-- What is known of a schedule where its record and its ranges have passed.
use mathlib.Core.Path.{◌≡◌, refl, ap}
use mathlib.Core.List.{List}
use Prim.Native.Nat.{ℕ, ◌+◌, ◌≤◌, ◌<◌}
use native.Mathlib.Omega.{arith}
use lib.IntN.{ℤ, pos}
use lib.ListN.{length, get_or}
use Rattle.integers.specs.FilledLists.{filled, no_tasks}
use Rattle.integers.specs.Limits.{START, DURATIONS}
use Rattle.integers.specs.Moments.{moment, zero_at, Above, moment_at}
use Rattle.integers.specs.Orders.{index, Ordered}
use Rattle.integers.proofs.Ints.{ints, up, dn, up_neg, dn_neg}
use Rattle.integers.proofs.MomentSums.{at_moment}
use Rattle.scheduling.specs.Scheduling.{whole, natural, Tasks}
use Rattle.scheduling.proofs.Sets.{total_part}
use Rattle.records.specs.declared.record.DisjunctivePropagator.{DisjunctivePropagator}
use Rattle.records.specs.Refusals.{AcceptedInput}
use Rattle.fixed_schedules.specs.FixedSchedules.{start_at, order_of, tasks_on, AcceptedFixed}
use Rattle.fixed_schedules.specs.Neighbours.{Sortable, Traversable, in_moments}
use Rattle.fixed_schedules.proofs.ScheduleOrder.{start_above, start_moment, ordered, order_length, key_at, ordered_moments}

-- The tasks M are the tasks J, with the moments of their starts.
pub record AtMoments (o : ℕ) (J : Tasks whole) (M : Tasks natural) : Type 0 where
  pub count : M.count ≡ J.count
  pub above : (k : ℕ) → k < J.count → Above o (J.earliest k)
  pub start : (k : ℕ) → k < J.count → M.earliest k ≡ moment o (J.earliest k)
  pub lasts : (k : ℕ) → k < J.count → M.duration k ≡ J.duration k

-- an accepted schedule's have
pub input_of : {r : DisjunctivePropagator} {es ls : List ℤ} → AcceptedFixed r es ls → AcceptedInput r es ls
input_of a = record { lawful = a.lawful; counts = a.counts; starts = a.starts; ranges = a.ranges }

module _ (r : DisjunctivePropagator) (es ls : List ℤ) (a : AcceptedInput r es ls) where
  pub sortable : Sortable es
  sortable = record { few = omega (arith, a.counts.earliest, a.lawful.few); starts = a.starts.earliest }

  pub lasting : (k : ℕ) → k < length es → 1 ≤ get_or r.durations k 0
  lasting k q = a.lawful.lasts k (omega (arith, a.counts.earliest))

  pub short : (k : ℕ) → k < length es → get_or r.durations k 0 ≤ DURATIONS
  short k q = omega (arith, total_part (λ k. get_or r.durations k 0) r.count k (omega (arith, a.counts.earliest)), a.lawful.sum)

  pub traversable : {order : List ℕ} → order ≡ order_of es → Traversable order es r.durations
  traversable e = record { sortable = sortable; durations = short; tasks = λ t q. rw e ((ordered es).task t (omega (arith, ap length e, order_length es))) }

  -- the array of moments has those of the starts
  module _ (starts : List ℕ) (s : starts ≡ filled (moment_at es) (length es) no_tasks) where
    pub at_moments : AtMoments zero_at (tasks_on r es ls) (in_moments r.count starts r.durations)
    at_moments = record {
      count = refl;
      above = λ k q. start_above (start_at es k) (a.starts.earliest k (omega (arith, a.counts.earliest)));
      start = λ k q. key_at es starts sortable.few s k (omega (arith, a.counts.earliest));
      lasts = λ k q. refl;
    }

    pub by_moments : {order : List ℕ} → order ≡ order_of es → Ordered (length order) (λ t. get_or order t 0) (index (order_of es)) (λ j k. get_or starts j 0 ≤ get_or starts k 0)
    by_moments e = rw (e, order_length es) (ordered_moments es starts (key_at es starts sortable.few s))

    -- which are far from 0 and from the largest u32
    pub moment_low : (k : ℕ) → k < r.count → zero_at ≤ START + get_or starts k 0
    unfolding up dn
    moment_low k q = omega (
      ints,
      at_moments.start k q,
      at_moment zero_at (start_at es k) (at_moments.above k q),
      (a.starts.earliest k (omega (arith, a.counts.earliest))).low,
      up_neg (pos START),
      dn_neg (pos START),
    )

    pub moment_high : (k : ℕ) → k < r.count → get_or starts k 0 ≤ zero_at + START
    moment_high k q = omega (arith, at_moments.start k q, start_moment (start_at es k) (a.starts.earliest k (omega (arith, a.counts.earliest))))
