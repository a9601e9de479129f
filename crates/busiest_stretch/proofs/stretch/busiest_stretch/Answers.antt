-- The search runs in moments. The first and the last start are those of the order's ends, and the answer is turned back into whole numbers.
use Rattle.std.proofs.Common.{rules, arith, Ok, ◌≡◌, ◌∙◌, ◌-◌, ◌<◌, ◌≤◌, length, take, get_or, w32}
use Rattle.integers.specs.Limits.{TASKS}
use Rattle.integers.proofs.Ints.{back, back_of}
use Rattle.fixed_schedules.specs.Neighbours.{Tested}
use Rattle.busiest_stretch.specs.Stretches.{stretch_number}
use Rattle.busiest_stretch.proofs.Answers.{refused, few, few_starts, lasts, within, fits, places, ends_start, slidable, found}
use Rattle.busiest_stretch.proofs.stretch.busiest_stretch.Goals.{Start, In_ok-order}
use Rattle.busiest_stretch.proofs.stretch.busiest_stretch.Goals as goal

-- the durations have TASKS places
deep : (c : Start) → length c.args.«record».durations ≡ TASKS
deep c = search rules

-- no test failed
passed : (c : In_ok-order) → let a = c.args in
    Tested a.earliest.now (stretch_number a.«record» a.earliest.now a.latest.now a.w) (Ok c.in_ok-order.order)
passed c = rw (back c.ranges.w) at c.in_ok-order.ensures

-- the order's ends hold tasks
placed : (c : In_ok-order) → let n = c.args.«record».count in
    let order = take n c.in_ok-order.order in
    (n ≤ TASKS) × (n ≡ length order) × (0 < n) × (get_or order 0 0 < n) × (get_or order (n - 1) 0 < n)
placed c =
    let (some, a, b) = places _ _ _ c.args.w _ (passed c) in
    (few _ _ _ c.args.w _ (passed c), fits _ _ _ c.args.w _ (passed c), some, a, b)

pub returns-in_err-order : goal.returns-in_err-order
returns-in_err-order c = let h = rw (back c.ranges.w) at c.in_err-order.ensures in search (refused, h, rules)

pub slice_bounds-order-end : goal.slice_bounds-order-end
slice_bounds-order-end c = within _ _ _ c.args.w _ (passed (goal.at.slice_bounds-order-end c).In_ok-order)

pub slice_bounds-by_start-end : goal.slice_bounds-by_start-end
slice_bounds-by_start-end c = fits _ _ _ c.args.w _ (passed (goal.at.slice_bounds-by_start-end c).In_ok-order)

pub moments_of-requires : goal.moments_of-requires
moments_of-requires c = few_starts _ _ _ c.args.w _ (passed (goal.at.moments_of-requires c).In_ok-order)

pub shared_ref_as_front-slide : goal.shared_ref_as_front-slide
shared_ref_as_front-slide c = few _ _ _ c.args.w _ (passed (goal.at.shared_ref_as_front-slide c).In_ok-order)

pub nat_of-requires : goal.nat_of-requires
nat_of-requires c = rw (back c.ranges.w) (lasts _ _ _ c.args.w _ (passed (goal.at.nat_of-requires c).In_ok-order))

pub bounds-by_start-0 : goal.bounds-by_start-0
bounds-by_start-0 c = omega (arith, placed (goal.at.bounds-by_start-0 c).In_ok-order)

pub offset_bounds-starts-by_start : goal.offset_bounds-starts-by_start
offset_bounds-starts-by_start c = omega (arith, placed (goal.at.offset_bounds-starts-by_start c).In_ok-order)

pub bounds-starts-by_start : goal.bounds-starts-by_start
bounds-starts-by_start c = omega (arith, placed (goal.at.bounds-starts-by_start c).In_ok-order)

pub overflow_sub-slide : goal.overflow_sub-slide
overflow_sub-slide c = omega (arith, placed (goal.at.overflow_sub-slide c).In_ok-order)

pub bounds-by_start-n : goal.bounds-by_start-n
bounds-by_start-n c = omega (arith, placed (goal.at.bounds-by_start-n c).In_ok-order)

pub offset_bounds-starts-by_start-2 : goal.offset_bounds-starts-by_start-2
offset_bounds-starts-by_start-2 c = omega (arith, placed (goal.at.offset_bounds-starts-by_start-2 c).In_ok-order)

pub bounds-starts-by_start-2 : goal.bounds-starts-by_start-2
bounds-starts-by_start-2 c = omega (arith, placed (goal.at.bounds-starts-by_start-2 c).In_ok-order)

pub invariant_of-slide : goal.invariant_of-slide
invariant_of-slide c =
    let past = goal.at.invariant_of-slide c in
    record { slidable = slidable _ _ _ c.args.w _ (passed past.In_ok-order) _ c.moments_of.ensures c.moments_of.array_long _ (rw (back c.ranges.w) at c.nat_of.ensures) (deep past.Start) }

pub busiest-best-requires : goal.busiest-best-requires
busiest-best-requires c =
    ends_start _ _ _ c.args.w _ (passed (goal.at.busiest-best-requires c).In_ok-order) _ c.moments_of.ensures c.moments_of.array_long

pub returns : goal.returns
returns c =
    found _ _ _ c.args.w _ (passed (goal.at.returns c).In_ok-order) _ c.moments_of.ensures c.moments_of.array_long _ (rw (back c.ranges.w) at c.nat_of.ensures) _ _ c.busiest-best.ensures
    (back_of w32 c.start_of.result c.start_of.type_inv ∙ c.start_of.ensures)
