-- The search runs in moments: an accepted schedule is sorted and limited as `first_free` asks, and its answer is carried back to whole numbers.
use Rattle.std.proofs.Common.{rules, Ok, ◌∙◌, w32}
use Rattle.integers.proofs.Ints.{back, back_of}
use Rattle.fixed_schedules.specs.Neighbours.{Tested}
use Rattle.free_starts.specs.FreeStarts.{free_number}
use Rattle.free_starts.proofs.Answers.{refused, few_starts, lasts, within, fits, searchable, found}
use Rattle.free_starts.proofs.free_start.Goals.{In_ok-order}
use Rattle.free_starts.proofs.free_start.Goals as goal

-- no test failed
passed : (c : In_ok-order) → let a = c.args in
    Tested a.earliest.now (free_number a.«record» a.earliest.now a.latest.now a.t a.d) (Ok c.in_ok-order.order)
passed c = rw (back c.ranges.t, back c.ranges.d) at c.in_ok-order.ensures

pub returns-in_err-order : goal.returns-in_err-order
returns-in_err-order c = let h = rw (back c.ranges.t, back c.ranges.d) at c.in_err-order.ensures in search (refused, h, rules)

pub moments_of-requires : goal.moments_of-requires
moments_of-requires c = few_starts _ _ _ c.args.t c.args.d _ (passed (goal.at.moments_of-requires c).In_ok-order)

pub nat_of-length-requires : goal.nat_of-length-requires
nat_of-length-requires c = rw (back c.ranges.d) (lasts _ _ _ c.args.t c.args.d _ (passed (goal.at.nat_of-length-requires c).In_ok-order))

pub slice_bounds-order-end : goal.slice_bounds-order-end
slice_bounds-order-end c = within _ _ _ c.args.t c.args.d _ (passed (goal.at.slice_bounds-order-end c).In_ok-order)

pub slice_bounds-by_start-end : goal.slice_bounds-by_start-end
slice_bounds-by_start-end c = fits _ _ _ c.args.t c.args.d _ (passed (goal.at.slice_bounds-by_start-end c).In_ok-order)

pub first_free-free-requires : goal.first_free-free-requires
first_free-free-requires c =
    searchable _ _ _ c.args.t c.args.d _ (passed (goal.at.first_free-free-requires c).In_ok-order) _ c.moments_of.ensures _ _ (rw (back c.ranges.t) at c.moment_of-from.ensures)
    (rw (back c.ranges.d) at c.nat_of-length.ensures)

pub returns : goal.returns
returns c =
    found _ _ _ c.args.t c.args.d _ (passed (goal.at.returns c).In_ok-order) _ c.moments_of.ensures _ _ (rw (back c.ranges.t) at c.moment_of-from.ensures) (rw (back c.ranges.d) at c.nat_of-length.ensures)
    _ _ c.first_free-free.ensures.0 c.first_free-free.ensures.1 (back_of w32 c.start_of.result c.start_of.type_inv ∙ c.start_of.ensures)
