-- The invariant: `neighbours` goes over the places that count, which are the first, and every task before place i ends by the start of the next one.
use Rattle.std.proofs.Common.{◌≡◌, ◌-◌, ◌≤◌, true, length, take, drop}
use Rattle.std.specs.Slice.Iter.{windows_size, windows_rest}
use Rattle.integers.specs.Tests.{all_below}
use Rattle.fixed_schedules.specs.Neighbours.{neighbours_are_apart}
use Rattle.fixed_schedules.proofs.order.neighbours_apart.Given as goal

abbrev pub invariant-loop-neighbours : goal.invariant-loop-neighbours
invariant-loop-neighbours l =
    let front = take (length l.earliest) l.order in
    let rest = windows_rest l.neighbours-iterator in
    let i = length front - length rest in record {
      pairs : windows_size l.neighbours-iterator ≡ 2;
      within : length rest ≤ length front;
      rest : rest ≡ drop i front;
      passed : i ≤ length front - 1;
      apart : all_below (neighbours_are_apart front l.earliest l.durations) i ≡ true;
    }
