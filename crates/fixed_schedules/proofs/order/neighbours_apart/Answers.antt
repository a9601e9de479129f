use Rattle.std.proofs.Common.{rules, arith, ◌≡◌, ◌∙◌, sym, ap, ℕ, ◌+◌, ◌-◌, ◌≤◌, ◌<◌, leb, List, length, get_or, take, drop, add-zero}
use Rattle.std.proofs.lemmas.Iterator.{window_more}
use Rattle.std.specs.Slice.Iter.{windows_rest}
use borrow.Author.Tests.{le-leb, lt-leb}
use Rattle.integers.specs.Limits.{TASKS}
use Rattle.integers.specs.Moments.{moment, zero_at}
use Rattle.integers.specs.Tests.{all_below}
use Rattle.integers.proofs.MomentSums.{moment_word}
use Rattle.integers.proofs.Tests.{all_none, all_more, all_broken}
use Rattle.fixed_schedules.specs.FixedSchedules.{start_at}
use Rattle.fixed_schedules.specs.Neighbours.{neighbours_are_apart}
use Rattle.fixed_schedules.proofs.Neighbours.{front_apart}
use Rattle.fixed_schedules.proofs.ScheduleOrder.{start_moment, ends_by_test}
use Rattle.fixed_schedules.proofs.order.neighbours_apart.Goals.{After-moment_of, After-moment_of-in-loop-neighbours, In-Some}
use Rattle.fixed_schedules.proofs.order.neighbours_apart.Goals as goal

-- The window w at place i has the tasks of this place and the next, and the iterator goes on to the next place.
record Turn (order : List ℕ) (i : ℕ) (w next : List ℕ) : Type 0 where
  inside : i + 1 < length order
  first : get_or w 0 0 ≡ get_or order i 0
  second : get_or w 1 0 ≡ get_or order (i + 1) 0
  on : length order - length next ≡ i + 1
  within : length next ≤ length order
  rest : next ≡ drop (length order - length next) order

-- the places that count
abbrev front_of : In-Some → List ℕ
front_of c = take (length c.args.earliest.now) c.args.order.now

-- the window's place among them
abbrev place_of : In-Some → ℕ
place_of c = length (front_of c) - length (windows_rest c.loop-neighbours.neighbours-iterator)

turn : (c : In-Some) → Turn (front_of c) (place_of c) c.in-Some.neighbours.now (windows_rest c.next.new.self)
turn c =
    let order = front_of c in
    let v = c.loop-neighbours.invariant in
    let (one_less, rest, left, at) = window_more order c.loop-neighbours.neighbours-iterator c.next.new.self _ _ c.in-Some.is c.next.ensures.steps (omega (arith, v.pairs)) v.within v.rest in record {
      inside = omega (arith, left, v.within, v.pairs);
      first = at 0 0 (omega (arith, v.pairs)) ∙ ap (λ (t : ℕ). get_or order t 0) (add-zero (place_of c));
      second = at 1 0 (omega (arith, v.pairs));
      on = omega (arith, one_less, left, v.within, v.pairs);
      within = omega (arith, one_less, v.within);
      rest = rest;
    }

-- its tasks are few
small : (c : In-Some) → let n = length c.args.earliest.now in
    let w = c.in-Some.neighbours.now in
    (get_or w 0 0 < n) × (get_or w 1 0 < n) × (n ≤ TASKS)
small c =
    let t = turn c in
    let able = c.requires.1 in
    (rw t.first (able.tasks (place_of c) (omega (arith, t.inside))), rw t.second (able.tasks (place_of c + 1) t.inside), able.sortable.few)

-- the moment of the first one's start
moment_is : (c : After-moment_of) → c.moment_of.result ≡ moment zero_at (start_at c.args.earliest.now (get_or c.in-Some.neighbours.now 0 0))
moment_is c = search (moment_word, rules)

-- what the test of the two says
seen : (c : After-moment_of-in-loop-neighbours) → let a = c.args in
    leb (c.moment_of.result + get_or a.durations.now (get_or c.in-Some.neighbours.now 0 0) 0) c.moment_of-in-loop-neighbours.result
    ≡ neighbours_are_apart (front_of (goal.at.After-moment_of-in-loop-neighbours c).In-Some) a.earliest.now a.durations.now (place_of (goal.at.After-moment_of-in-loop-neighbours c).In-Some)
seen c =
    let es = c.args.earliest.now in
    let w = c.in-Some.neighbours.now in
    let d = get_or c.args.durations.now (get_or w 0 0) 0 in
    let t = turn (goal.at.After-moment_of-in-loop-neighbours c).In-Some in
    let q = small (goal.at.After-moment_of-in-loop-neighbours c).In-Some in
    let first : c.moment_of.result ≡ moment zero_at (start_at es (get_or w 0 0)) = search (moment_word, rules) in
    let second : c.moment_of-in-loop-neighbours.result ≡ moment zero_at (start_at es (get_or w 1 0)) = search (moment_word, rules) in
    rw (first, second, ends_by_test (start_at es (get_or w 0 0)) (start_at es (get_or w 1 0)) d (c.requires.1.sortable.starts _ q.0) (c.requires.1.sortable.starts _ q.1), t.first, t.second)

pub loop-neighbours-init : goal.loop-neighbours-init
loop-neighbours-init c =
    let front = take (length c.args.earliest.now) c.args.order.now in
    let rest : windows_rest c.into_iter-neighbours-iterator.result ≡ front = search rules in
    let none : length front - length (windows_rest c.into_iter-neighbours-iterator.result) ≡ 0 = omega (arith, ap length rest) in
    record { pairs = search rules; within = omega (arith, ap length rest); rest = rw none rest; passed = omega (arith, none); apart = rw none (all_none _) }

pub overflow_add-end : goal.overflow_add-end
overflow_add-end c =
    let j = get_or c.in-Some.neighbours.now 0 0 in
    let q = (small (goal.at.overflow_add-end c).In-Some).0 in
    let able = c.requires.1 in
    record { fits = omega (arith, moment_is (goal.at.overflow_add-end c).After-moment_of, start_moment (start_at c.args.earliest.now j) (able.sortable.starts j q), able.durations j q) }

pub offset_bounds-earliest-next : goal.offset_bounds-earliest-next
offset_bounds-earliest-next c = omega (arith, small (goal.at.offset_bounds-earliest-next c).In-Some)

pub bounds-earliest-next : goal.bounds-earliest-next
bounds-earliest-next c = (small (goal.at.bounds-earliest-next c).In-Some).1

pub returns-then-end-moment_of : goal.returns-then-end-moment_of
returns-then-end-moment_of c =
    let a = c.args in
    let t = turn (goal.at.returns-then-end-moment_of c).In-Some in
    let broken = sym (seen (goal.at.returns-then-end-moment_of c).After-moment_of-in-loop-neighbours) ∙ lt-leb _ _ c.if-end-moment_of.true in
    sym (all_broken _ _ _ (omega (arith, t.inside)) broken) ∙ front_apart a.durations.now a.earliest.now a.order.now c.requires.0

pub loop-neighbours-preserved : goal.loop-neighbours-preserved
loop-neighbours-preserved c =
    let t = turn (goal.at.loop-neighbours-preserved c).In-Some in
    let apart = sym (seen (goal.at.loop-neighbours-preserved c).After-moment_of-in-loop-neighbours) ∙ le-leb _ _ c.if-end-moment_of.false in
    record { pairs = search rules; within = t.within; rest = t.rest; passed = omega (arith, t.on, t.inside); apart = rw t.on (all_more _ _ c.loop-neighbours.invariant.apart apart) }

pub returns : goal.returns
returns c =
    let a = c.args in
    let v = c.loop-neighbours.invariant in
    let left = windows_rest c.loop-neighbours.neighbours-iterator in
    let few : length left < 2 = search rules in
    let front = take (length a.earliest.now) a.order.now in
    let e : length front - 1 ≡ length front - length left = omega (arith, v.passed, v.within) in
    sym (ap (all_below (neighbours_are_apart front a.earliest.now a.durations.now)) e ∙ v.apart) ∙ front_apart a.durations.now a.earliest.now a.order.now c.requires.0
