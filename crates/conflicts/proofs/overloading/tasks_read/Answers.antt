use mathlib.Core.Path.{◌≡◌, refl, ap, ◌∙◌}
use native.Mathlib.Omega.{arith}
use lib.ListN.{length, take}
use lib.Seq.{length-take-le}
use Rattle.conflicts.proofs.MarkedNumbers.{marked, none_marked, one_marked, front_known, read_marked}
use Rattle.conflicts.proofs.overloading.tasks_read.Goals.{After-sort_numbers}
use Rattle.conflicts.proofs.overloading.tasks_read.Goals as goal

-- the first k of the order
long : (c : After-sort_numbers) → length (take c.args.k c.sort_numbers.new.order) ≡ c.args.k
long c = length-take-le c.args.k c.sort_numbers.new.order (omega (arith, c.requires.2, c.requires.1.held.few, c.sort_numbers.ensures.size))

pub sort_numbers-requires : goal.sort_numbers-requires
sort_numbers-requires c = (c.requires.1.held.few, refl)

pub slice_bounds-tasks-end : goal.slice_bounds-tasks-end
slice_bounds-tasks-end c = omega (arith, c.requires.2, c.requires.1.held.few, c.sort_numbers.ensures.size)

pub bounds-read-j : goal.bounds-read-j
bounds-read-j c =
    front_known c.requires.0 c.requires.1 c.sort_numbers.ensures c.args.k c.loop-j.j-index c.requires.2 (omega (arith, long (goal.at.bounds-read-j c).After-sort_numbers))

pub loop-j-init : goal.loop-j-init
loop-j-init c = none_marked (take c.args.k c.sort_numbers.new.order)

pub loop-j-preserved : goal.loop-j-preserved
loop-j-preserved c =
    let t = c.loop-j.j-index in
    one_marked (take c.args.k c.sort_numbers.new.order) t (omega arith)
    (front_known c.requires.0 c.requires.1 c.sort_numbers.ensures c.args.k t c.requires.2 (omega (arith, long (goal.at.loop-j-preserved c).After-sort_numbers))) c.loop-j.invariant

pub returns : goal.returns
returns c J h =
    let z : c.loop-j.j-index ≡ c.args.k = omega (arith, long (goal.at.returns c).After-sort_numbers) in
    c.loop-j.invariant ∙ ap (marked (take c.args.k c.sort_numbers.new.order)) z ∙ read_marked J h c.sort_numbers.ensures c.args.k c.requires.2
