use Rattle.std.proofs.Common.{arith, ◌≡◌, refl, ap, ◌∙◌, ℕ, ◌+◌, ◌/◌, ◌%◌, min}
use Rattle.charges.specs.Tariff.{cost_of_hours, hours_begun}
use Rattle.charges.proofs.Costs.{RowTurn, row_turn, rows_none, rows_end}
use Rattle.charges.proofs.rates.cost_of.Goals.{After-min-reached}
use Rattle.charges.proofs.rates.cost_of.Goals as goal

-- the hours begun
hours_are : (minutes : ℕ) → minutes / 60 + min 1 (minutes % 60) ≡ hours_begun minutes
hours_are minutes = omega arith

pub loop-row-init : goal.loop-row-init
loop-row-init c = record { rows = refl; hours = omega arith; charged = rows_none }

-- what a turn does
turn : (c : After-min-reached) → let loop = c.loop-row in RowTurn c.div_ceil-hours.result loop.row-index loop.done loop.cost c.min-reached.result
turn c =
    let loop = c.loop-row in
    row_turn c.div_ceil-hours.result loop.row-index c.loop-row-test.true loop.invariant.hours loop.invariant.charged c.min-reached.ensures

pub overflow_add-cost : goal.overflow_add-cost
overflow_add-cost c = omega (arith, (turn (goal.at.overflow_add-cost c).After-min-reached).most)

pub loop-row-preserved : goal.loop-row-preserved
loop-row-preserved c =
    let t = turn (goal.at.loop-row-preserved c).After-min-reached in
    record { rows = refl; hours = t.next; charged = t.sum }

pub returns : goal.returns
returns c =
    let loop = c.loop-row in
    rows_end c.div_ceil-hours.result loop.row-index loop.done loop.cost (omega (arith, loop.auto.row-index-end, c.loop-row-test.false)) loop.invariant.hours loop.invariant.charged
    ∙ ap cost_of_hours (c.div_ceil-hours.ensures ∙ hours_are c.args.minutes)
