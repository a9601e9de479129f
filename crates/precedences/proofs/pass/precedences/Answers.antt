-- A pass that is refused changes no start. Else the first raised start past its latest start is the emptied task; where there is none, all
-- raised starts are stored.
use mathlib.Core.Path.{◌≡◌, refl}
use native.Mathlib.Omega.{arith}
use lib.ListN.{length}
use borrow.Author.Rules.{rules}
use Rattle.integers.specs.Limits.{TASKS}
use Rattle.integers.proofs.RefusalNumbers.{never_zero}
use Rattle.records.specs.Refusals.{AcceptedInput}
use Rattle.precedences.proofs.PassContract.{is_refused, input_held, went, some_past, none_past}
use Rattle.precedences.proofs.pass.precedences.Goals.{In_default, Start}
use Rattle.precedences.proofs.pass.precedences.Goals as goal

long : (c : Start) → length c.args.«record».durations ≡ TASKS
long c = search rules

passed : (c : In_default) → let a = c.args in AcceptedInput a.«record» a.earliest.now a.latest.now
passed c = input_held _ _ _ _ c.in_default.ensures refl

pub returns-in-Err : goal.returns-in-Err
returns-in-Err c = is_refused _ _ _ _ c.in-Err.ensures _ _ (never_zero _) refl refl

pub range_moments-m-requires : goal.range_moments-m-requires
range_moments-m-requires c = passed (goal.at.range_moments-m-requires c).In_default

pub raised_starts-starts-requires : goal.raised_starts-starts-requires
raised_starts-starts-requires c = (_, c.range_moments-m.ensures)

pub first_past-requires : goal.first_past-requires
first_past-requires c = c.range_moments-m.ensures.held.few

pub store-requires : goal.store-requires
store-requires c = let a = passed (goal.at.store-requires c).In_default in omega (arith, a.counts.earliest, a.lawful.few)

pub returns-in-Some : goal.returns-in-Some
returns-in-Some c =
    let f = c.range_moments-m.ensures in
    went _ _ _ _ c.in_default.ensures refl _ _
    (some_past _ _ _ (passed (goal.at.returns-in-Some c).In_default) (long (goal.at.returns-in-Some c).Start) f (c.raised_starts-starts.ensures _ f) c.in-Some.ensures)

pub returns : goal.returns
returns c =
    let f = c.range_moments-m.ensures in
    went _ _ _ _ c.in_default.ensures refl _ _
    (none_past _ _ _ (passed (goal.at.returns c).In_default) (long (goal.at.returns c).Start) f (c.raised_starts-starts.ensures _ f) c.in_default-first_past.ensures c.store.ensures)
