-- What refuses the call is answered; else all tests are passed, and the bound over moments is that over whole numbers.
use mathlib.Core.Path.{◌≡◌, refl}
use Prim.Native.Nat.{◌<◌}
use native.Mathlib.Omega.{arith}
use lib.ListN.{length}
use borrow.Author.Rules.{rules}
use Rattle.integers.specs.Limits.{TASKS}
use Rattle.integers.proofs.RefusalNumbers.{never_zero}
use Rattle.records.specs.Refusals.{AcceptedInput}
use Rattle.precedences.proofs.AcceptedArrays.{as_many}
use Rattle.precedences.proofs.BoundAnswers.{bound_given, bound_refused, bound_answered}
use Rattle.precedences.proofs.BoundRefused.{accepted_bound}
use Rattle.precedences.proofs.bounds.precedence_bound.Goals.{In_ok-bound_refusal, Start}
use Rattle.precedences.proofs.bounds.precedence_bound.Goals as goal

long : (c : Start) → length c.args.«record».durations ≡ TASKS
long c = search rules

passed : (c : In_ok-bound_refusal) → let a = c.args in AcceptedInput a.«record» a.earliest.now a.latest.now × (a.task < a.«record».count)
passed c = accepted_bound _ _ _ _ _ c.in_ok-bound_refusal.ensures refl

pub returns-in_err-bound_refusal : goal.returns-in_err-bound_refusal
returns-in_err-bound_refusal c = search (bound_refused, never_zero, rules)

pub range_moments-m-requires : goal.range_moments-m-requires
range_moments-m-requires c = (passed (goal.at.range_moments-m-requires c).In_ok-bound_refusal).0

pub bound_above-requires : goal.bound_above-requires
bound_above-requires c =
    let (a, small) = passed (goal.at.bound_above-requires c).In_ok-bound_refusal in
    (_, c.range_moments-m.ensures, omega (arith, as_many a (long (goal.at.bound_above-requires c).Start) c.range_moments-m.ensures, small))

pub returns : goal.returns
returns c =
    let (a, small) = passed (goal.at.returns c).In_ok-bound_refusal in
    bound_given _ _ _ _ _ c.in_ok-bound_refusal.ensures _ refl
    (bound_answered _ _ _ a (long (goal.at.returns c).Start) _ small (c.bound_above.ensures _ c.range_moments-m.ensures))
