-- What refuses the call is answered, and no word changes; else all tests are passed, and the reason over moments is that over whole numbers.
use mathlib.Core.Path.{◌≡◌, refl}
use native.Mathlib.Omega.{arith}
use lib.ListN.{length}
use borrow.Author.Rules.{rules}
use Rattle.integers.specs.Limits.{TASKS}
use Rattle.integers.proofs.RefusalNumbers.{never_zero}
use Rattle.records.specs.Refusals.{AcceptedInput}
use Rattle.precedences.specs.Reasons.{AcceptedReason}
use Rattle.precedences.proofs.AcceptedArrays.{as_many}
use Rattle.precedences.proofs.ReasonContract.{given, is_refused, gave}
use Rattle.precedences.proofs.ReasonRefused.{accepted_reason}
use Rattle.precedences.proofs.reason.precedence_reason.Goals.{In_ok-reason_refusal, Start}
use Rattle.precedences.proofs.reason.precedence_reason.Goals as goal

long : (c : Start) → length c.args.«record».durations ≡ TASKS
long c = search rules

passed : (c : In_ok-reason_refusal) → let a = c.args in AcceptedInput a.«record» a.earliest.now a.latest.now × AcceptedReason a.«record» a.task (length a.atoms.now)
passed c = accepted_reason _ _ _ _ _ _ c.in_ok-reason_refusal.ensures refl

pub returns-in_err-reason_refusal : goal.returns-in_err-reason_refusal
returns-in_err-reason_refusal c = search (is_refused, never_zero, rules)

pub range_moments-m-requires : goal.range_moments-m-requires
range_moments-m-requires c = (passed (goal.at.range_moments-m-requires c).In_ok-reason_refusal).0

pub write_reason-requires : goal.write_reason-requires
write_reason-requires c =
    let (a, r) = passed (goal.at.write_reason-requires c).In_ok-reason_refusal in
    let same = as_many a (long (goal.at.write_reason-requires c).Start) c.range_moments-m.ensures in
    (_, c.range_moments-m.ensures, omega (arith, same, r.small), omega (arith, same, r.room))

pub returns : goal.returns
returns c =
    let (a, r) = passed (goal.at.returns c).In_ok-reason_refusal in
    given _ _ _ _ _ _ c.in_ok-reason_refusal.ensures _ _ refl
    (gave _ _ _ a (long (goal.at.returns c).Start) _ _ _ _ r (c.write_reason.ensures _ c.range_moments-m.ensures))
