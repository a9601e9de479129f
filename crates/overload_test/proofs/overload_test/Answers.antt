-- What no test refuses is accepted, and the answer read off the tasks is then yes exactly where some set overloads.
use mathlib.Core.Path.{◌≡◌, sym, ap}
use mathlib.Core.Bool.{true}
use lib.ListN.{length}
use borrow.Author.Rules.{rules}
use Rattle.std.specs.Prelude.{Ok}
use Rattle.integers.specs.Limits.{TASKS}
use Rattle.integers.proofs.RefusalNumbers.{refusing}
use Rattle.records.specs.Refusals.{AcceptedInput}
use Rattle.records.proofs.RefusedRuns.{accepted_input}
use Rattle.overload_test.proofs.Answers.{tested, is_refused}
use Rattle.overload_test.proofs.overload_test.Goals.{In_ok-input_refusal, Start}
use Rattle.overload_test.proofs.overload_test.Goals as goal

long : (c : Start) → length c.args.«record».durations ≡ TASKS
long c = search rules

-- no test failed
passed : (c : In_ok-input_refusal) → let a = c.args in AcceptedInput a.«record» a.earliest.now a.latest.now × (a.bars_fit ≡ true)
passed c = let a = c.args in (accepted_input a.«record» a.earliest.now a.latest.now a.bars_fit).0 (sym c.in_ok-input_refusal.ensures)

pub returns-in_err-input_refusal : goal.returns-in_err-input_refusal
returns-in_err-input_refusal c = search (is_refused, refusing, rules)

pub returns : goal.returns
returns c =
    let a = c.args in
    let (held, fit) = passed (goal.at.returns c).In_ok-input_refusal in
    tested a.«record» a.earliest.now a.latest.now a.bars_fit _ held fit (long (goal.at.returns c).Start) (ap Ok c.test_accepted.ensures)

pub test_accepted-requires : goal.test_accepted-requires
test_accepted-requires c = (passed (goal.at.test_accepted-requires c).In_ok-input_refusal).0
