-- What refuses the bound's call goes before the words.
use Rattle.std.proofs.lemmas.Result.{err_from_is_err_and}
use Rattle.integers.proofs.RefusalNumbers.{never_zero}
use Rattle.records.proofs.LastTests.{tests_first}
use Rattle.precedences.proofs.reason.reason_refusal.Goals as goal

pub returns-in_err-bound_refusal : goal.returns-in_err-bound_refusal
returns-in_err-bound_refusal c = let p = err_from_is_err_and c.from_residual.result c.from_residual.ensures.1 in
    rw (p.1, p.2) (tests_first _ c.in_err-bound_refusal.ensures _ (never_zero _))
