use borrow.Author.Rules.{rules}
use Rattle.records.proofs.RefusedRuns.{ranges_first, bars_refuse, bars_pass}
use Rattle.records.proofs.refusals.input_refusal.Goals as goal

pub returns-in_err-range_refusal : goal.returns-in_err-range_refusal
returns-in_err-range_refusal c = search (ranges_first, rules)

pub returns-then-not-bars_fit : goal.returns-then-not-bars_fit
returns-then-not-bars_fit c = search (bars_refuse, rules)

pub returns : goal.returns
returns c = search (bars_pass, rules)
