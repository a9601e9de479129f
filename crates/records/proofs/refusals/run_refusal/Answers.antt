-- The record, its ranges and their bars go before; then the words, whose products fit as there are at most TASKS tasks.
use mathlib.Core.Path.{ap}
use native.Mathlib.Omega.{arith}
use borrow.Author.Rules.{rules}
use Rattle.integers.specs.Refused.{number_in}
use Rattle.records.proofs.RefusedRuns.{few_tasks, input_first, words_short, words_enough}
use Rattle.records.proofs.TestsInOrder.{in_order}
use Rattle.records.proofs.refusals.run_refusal.Goals.{then-post_words-n-via-then-post_words-n, then-post_words-n-via-else-post_words-n+then-atom_words-n}
use Rattle.records.proofs.refusals.run_refusal.Goals as goal

pub returns-in_err-input_refusal : goal.returns-in_err-input_refusal
returns-in_err-input_refusal c = search (input_first, rules)

pub overflow_mul-n : goal.overflow_mul-n
overflow_mul-n c = record { fits = omega (arith, few_tasks _ _ _ _ c.input_refusal.ensures (ap number_in c.in_ok-input_refusal.was)) }

pub overflow_mul-n-else-post_words-n : goal.overflow_mul-n-else-post_words-n
overflow_mul-n-else-post_words-n c = record { fits = omega (arith, few_tasks _ _ _ _ c.input_refusal.ensures (ap number_in c.in_ok-input_refusal.was)) }

pub overflow_mul-n-else-post_words-n-2 : goal.overflow_mul-n-else-post_words-n-2
overflow_mul-n-else-post_words-n-2 c = record { fits = omega (arith, few_tasks _ _ _ _ c.input_refusal.ensures (ap number_in c.in_ok-input_refusal.was)) }

pub returns-then-post_words-n : goal.returns-then-post_words-n
returns-then-post_words-n c = elim c.then-post_words-n.branch [
  | then-post_words-n-via-then-post_words-n w ↦ search (words_short, in_order, rules)
  | then-post_words-n-via-else-post_words-n+then-atom_words-n w ↦ search (words_short, in_order, rules)
]

pub returns : goal.returns
returns c = search (words_enough, in_order, rules)
