-- Where nothing refuses, the record is lawful, so that its sum fits 32 bits.
use mathlib.Core.Path.{sym, ◌∙◌}
use native.Mathlib.Omega.{arith}
use lib.Seq.{length-take-le}
use Rattle.records.proofs.Creation.{refused_made, few_made, stored_small, accepted_made}
use Rattle.records.proofs.record.create.Goals as goal

pub returns-then-is_err : goal.returns-then-is_err
returns-then-is_err c = rw c.zeros.ensures (refused_made _ _ c.creation_refusal-answer.ensures.0 (sym c.is_err.ensures.value ∙ c.if-is_err.true))

pub slice_bounds-lengths-end : goal.slice_bounds-lengths-end
slice_bounds-lengths-end c = omega (arith, few_made c.args.durations.now c.creation_refusal-answer.result c.creation_refusal-answer.ensures.0 (sym c.is_err.ensures.value ∙ c.if-is_err.false), c.creation_refusal-answer.array_long)

pub slice_bounds-total_of-end : goal.slice_bounds-total_of-end
slice_bounds-total_of-end c = sym (length-take-le _ _ (omega (arith, few_made c.args.durations.now c.creation_refusal-answer.result c.creation_refusal-answer.ensures.0 (sym c.is_err.ensures.value ∙ c.if-is_err.false), c.creation_refusal-answer.array_long)))

pub overflow_cast-total : goal.overflow_cast-total
overflow_cast-total c = record {
  fits = omega (arith, stored_small _ _ c.creation_refusal-answer.ensures.0 (sym c.is_err.ensures.value ∙ c.if-is_err.false) _ c.creation_refusal-answer.array_long c.creation_refusal-answer.ensures.1 _ c.total_of-total.ensures);
}

pub returns : goal.returns
returns c = accepted_made _ _ c.creation_refusal-answer.ensures.0 (sym c.is_err.ensures.value ∙ c.if-is_err.false) _ c.creation_refusal-answer.array_long c.creation_refusal-answer.ensures.1 _ c.total_of-total.ensures
