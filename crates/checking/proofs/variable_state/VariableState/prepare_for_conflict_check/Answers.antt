-- The two tests in their order, then the loop; `prepare_promise` turns each equation into what it means.
use mathlib.Core.Path.{sym, ◌∙◌}
use native.Mathlib.Omega.{arith}
use Rattle.integers.specs.declared.refused.Refusal.TheVariants as refusal
use Rattle.checking.specs.declared.variable_state.Application.TheVariants.{Refused}
use Rattle.checking.proofs.Promises.{prepare_promise}
use Rattle.checking.proofs.Remaining.{prepared_many, prepared_wrong}
use Rattle.checking.proofs.variable_state.VariableState.prepare_for_conflict_check.Goals as goal

pub returns-then-premises : goal.returns-then-premises
returns-then-premises c =
    let a = c.args in
    prepare_promise a.premises.now a.consequent.now _
    ((λ i. record { answer = Refused refusal.Premises; state = c.default.ensures.0 i }) ∙ sym (prepared_many a.premises.now a.consequent.now c.if-premises.true))

pub returns-then-not-lists_are_accepted : goal.returns-then-not-lists_are_accepted
returns-then-not-lists_are_accepted c =
    let a = c.args in
    let wrong = sym c.lists_are_accepted.ensures ∙ c.if-not-lists_are_accepted.true in
    prepare_promise a.premises.now a.consequent.now _
    ((λ i. record { answer = Refused refusal.Atoms; state = c.default-then-not-lists_are_accepted.ensures.0 i }) ∙ sym (prepared_wrong a.premises.now a.consequent.now (omega arith) wrong))

pub apply_all-requires : goal.apply_all-requires
apply_all-requires c = record { few = omega arith; right = sym c.lists_are_accepted.ensures ∙ c.if-not-lists_are_accepted.false }

pub returns : goal.returns
returns c = let a = c.args in prepare_promise a.premises.now a.consequent.now _ c.apply_all.ensures
