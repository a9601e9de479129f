-- Where the variable is known, the tests of the premises are those of the call, and the state's own answer is passed on.
use mathlib.Core.Path.{sym, ap, ◌∙◌}
use Rattle.integers.proofs.Ints.{back}
use Rattle.checking.specs.Atoms.{right_variable}
use Rattle.std.specs.Prelude.{Result}
use Rattle.integers.specs.declared.refused.Refusal.{Refusal}
use Rattle.checking.specs.declared.int_ext.IntExt.{IntExt}
use Rattle.checking.specs.Answers.{numbers_of_bound}
use Rattle.checking.specs.States.{side_of, bound_of}
use Rattle.checking.proofs.StateNumbers.{applied_apart}
use Rattle.answers.specs.SourceAnswers.{state_answer, queried_at}
use Rattle.reedgrit.proofs.StateTests.{unfit, fit}
use Rattle.reedgrit.proofs.states.bound_after.Goals as goal

pub returns-then-not-variable_is_accepted : goal.returns-then-not-variable_is_accepted
returns-then-not-variable_is_accepted c =
    c.refusal_numbers.ensures
    ∙ unfit c.args.premises.now (right_variable c.args.variable) (λ t. numbers_of_bound (bound_of (side_of c.args.side) t c.args.variable))
    (sym (c.variable_is_accepted.ensures ∙ ap right_variable (back c.ranges.variable)) ∙ c.if-not-variable_is_accepted.true)
    _ (c.number.ensures ∙ c.unfit_reason.ensures)

pub returns : goal.returns
returns c =
    let made = c.prepare_for_conflict_check-applied in
    c.state_numbers.ensures
    ∙ ap (queried_at made.result.answer) (c.bound_numbers-here.ensures ∙ ap (λ (b : Result IntExt Refusal). state_answer (numbers_of_bound b)) c.bound.ensures.0
    ∙ (λ i. state_answer (numbers_of_bound (bound_of (side_of c.args.side) made.result.state (back c.ranges.variable i)))))
    ∙ fit c.args.premises.now (right_variable c.args.variable) (λ t. numbers_of_bound (bound_of (side_of c.args.side) t c.args.variable))
    (sym (c.variable_is_accepted.ensures ∙ ap right_variable (back c.ranges.variable)) ∙ c.if-not-variable_is_accepted.false) made.result (applied_apart made.ensures.equals)
