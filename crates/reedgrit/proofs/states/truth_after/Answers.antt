-- Where the query's own words are accepted, the premises' tests are the query's.
use mathlib.Core.Path.{sym, ap, ◌∙◌}
use Rattle.integers.proofs.Ints.{back}
use Rattle.checking.specs.Atoms.{right_atom}
use Rattle.checking.specs.Answers.{numbers_of_truth}
use Rattle.checking.specs.States.{truth_of}
use Rattle.checking.proofs.StateNumbers.{applied_apart}
use Rattle.answers.specs.SourceAnswers.{state_answer, queried_at}
use Rattle.reedgrit.proofs.StateTests.{unfit, fit}
use Rattle.reedgrit.proofs.states.truth_after.Goals as goal

pub returns-then-not-atom_is_accepted : goal.returns-then-not-atom_is_accepted
returns-then-not-atom_is_accepted c =
    c.refusal_numbers.ensures
    ∙ unfit c.args.premises.now (right_atom c.args.variable c.args.kind c.args.value) (λ t. numbers_of_truth (truth_of t c.args.variable c.args.kind c.args.value))
    (sym (c.atom_is_accepted.ensures ∙ (λ i. right_atom (back c.ranges.variable i) (back c.ranges.kind i) (back c.ranges.value i))) ∙ c.if-not-atom_is_accepted.true)
    _ (c.number.ensures ∙ c.unfit_reason.ensures)

pub returns : goal.returns
returns c =
    let made = c.prepare_for_conflict_check-applied in
    c.state_numbers.ensures
    ∙ ap (queried_at made.result.answer) (c.truth_numbers-here.ensures ∙ ap state_answer c.is_true.ensures.equals
    ∙ (λ i. state_answer (numbers_of_truth (truth_of made.result.state (back c.ranges.variable i) (back c.ranges.kind i) (back c.ranges.value i)))))
    ∙ fit c.args.premises.now (right_atom c.args.variable c.args.kind c.args.value) (λ t. numbers_of_truth (truth_of t c.args.variable c.args.kind c.args.value))
    (sym (c.atom_is_accepted.ensures ∙ (λ i. right_atom (back c.ranges.variable i) (back c.ranges.kind i) (back c.ranges.value i))) ∙ c.if-not-atom_is_accepted.false) made.result (applied_apart made.ensures.equals)
