-- The state is the prepared one, so that the bounds are its domains'.
use Rattle.std.proofs.Common.{◌∙◌, ap, rules, tests}
use Rattle.checking.specs.declared.variable_state.Applied.{Applied}
use Rattle.checking.specs.declared.variable_state.VariableState.{VariableState}
use Rattle.checking.specs.States.{AcceptedState, domain_at}
use Rattle.checking.specs.TaskBounds.{bounds_of_task, bounds_among}
use Rattle.checking.proofs.Bounds.{bounds_among_are}
use Rattle.checking.proofs.PreparedStates.{prepared_accepted}
use Rattle.checking.proofs.prepared_bounds.prepare_domains.Goals as goal

pub returns : goal.returns
returns c =
    let a = c.args in
    let s : VariableState = c.apply_all-applied.result.state in
    let e = c.apply_all-applied.ensures in
    let accepted : AcceptedState s = rw e (prepared_accepted a.premises.now a.consequent.now) in
    record {
      answer = ap (λ (r : Applied). r.answer) e;
      bounds = λ _. c.fill.ensures (λ k. bounds_of_task (domain_at s k)) (λ k r h q. search (rules, tests)) ∙ bounds_among_are s accepted a.n c.requires.0
          ∙ ap (λ (r : Applied). bounds_among r.state a.n) e;
    }
