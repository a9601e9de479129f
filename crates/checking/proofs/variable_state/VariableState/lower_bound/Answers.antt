-- The equation of `bound`, which `lower_promise` turns into what it means.
use mathlib.Core.Path.{◌∙◌, ap}
use Rattle.integers.proofs.Ints.{back}
use Rattle.checking.specs.States.{bound_of, lower_of}
use Rattle.checking.proofs.Promises.{lower_promise}
use Rattle.checking.proofs.variable_state.VariableState.lower_bound.Goals as goal

pub returns : goal.returns
returns c =
    lower_promise c.args.self c.args.variable c.bound.ensures.1 _ (c.bound.ensures.0 ∙ ap (bound_of lower_of c.args.self) (back c.ranges.variable))
