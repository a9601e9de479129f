-- The equation of `bound`, which `upper_promise` turns into what it means.
use mathlib.Core.Path.{◌∙◌, ap}
use Rattle.integers.proofs.Ints.{back}
use Rattle.checking.specs.States.{bound_of, upper_of}
use Rattle.checking.proofs.Promises.{upper_promise}
use Rattle.checking.proofs.variable_state.VariableState.upper_bound.Goals as goal

pub returns : goal.returns
returns c =
    upper_promise c.args.self c.args.variable c.bound.ensures.1 _ (c.bound.ensures.0 ∙ ap (bound_of upper_of c.args.self) (back c.ranges.variable))
