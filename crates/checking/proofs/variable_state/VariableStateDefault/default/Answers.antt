use Rattle.integers.specs.Limits.{VARIABLES}
use Rattle.std.proofs.Math.ListN.{replicate}
use Rattle.checking.proofs.Promises.{empty_promise}
use Rattle.checking.proofs.variable_state.VariableStateDefault.default.Goals as goal

pub returns : goal.returns
returns c = empty_promise _ (λ i. record { domains = replicate VARIABLES (c.all_integers.ensures i) })
