use Rattle.std.proofs.Common.{◌≡◌, List, length, rules, tests}
use Rattle.std.proofs.lemmas.Iterator.{cases_from_all, YieldsList-from_slice}
use Rattle.integers.specs.Limits.{VARIABLES}
use Rattle.checking.specs.declared.domain.Domain.{Domain}
use Rattle.checking.proofs.AcceptedStates.{Yes, No, tested_domains}
use Rattle.checking.proofs.variable_state.VariableState.is_accepted.Goals as goal

pub returns : goal.returns
returns c =
    let ds : List Domain = c.args.self.now.domains in
    let size : length ds ≡ VARIABLES = search rules in
    tested_domains ds _ size (cases_from_all _ _ _ Yes No c.all.ensures.ran (YieldsList-from_slice ds cc) (λ x q k. search (rules, tests)) (λ x q k. search (rules, tests)))
