-- What `Plan` answers to a text is what `printed` says of it.
use Rattle.plan_cli.specs.Printed.{printed}
use Rattle.plan_cli.proofs.program.run.Goals as goal

pub returns : goal.returns
unfolding printed
returns g c = c.run.ensures
