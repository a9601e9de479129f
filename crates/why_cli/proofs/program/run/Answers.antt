-- What `Why` answers to a text is what `written` says of it.
use Rattle.why_cli.specs.Written.{written}
use Rattle.why_cli.proofs.program.run.Goals as goal

pub returns : goal.returns
unfolding written
returns g c = c.run.ensures
