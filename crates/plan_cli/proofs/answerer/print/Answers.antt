-- The numbers of the text are those that are answered.
use Rattle.text.specs.Numbers.{numbers_in}
use Rattle.plan_cli.proofs.FirstBytes.{written}
use Rattle.plan_cli.proofs.answerer.print.Goals as goal

pub returns : goal.returns
returns g c = written (c.put.ensures.text (numbers_in c.args.text.now) c.numbers_of.ensures) c.put.ensures.within
