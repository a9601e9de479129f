-- What the last word reads, put after the numbers.
use mathlib.Core.Path.{ap, ◌∙◌}
use Rattle.text.specs.Scanner.{reading_added}
use Rattle.text.proofs.reading.Scanner.finish.Goals as goal

pub returns : goal.returns
returns c = c.with_reading.ensures ∙ ap (reading_added _) c.reading.ensures
