-- No numbers and the empty word are the start.
use Rattle.text.proofs.reading.Scanner.new.Goals as goal

pub returns : goal.returns
returns c = rw c.none.ensures
