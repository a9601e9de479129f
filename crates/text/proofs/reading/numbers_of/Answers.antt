-- `scanned`: the scanner at the text's end has what the words of the text read.
use Rattle.text.proofs.ScannedNumbers.{scanned}
use Rattle.text.proofs.reading.numbers_of.Goals as goal

pub returns : goal.returns
returns c = rw (c.finish.ensures, c.feed.ensures, c.new.ensures) (scanned _)
