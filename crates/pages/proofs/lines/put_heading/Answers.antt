-- The code's bytes are those of the heading's text.
use borrow.Author.Rules.{rules}
use Rattle.integers.specs.Texts.{bytes_of}
use Rattle.pages.proofs.lines.put_heading.Goals as goal

pub returns : goal.returns
unfolding bytes_of
returns c = search rules
