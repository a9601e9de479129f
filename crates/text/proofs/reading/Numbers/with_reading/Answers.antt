-- By the reading, each way the definition's.
use mir.Syntax.{w32}
use borrow.Author.Rules.{rules}
use Rattle.integers.proofs.Ints.{back_of}
use Rattle.text.specs.Scanner.{reading_added}
use Rattle.text.proofs.reading.Numbers.with_reading.Goals as goal

pub returns-in-Number : goal.returns-in-Number
unfolding reading_added
returns-in-Number c = rw c.in-Number.is (rw (back_of w32 c.in-Number.x (search rules)) at c.with_number.ensures)

pub returns-in-Nothing : goal.returns-in-Nothing
unfolding reading_added
returns-in-Nothing c = rw c.in-Nothing.is

pub returns-in-Wrong : goal.returns-in-Wrong
unfolding reading_added
returns-in-Wrong c = rw c.in-Wrong.is c.invalid.ensures
