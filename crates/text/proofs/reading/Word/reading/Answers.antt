-- By the word, each way the definition's.
use Rattle.text.specs.Scanner.{reading_of}
use Rattle.text.proofs.reading.Word.reading.Goals as goal

pub returns-in-Empty : goal.returns-in-Empty
unfolding reading_of
returns-in-Empty c = rw c.in-Empty.is

pub returns-in-Minus : goal.returns-in-Minus
unfolding reading_of
returns-in-Minus c = rw c.in-Minus.is

pub returns-in-Digits : goal.returns-in-Digits
unfolding reading_of
returns-in-Digits c = rw c.in-Digits.is c.signed.ensures

pub returns-in-Wrong : goal.returns-in-Wrong
unfolding reading_of
returns-in-Wrong c = rw c.in-Wrong.is
