-- By the word, each way the definition's; in the empty word a minus goes before the digits.
use borrow.Author.Tests.{eq-eqb, ne_eqb}
use Rattle.text.specs.Scanner.{next_of}
use Rattle.text.proofs.reading.Word.next.Goals as goal

pub returns-then-byte-eq45 : goal.returns-then-byte-eq45
unfolding next_of
returns-then-byte-eq45 c = rw (c.in-Empty.is, eq-eqb _ _ c.if-byte-eq45.true, next_of)

pub returns-else-byte-eq45 : goal.returns-else-byte-eq45
unfolding next_of
returns-else-byte-eq45 c = rw (c.in-Empty.is, ne_eqb _ _ c.if-byte-eq45.false, next_of) c.with_digit.ensures

pub returns-in-Minus : goal.returns-in-Minus
unfolding next_of
returns-in-Minus c = rw c.in-Minus.is c.with_digit-in-Minus.ensures

pub returns-in-Digits : goal.returns-in-Digits
unfolding next_of
returns-in-Digits c = rw c.in-Digits.is c.with_digit-in-Digits.ensures

pub returns-in-Wrong : goal.returns-in-Wrong
unfolding next_of
returns-in-Wrong c = rw c.in-Wrong.is
