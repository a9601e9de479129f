-- Beyond a tenth of BEYOND the next magnitude is beyond BEYOND, and up to it nothing overflows.
use mathlib.Core.Path.{sym}
use native.Mathlib.Omega.{arith}
use borrow.Author.Tests.{ltb-true, ltb-false}
use Rattle.text.proofs.Bytes.{digit_low, digit_high, after_other, after_small, after_large}
use Rattle.text.proofs.reading.with_digit.Goals.{then-byte-lt48-via-then-byte-lt48, then-byte-lt48-via-else-byte-lt48+then-byte-gt57}
use Rattle.text.proofs.reading.with_digit.Goals as goal

pub returns-then-byte-lt48 : goal.returns-then-byte-lt48
returns-then-byte-lt48 c =
    let b = c.args.byte in
    sym (after_other _ _ b (elim c.then-byte-lt48.branch [ then-byte-lt48-via-then-byte-lt48 w ↦ digit_low b (omega arith) | then-byte-lt48-via-else-byte-lt48+then-byte-gt57 w ↦ digit_high b (omega (arith, ltb-true)) ]))

pub returns-then-magnitude : goal.returns-then-magnitude
returns-then-magnitude c =
    let s = c.args in
    sym (after_large _ s.magnitude s.byte (omega (arith, ltb-false)) (omega (arith, ltb-false)) (omega arith))

pub returns : goal.returns
returns c =
    let s = c.args in
    sym (after_small _ s.magnitude s.byte (omega (arith, ltb-false)) (omega (arith, ltb-false)) (omega arith))
