-- Twelve spaces stand before the number, so the last `width` bytes of the two are the number padded on the left.
use native.Mathlib.Omega.{arith}
use Rattle.integers.proofs.Ints.{back}
use Rattle.text.specs.DecimalText.{decimal}
use Rattle.pages.proofs.RightAligned.{pad_length, right_aligned}
use Rattle.pages.proofs.lines.put_right.Goals as goal

pub returns : goal.returns
returns c =
    let x = c.args.x in
    let text = right_aligned c.args.width x (back c.ranges.x) c.put_number-end.ensures.text c.requires.1 c.requires.2 c.put_bytes.ensures in
    record { text = text; wide = omega (arith, text.end, pad_length c.args.width (decimal x) c.requires.1) }
