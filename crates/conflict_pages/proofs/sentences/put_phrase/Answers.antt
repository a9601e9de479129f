-- The number and the words, one after the other, are the phrase.
use native.Mathlib.Omega.{arith}
use lib.ListN.{length-append}
use Rattle.integers.proofs.Ints.{back}
use Rattle.text.specs.DecimalText.{decimal}
use Rattle.text.proofs.PutBytes.{puts_append}
use Rattle.conflict_pages.specs.Sentences.{phrase}
use Rattle.conflict_pages.proofs.sentences.put_phrase.Goals as goal

pub returns : goal.returns
unfolding phrase
returns c =
    let text = puts_append (rw (back c.ranges.x) at c.put_number-a.ensures.text) c.put_bytes.ensures in
    record { text = text; within = omega (arith, text.end, length-append (decimal c.args.x) c.args.words.now, c.requires.1) }
