-- Each number has at most ten bytes, so that there is room; and the phrases one after the other are the sentences.
use mathlib.Core.Path.{◌≡◌, ◌∙◌}
use Prim.Native.Nat.{◌-◌}
use native.Mathlib.Omega.{arith}
use lib.IntN.{pos, ◌-ℤ◌}
use mir.Syntax.{w32}
use mir.Val.{to_z, of_z}
use Rattle.integers.proofs.Ints.{back, back_of}
use Rattle.integers.specs.Texts.{bytes_of}
use Rattle.text.proofs.PutBytes.{puts_append}
use Rattle.pages.proofs.RightAligned.{start_fits}
use Rattle.conflict_pages.proofs.Widths.{count_fits, span_is, lct_fits}
use Rattle.conflict_pages.proofs.sentences.put_overload.Goals.{After-word_of, After-word_of-2, After-word_of-3}
use Rattle.conflict_pages.proofs.sentences.put_overload.Goals as goal

-- the numbers as words
long_is : (c : After-word_of) → to_z w32 (of_z w32 c.word_of.result) ≡ c.args.lct -ℤ c.args.est
long_is c =
    let a = c.args in
    back_of w32 c.word_of.result c.word_of.type_inv ∙ c.word_of.ensures ∙ span_is a.est a.p a.lct a.excess c.requires.0

p_is : (c : After-word_of-2) → to_z w32 (of_z w32 c.word_of-2.result) ≡ pos c.args.p
p_is c = back_of w32 c.word_of-2.result c.word_of-2.type_inv ∙ c.word_of-2.ensures

excess_is : (c : After-word_of-3) → to_z w32 (of_z w32 c.word_of-3.result) ≡ pos c.args.excess
excess_is c = back_of w32 c.word_of-3.result c.word_of-3.type_inv ∙ c.word_of-3.ensures

pub put_phrase-a-requires : goal.put_phrase-a-requires
put_phrase-a-requires c =
    let word = c.word_of in
    (omega (arith, c.requires.1), rw (back_of w32 word.result word.type_inv, word.ensures) (count_fits (c.args.p - c.args.excess) (omega (arith, c.requires.0.short))))

pub put_phrase-b-requires : goal.put_phrase-b-requires
put_phrase-b-requires c =
    (omega (arith, c.requires.1), rw (back c.ranges.est) (start_fits c.args.est c.requires.0.start))

pub put_phrase-c-requires : goal.put_phrase-c-requires
put_phrase-c-requires c =
    (omega (arith, c.requires.1), rw (back c.ranges.lct) (lct_fits c.args.est c.args.p c.args.lct c.args.excess c.requires.0))

pub put_phrase-d-requires : goal.put_phrase-d-requires
put_phrase-d-requires c =
    (omega (arith, c.requires.1), rw (p_is (goal.at.put_phrase-d-requires c).After-word_of-2) (count_fits c.args.p c.requires.0.short))

pub put_phrase-requires : goal.put_phrase-requires
put_phrase-requires c =
    (omega (arith, c.requires.1), rw (excess_is (goal.at.put_phrase-requires c).After-word_of-3) (count_fits c.args.excess (omega (arith, c.requires.0.less, c.requires.0.short))))

pub returns : goal.returns
unfolding bytes_of
returns c =
    let s = goal.at.returns c in
    record {
      text =
          puts_append
          (puts_append
          (puts_append (puts_append (rw (long_is s.After-word_of) at c.put_phrase-a.ensures.text) (rw (back c.ranges.est) at c.put_phrase-b.ensures.text))
          (rw (back c.ranges.lct) at c.put_phrase-c.ensures.text))
          (rw (p_is s.After-word_of-2) at c.put_phrase-d.ensures.text))
          (rw (excess_is s.After-word_of-3) at c.put_phrase.ensures.text);
      within = omega arith;
    }
