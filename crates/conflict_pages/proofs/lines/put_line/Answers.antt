-- Each field has its width, so that its place is known, and the fields one after the other are the line.
use mathlib.Core.Path.{◌≡◌, ap, ◌∙◌}
use Prim.Native.Nat.{◌+◌}
use native.Mathlib.Omega.{arith}
use lib.IntN.{ℤ, pos, ◌+ℤ◌}
use mir.Syntax.{w32}
use mir.Val.{to_z, of_z}
use Rattle.integers.proofs.Ints.{back, back_of}
use Rattle.integers.specs.Texts.{bytes_of}
use Rattle.text.specs.DecimalText.{decimal, Puts}
use Rattle.text.proofs.PutBytes.{puts_append}
use Rattle.pages.proofs.RightAligned.{task_fits, start_fits, end_fits}
use Rattle.conflict_pages.specs.Lines.{columns}
use Rattle.conflict_pages.proofs.Widths.{count_fits}
use Rattle.conflict_pages.proofs.lines.put_line.Goals.{After-end_of-until, After-put_right-d, After-word_of, After-word_of-2}
use Rattle.conflict_pages.proofs.lines.put_line.Goals as goal

-- the numbers as words
until_is : (c : After-end_of-until) → to_z w32 (of_z w32 c.end_of-until.result) ≡ c.args.latest +ℤ pos c.args.duration
until_is c = back_of w32 c.end_of-until.result c.end_of-until.type_inv ∙ c.end_of-until.ensures ∙ ap (λ (z : ℤ). z +ℤ pos c.args.duration) (back c.ranges.latest)

task_is : (c : After-word_of) → to_z w32 (of_z w32 c.word_of.result) ≡ pos c.args.task
task_is c = back_of w32 c.word_of.result c.word_of.type_inv ∙ c.word_of.ensures

takes_is : (c : After-word_of-2) → to_z w32 (of_z w32 c.word_of-2.result) ≡ pos c.args.duration
takes_is c = back_of w32 c.word_of-2.result c.word_of-2.type_inv ∙ c.word_of-2.ensures

pub put_right-a-requires : goal.put_right-a-requires
put_right-a-requires c =
    (omega (arith, c.requires.0), rw (task_is (goal.at.put_right-a-requires c).After-word_of) (omega (arith, task_fits c.args.task c.requires.1)), omega arith)

pub put_right-b-requires : goal.put_right-b-requires
put_right-b-requires c =
    (omega (arith, c.requires.0), rw (back c.ranges.earliest) (omega (arith, start_fits c.args.earliest c.requires.2)), omega arith)

pub put_right-c-requires : goal.put_right-c-requires
put_right-c-requires c =
    (omega (arith, c.requires.0), rw (until_is (goal.at.put_right-c-requires c).After-end_of-until) (omega (arith, end_fits c.args.latest c.args.duration c.requires.3 c.requires.4)), omega arith)

pub put_right-d-requires : goal.put_right-d-requires
put_right-d-requires c =
    (omega (arith, c.requires.0), rw (takes_is (goal.at.put_right-d-requires c).After-word_of-2) (omega (arith, count_fits c.args.duration c.requires.4)), omega arith)

-- the four fields, and the place after them
fields : (c : After-put_right-d) → Puts c.args.out.now c.put_right-d.new.out c.args.at
    (columns (decimal (pos c.args.task)) (decimal c.args.earliest) (decimal (c.args.latest +ℤ pos c.args.duration)) (decimal (pos c.args.duration))) c.put_right-d.result
    × (c.put_right-d.result ≡ c.args.at + 40)
unfolding columns
fields c =
    let s = goal.at.After-put_right-d c in (
      puts_append
          (puts_append
          (puts_append (rw (task_is s.After-word_of) at c.put_right-a.ensures.text) (rw (back c.ranges.earliest) at c.put_right-b.ensures.text))
          (rw (until_is s.After-end_of-until) at c.put_right-c.ensures.text))
          (rw (takes_is s.After-word_of-2) at c.put_right-d.ensures.text),
      omega arith,
    )

pub returns-then-marked : goal.returns-then-marked
unfolding bytes_of
returns-then-marked c =
    let f = fields (goal.at.returns-then-marked c).After-put_right-d in
    record { text = rw c.if-marked.true (puts_append f.0 c.put_bytes.ensures); wide = omega (arith, f.1, c.put_bytes.ensures.end) }

pub returns : goal.returns
unfolding bytes_of
returns c =
    let f = fields (goal.at.returns c).After-put_right-d in
    record { text = rw c.if-marked.false (puts_append f.0 c.put_bytes-2.ensures); wide = omega (arith, f.1, c.put_bytes-2.ensures.end) }
