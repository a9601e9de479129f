-- Each field has its width, so that its place is known, and the fields one after the other are the line.
use mathlib.Core.Path.{◌≡◌, ap, ◌∙◌}
use native.Mathlib.Omega.{arith}
use lib.IntN.{ℤ, pos, ◌+ℤ◌}
use mir.Syntax.{w32}
use mir.Val.{to_z, of_z}
use Rattle.integers.proofs.Ints.{back, back_of}
use Rattle.integers.specs.Texts.{bytes_of}
use Rattle.pages.proofs.RightAligned.{task_fits, start_fits, end_fits, puts_line}
use Rattle.pages.proofs.lines.put_line.Goals.{After-end_of-end, After-word_of}
use Rattle.pages.proofs.lines.put_line.Goals as goal

-- the end as a word
end_is : (c : After-end_of-end) → to_z w32 (of_z w32 c.end_of-end.result) ≡ c.args.start +ℤ pos c.args.duration
end_is c = back_of w32 c.end_of-end.result c.end_of-end.type_inv ∙ c.end_of-end.ensures ∙ ap (λ (z : ℤ). z +ℤ pos c.args.duration) (back c.ranges.start)

-- the task's number as a word
task_is : (c : After-word_of) → to_z w32 (of_z w32 c.word_of.result) ≡ pos c.args.task
task_is c = back_of w32 c.word_of.result c.word_of.type_inv ∙ c.word_of.ensures

pub put_right-a-requires : goal.put_right-a-requires
put_right-a-requires c = (omega (arith, c.requires.0), rw (task_is (goal.at.put_right-a-requires c).After-word_of) (task_fits c.args.task c.requires.1), omega arith)

pub put_right-c-requires : goal.put_right-c-requires
put_right-c-requires c =
    (omega (arith, c.requires.0), rw (back c.ranges.start) (omega (arith, start_fits c.args.start c.requires.2)), omega arith)

pub put_right-e-requires : goal.put_right-e-requires
put_right-e-requires c =
    (omega (arith, c.requires.0), rw (end_is (goal.at.put_right-e-requires c).After-end_of-end) (omega (arith, end_fits c.args.start c.args.duration c.requires.2 c.requires.3)), omega arith)

pub returns : goal.returns
unfolding bytes_of
returns c =
    puts_line c.args.task c.args.start (c.args.start +ℤ pos c.args.duration) (task_is (goal.at.returns c).After-word_of) (back c.ranges.start) (end_is (goal.at.returns c).After-end_of-end)
    c.put_right-a.ensures.text c.put_bytes-b.ensures c.put_right-c.ensures.text c.put_bytes-d.ensures c.put_right-e.ensures.text c.put_bytes.ensures
