-- Each number has at most ten bytes, the task's two, so that there is room; and the phrases one after the other are the sentence.
use mathlib.Core.Path.{◌≡◌, ap, ◌∙◌}
use mathlib.Core.List.{◌++◌}
use Prim.Native.Nat.{◌+◌, ◌≤◌}
use native.Mathlib.Omega.{arith}
use lib.IntN.{ℤ, pos, ◌+ℤ◌}
use lib.ListN.{length}
use mir.Syntax.{w32}
use mir.Val.{to_z, of_z}
use Rattle.integers.proofs.Ints.{back, back_of}
use Rattle.integers.specs.Texts.{bytes_of}
use Rattle.text.specs.DecimalText.{decimal, Puts}
use Rattle.text.proofs.PutBytes.{puts_append}
use Rattle.pages.proofs.RightAligned.{task_fits, start_fits, end_fits}
use Rattle.conflict_pages.proofs.Widths.{count_fits}
use Rattle.conflict_pages.proofs.sentences.put_sum.Goals.{After-end_of-sum, After-put_bytes-b, After-word_of, After-word_of-2}
use Rattle.conflict_pages.proofs.sentences.put_sum.Goals as goal

-- the numbers as words
sum_is : (c : After-end_of-sum) → to_z w32 (of_z w32 c.end_of-sum.result) ≡ c.args.est +ℤ pos c.args.p
sum_is c = back_of w32 c.end_of-sum.result c.end_of-sum.type_inv ∙ c.end_of-sum.ensures ∙ ap (λ (z : ℤ). z +ℤ pos c.args.p) (back c.ranges.est)

task_is : (c : After-word_of) → to_z w32 (of_z w32 c.word_of.result) ≡ pos c.args.task
task_is c = back_of w32 c.word_of.result c.word_of.type_inv ∙ c.word_of.ensures

p_is : (c : After-word_of-2) → to_z w32 (of_z w32 c.word_of-2.result) ≡ pos c.args.p
p_is c = back_of w32 c.word_of-2.result c.word_of-2.type_inv ∙ c.word_of-2.ensures

-- the task with what it does, and how many bytes they have at most
claim : (c : After-put_bytes-b) → Puts c.args.out.now c.put_bytes-b.new.out c.args.at (decimal (pos c.args.task) ++ c.args.does.now) c.put_bytes-b.result
    × (c.put_bytes-b.result ≤ c.args.at + 2 + length c.args.does.now)
claim c =
    let task = rw (task_is (goal.at.After-put_bytes-b c).After-word_of) at c.put_number-a.ensures.text in
    (puts_append task c.put_bytes-b.ensures, omega (arith, task.end, c.put_bytes-b.ensures.end, task_fits c.args.task c.requires.0.small))

pub put_phrase-c-requires : goal.put_phrase-c-requires
put_phrase-c-requires c =
    (omega (arith, (claim (goal.at.put_phrase-c-requires c).After-put_bytes-b).1, c.requires.1), rw (back c.ranges.est) (start_fits c.args.est c.requires.0.start))

pub put_phrase-d-requires : goal.put_phrase-d-requires
put_phrase-d-requires c =
    let s = goal.at.put_phrase-d-requires c in
    (omega (arith, (claim s.After-put_bytes-b).1, c.requires.1), rw (p_is s.After-word_of-2) (count_fits c.args.p c.requires.0.short))

pub put_phrase-e-requires : goal.put_phrase-e-requires
put_phrase-e-requires c =
    let s = goal.at.put_phrase-e-requires c in
    (omega (arith, (claim s.After-put_bytes-b).1, c.requires.1), rw (sum_is s.After-end_of-sum) (end_fits c.args.est c.args.p c.requires.0.start c.requires.0.short))

pub put_phrase-requires : goal.put_phrase-requires
put_phrase-requires c =
    (omega (arith, (claim (goal.at.put_phrase-requires c).After-put_bytes-b).1, c.requires.1), rw (back c.ranges.past) c.requires.0.few)

pub returns : goal.returns
unfolding bytes_of
returns c =
    let s = goal.at.returns c in
    record {
      text =
          puts_append
          (puts_append
          (puts_append (puts_append (claim s.After-put_bytes-b).0 (rw (back c.ranges.est) at c.put_phrase-c.ensures.text)) (rw (p_is s.After-word_of-2) at c.put_phrase-d.ensures.text))
          (rw (sum_is s.After-end_of-sum) at c.put_phrase-e.ensures.text))
          (rw (back c.ranges.past) at c.put_phrase.ensures.text);
      within = omega (arith, (claim s.After-put_bytes-b).1);
    }
