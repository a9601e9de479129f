use borrow.Author.Rules.{rules}
use mathlib.Core.Path.{◌≡◌}
use native.Mathlib.Omega.{arith}
use lib.IntN.{pos}
use lib.ListN.{length, get_or}
use mir.Syntax.{w32}
use Rattle.integers.proofs.Ints.{back_of}
use Rattle.integers.specs.Texts.{bytes_of}
use Rattle.conflicts.specs.Answers.{flagged}
use Rattle.text.proofs.PutBytes.{puts_append, puts_length}
use Rattle.conflict_pages.specs.TaskLines.{line_at}
use Rattle.conflict_pages.proofs.ChosenTasks.{puts_none, puts_next, puts_same}
use Rattle.conflict_pages.proofs.lines.put_lines.Goals.{then-shown, else-shown}
use Rattle.conflict_pages.proofs.lines.put_lines.Goals as goal

pub put_bytes-at-requires : goal.put_bytes-at-requires
put_bytes-at-requires c = omega (arith, c.requires.space)

pub loop-k-init : goal.loop-k-init
loop-k-init c = let a = c.args in (omega arith, puts_none (flagged a.chosen.now) (line_at a.marked.now a.earliest.now a.latest.now a.durations.now) _ _)

pub put_line-at-requires : goal.put_line-at-requires
put_line-at-requires c =
    let l = c.loop-k in
    let heading = c.put_bytes-at.ensures in
    let q = c.loop-k-test.true in
    let from = get_or c.args.earliest.now l.k (pos 0) in
    let to = get_or c.args.latest.now l.k (pos 0) in (
      omega (arith, l.invariant.0, heading.end, puts_length heading, c.requires.space, q),
      omega (arith, q, c.requires.few),
      rw (back_of w32 from (search rules)) (c.requires.earliest l.k q),
      rw (back_of w32 to (search rules)) (c.requires.latest l.k q),
      c.requires.durations l.k q,
    )

pub loop-k-preserved : goal.loop-k-preserved
loop-k-preserved c =
    let a = c.args in
    let l = c.loop-k in
    let from = back_of w32 (get_or a.earliest.now l.k (pos 0)) (search rules) in
    let to = back_of w32 (get_or a.latest.now l.k (pos 0)) (search rules) in
    let line = line_at a.marked.now a.earliest.now a.latest.now a.durations.now in
    elim c.if-shown.branch [
      | then-shown w ↦ rw (w.at-is, w.out-is) (
        omega (arith, w.put_line-at.ensures.wide, l.invariant.0),
        puts_next (flagged a.chosen.now) line l.k w.if-shown.true l.invariant.1 (rw (from, to) at w.put_line-at.ensures.text),
      )
      | else-shown w ↦ rw (w.at-is, w.out-is) (omega (arith, l.invariant.0), puts_same (flagged a.chosen.now) line l.k w.if-shown.false l.invariant.1)
    ]

pub returns : goal.returns
unfolding bytes_of
returns c =
    let l = c.loop-k in
    let heading = c.put_bytes-at.ensures in
    let e : l.k ≡ length c.args.earliest.now = omega arith in
    record { text = puts_append heading (rw e at l.invariant.1); within = omega (arith, l.invariant.0, heading.end, e) }
