-- A bounded task is joined to those before it, or is the first.
use Rattle.std.proofs.Common.{◌≡◌, ◌∙◌, sym, ap, false, ◌+◌, get_or, arith}
use Rattle.std.specs.Prelude.{Some}
use Rattle.checker.specs.declared.intervals.Interval.{Interval}
use Rattle.checker.specs.BoundArrays.{interval, joined}
use Rattle.checker.proofs.EarlyAnswers.{found}
use Rattle.checker.proofs.TaskLoop.{one_more, none_gathered, sum_fits, next_gathered}
use Rattle.checker.proofs.intervals.gather.Goals as goal
use Rattle.checker.proofs.intervals.gather.Goals.{Joined-bounds-i, then-bounds-i+in-Some, then-bounds-i+in-None, else-bounds-i}

pub loop-i-init : goal.loop-i-init
loop-i-init c J Ω b = none_gathered J Ω

pub joined-requires : goal.joined-requires
joined-requires c =
    let (J, Ω, b) = c.requires in
    let l = c.loop-i in
    let p = sum_fits b.held b.late l.i c.loop-i-test.true in
    omega (arith, c.from-p.ensures, p, ap (λ (v : Interval). v.p) (found (sym c.in-Some.is ∙ l.invariant J Ω b)).1)

-- what the turn makes
abbrev task : Joined-bounds-i → Interval
task c =
    let b = c.args.bounds.now in
    let i = c.loop-i.i in
    interval (get_or b.est i 0) (get_or b.lst i 0 + get_or c.args.durations.now i 0) (get_or c.args.durations.now i 0)

turned : (c : Joined-bounds-i) → c.if-bounds-i.gathered ≡ one_more c.loop-i.gathered (get_or c.args.bounds.now.bounded c.loop-i.i false) (task c)
turned c = elim c.if-bounds-i.branch [
  | then-bounds-i+in-Some w ↦ rw (w.if-bounds-i.true, w.in-Some.is)
      (w.gathered-is ∙ ap (λ (v : Interval). Some v) (w.joined.ensures ∙ λ i. joined w.in-Some.others (interval (w.from.ensures i) (w.from-then-bounds-i.ensures i + w.from-p.ensures i) (w.from-p.ensures i))))
  | then-bounds-i+in-None w ↦ rw (w.if-bounds-i.true, w.in-None.is)
      (w.gathered-is ∙ λ i. Some (interval (w.from.ensures i) (w.from-then-bounds-i.ensures i + w.from-p.ensures i) (w.from-p.ensures i)))
  | else-bounds-i w ↦ rw w.if-bounds-i.false w.gathered-is
]

pub loop-i-preserved : goal.loop-i-preserved
loop-i-preserved c J Ω b =
    turned c ∙ next_gathered b.held b.late c.loop-i.i c.loop-i-test.true c.loop-i.gathered (c.loop-i.invariant J Ω b)
