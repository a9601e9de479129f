use Rattle.conflicts.proofs.suffixes.suffix_to.Goals.{then-left-k+else-m-k, else-left-k, In-loop-k, After-sort_numbers}
use mathlib.Core.Path.{◌≡◌, refl, sym, ap, subst}
use Prim.Native.Nat.{ℕ, ◌<◌}
use native.Mathlib.Omega.{arith}
use lib.ListN.{length, take}
use lib.Seq.{length-take-le}
use Rattle.conflicts.specs.declared.spans.Span.{Span}
use Rattle.conflicts.proofs.SuffixWalk.{in_order, Walked, begins, known, sum_fits, stops, drops_fit, drops, skips, ends}
use Rattle.conflicts.proofs.suffixes.suffix_to.Goals as goal

long : (c : After-sort_numbers) → length (take c.args.m.now.count c.sort_numbers.new.order) ≡ c.args.m.now.count
long c = length-take-le c.args.m.now.count c.sort_numbers.new.order (omega (arith, c.requires.holds.held.few, c.sort_numbers.ensures.size))

inside : (c : In-loop-k) → c.loop-k.k-index < c.args.m.now.count
inside c = omega (arith, long (goal.at.In-loop-k c).After-sort_numbers)

pub sort_numbers-requires : goal.sort_numbers-requires
sort_numbers-requires c = (c.requires.holds.held.few, refl)

pub loop-k-init : goal.loop-k-init
loop-k-init c = record {
  known = known c.requires c.args.moment _ (in_order c.requires c.sort_numbers.ensures);
  walked = λ h. subst (λ (p : ℕ). Walked h c.args.moment 0 c.args.tasks p) (sym (ap (λ (s : Span). s.p) (c.span_of-p.ensures h))) (begins h c.args.moment);
}

pub overflow_add-m : goal.overflow_add-m
overflow_add-m c = let h = c.requires in
    record { fits = sum_fits h c.args.moment _ (in_order h c.sort_numbers.ensures) c.loop-k.k-index (inside (goal.at.overflow_add-m c).In-loop-k) (c.loop-k.invariant.walked h) }

pub returns-then-m-k : goal.returns-then-m-k
returns-then-m-k c h =
    stops h c.args.moment _ (in_order h c.sort_numbers.ensures) c.loop-k.k-index (inside (goal.at.returns-then-m-k c).In-loop-k) (c.loop-k.invariant.walked h) c.if-left-k.true
    c.if-m-k.true

pub overflow_sub-p : goal.overflow_sub-p
overflow_sub-p c = let h = c.requires in
    drops_fit h c.args.moment _ (in_order h c.sort_numbers.ensures) c.loop-k.k-index (inside (goal.at.overflow_sub-p c).In-loop-k) (c.loop-k.invariant.walked h) c.if-left-k.true

pub loop-k-preserved : goal.loop-k-preserved
loop-k-preserved c =
    let l = c.loop-k in
    let t = c.args.moment in
    let q = inside (goal.at.loop-k-preserved c).In-loop-k in
    record {
      known = l.invariant.known;
      walked = λ h. elim c.if-left-k.branch [
        | then-left-k+else-m-k w ↦ rw (w.left-is, w.p-is) (drops h t _ (in_order h c.sort_numbers.ensures) l.k-index q (l.invariant.walked h) w.if-left-k.true w.if-m-k.false)
        | else-left-k w ↦ rw (w.left-is, w.p-is) (skips h t _ (in_order h c.sort_numbers.ensures) l.k-index q (l.invariant.walked h) w.if-left-k.false)
      ];
    }

pub returns : goal.returns
returns c h = ends h c.args.moment c.loop-k.k-index (omega (arith, long (goal.at.returns c).After-sort_numbers)) (c.loop-k.invariant.walked h)
