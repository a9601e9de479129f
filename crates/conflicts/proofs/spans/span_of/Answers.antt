use mathlib.Core.Path.{◌≡◌, sym, ap, ◌∙◌}
use native.Mathlib.Omega.{arith}
use Rattle.conflicts.specs.declared.spans.Span.{Span}
use Rattle.conflicts.proofs.SpanValues.{span_none}
use Rattle.conflicts.proofs.HeldSets.{count, span_turn, span_fits}
use Rattle.conflicts.proofs.spans.span_of.Goals as goal

pub loop-k-init : goal.loop-k-init
loop-k-init c = λ h. sym (span_none h.J h.Ω)

pub with-span-requires : goal.with-span-requires
with-span-requires c =
    let l = c.loop-k in
    let h = c.requires in
    omega (arith, span_fits h l.k (omega arith), ap (λ (s : Span). s.p) (l.invariant h))

pub loop-k-preserved : goal.loop-k-preserved
loop-k-preserved c = λ h. rw (c.loop-k.invariant h) at c.with-span.ensures ∙ span_turn h c.loop-k.k (omega arith)

pub returns : goal.returns
returns c h =
    let e : c.loop-k.k ≡ h.J.count = omega (arith, count h) in
    rw e at (c.loop-k.invariant h)

pub bounds-tasks-k : goal.bounds-tasks-k
bounds-tasks-k c = omega (arith, c.requires.holds.held.few)
