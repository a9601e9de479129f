-- The invariant: the span is that of the first k tasks.
use mathlib.Core.Path.{◌≡◌}
use Rattle.conflicts.specs.Spans.{span_below}
use Rattle.conflicts.specs.HeldTasks.{HoldsSet}
use Rattle.conflicts.proofs.spans.span_of.Given as goal

abbrev pub invariant-loop-k : goal.invariant-loop-k
invariant-loop-k l = (h : HoldsSet l.m l.tasks) → l.span ≡ span_below h.J h.Ω l.k
