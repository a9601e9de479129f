-- The definition's two cases.
use Rattle.conflicts.proofs.spans.Span.with.Goals as goal

pub returns-then-member : goal.returns-then-member
returns-then-member c = rw (c.if-member.true, c.min.ensures, c.max.ensures)

pub returns : goal.returns
returns c = rw c.if-member.false
