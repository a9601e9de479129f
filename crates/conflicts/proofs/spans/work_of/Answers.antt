-- The est is the whole number at its moment.
use mir.Syntax.{w32}
use Rattle.integers.proofs.Ints.{back_of}
use Rattle.conflicts.proofs.spans.work_of.Goals as goal

pub returns : goal.returns
returns c = rw (back_of w32 c.start_of.result c.start_of.type_inv, c.start_of.ensures)
