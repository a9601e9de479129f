-- Both sets are empty.
use Rattle.conflicts.proofs.answer.no_conflict.Goals as goal

pub returns : goal.returns
returns c = rw (c.no_work.ensures, c.no_work-2.ensures)
