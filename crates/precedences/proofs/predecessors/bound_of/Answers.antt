-- The array of predecessors holds the set that the definition takes the ect of, so `theta_ect` answers the bound.
use Rattle.precedences.specs.PredecessorArrays.{comes_before}
use Rattle.precedences.proofs.AcceptedArrays.{chosen}
use Rattle.precedences.proofs.predecessors.bound_of.Goals as goal

pub theta_ect-requires : goal.theta_ect-requires
theta_ect-requires c = let (J, f, q) = c.requires in (J, comes_before J c.args.i, chosen f c.args.i q c.predecessors-before.ensures)

pub returns : goal.returns
returns c J f = c.theta_ect.ensures J (comes_before J c.args.i) (chosen f c.args.i c.requires.2 c.predecessors-before.ensures)
