-- The invariant: both bounds of the members below j are written from the second atom on; k is the number of the atom after them.
use Rattle.post_words.specs.StoredAtoms.{Stored}
use Rattle.precedences.specs.PredecessorArrays.{start_at}
use Rattle.precedences.specs.ReasonArrays.{member_at}
use Rattle.precedences.specs.Reasons.{both_bounds}
use Rattle.precedences.proofs.reason.write_members.Given as goal

abbrev pub invariant-loop-j : goal.invariant-loop-j
invariant-loop-j l = Stored l.initial.atoms l.atoms 1 l.k (both_bounds (start_at l.m.est) (start_at l.m.lst) (member_at l.members) l.j)
