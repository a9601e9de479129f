use Rattle.std.proofs.Common.{rules}
use Rattle.checking.specs.Atoms.{right_atom}
use Rattle.checking.proofs.atomic_constraint.atom_is_accepted.Goals as goal
use Rattle.checking.proofs.atomic_constraint.atom_is_accepted.Goals.{then-variable_is_accepted, else-variable_is_accepted, then-is_ok, else-is_ok}

pub returns-else-value : goal.returns-else-value
unfolding right_atom
returns-else-value c = elim c.if-is_ok.branch [
  | then-is_ok w ↦ elim c.if-variable_is_accepted.branch [ then-variable_is_accepted v ↦ search rules | else-variable_is_accepted v ↦ search rules ]
  | else-is_ok w ↦ elim c.if-variable_is_accepted.branch [ then-variable_is_accepted v ↦ search rules | else-variable_is_accepted v ↦ search rules ]
]
