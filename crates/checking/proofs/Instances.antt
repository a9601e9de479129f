-- Instance H: x ≥ 5 after x ≠ 5 leaves 6 as the least value. Settled by computing.
use mathlib.Core.Path.{◌≡◌, refl}
use lib.IntN.{pos}
use Rattle.holes.specs.Holes.{kept, inserted, first_at_or_after, zeros}
use Rattle.integers.specs.WholeNumbers.{has}
use Rattle.checking.specs.Atoms.{right_atom}
use Rattle.checking.specs.declared.int_ext.IntExt.TheVariants.{Int}
use Rattle.checking.specs.Domains.{accepted_domain, ascend, tightened_lower, less_lower, less_upper, hole_added, without, crowded, settled, reduced}
use Rattle.checking.specs.declared.variable_state.VariableState.{VariableState}
use Rattle.std.specs.Prelude.{Ok}
use Rattle.checking.specs.States.{empty_state, accepted, stepped, applied_to, bound_of, lower_of}

-- x ≠ 5, then x ≥ 5
abbrev after : VariableState
after = (applied_to (applied_to empty_state (pos 0) (pos 3) (pos 5)).state (pos 0) (pos 0) (pos 5)).state

pub instance_h : bound_of lower_of after (pos 0) ≡ Ok (Int (pos 6))
unfolding right_atom accepted_domain ascend tightened_lower less_lower less_upper hole_added without crowded settled reduced has kept inserted first_at_or_after zeros accepted stepped applied_to bound_of
instance_h = refl
