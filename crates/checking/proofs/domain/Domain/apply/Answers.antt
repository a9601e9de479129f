-- By the comparison, each way the definition's: a tight domain and a value near the limits are what every call below asks for.
use Rattle.checking.proofs.ReadWords.{as_read}
use Rattle.checking.specs.Atoms.{kind_of}
use mathlib.Core.Path.{sym, ◌∙◌}
use Prim.Native.Nat.{◌+◌}
use native.Mathlib.Omega.{arith}
use mir.Syntax.{w32}
use mir.Val.{to_z, of_z, SFits}
use lib.IntN.{ℤ}
use Rattle.integers.specs.Limits.{VALUE}
use Rattle.integers.proofs.Ints.{back}
use Rattle.integers.specs.WholeNumbers.{Within}
use Rattle.integers.proofs.WholeNumbers.{wider}
use Rattle.checking.specs.declared.domain.Domain.{Domain}
use Rattle.checking.specs.Domains.{without, reduced}
use Rattle.checking.specs.declared.variable_state.Side.TheVariants.{Lower, Upper}
use Rattle.checking.proofs.NarrowedDomains.{tightened_leaves, side_cut, still_room}
use Rattle.checking.proofs.domain.Domain.apply.Goals as goal

-- the value as it is read is near the limits, and so within wider ones
near : {v : ℤ} → SFits w32 v → Within (VALUE + 1) v → Within (VALUE + 1) (to_z w32 (of_z w32 v))
near f r = rw (back f) r

nearby : {v : ℤ} → SFits w32 v → Within (VALUE + 1) v → Within (VALUE + 2) (to_z w32 (of_z w32 v))
nearby f r = wider (VALUE + 1) (VALUE + 2) _ (omega arith) (near f r)

pub tighten_upper_bound-requires-in-Equal : goal.tighten_upper_bound-requires-in-Equal
tighten_upper_bound-requires-in-Equal c = (rw c.tighten_lower_bound-in-Equal.ensures (tightened_leaves Lower c.args.self _ c.requires.0).tight, nearby c.ranges.value c.requires.1)

pub returns-then-is_crowded : goal.returns-then-is_crowded
unfolding reduced
returns-then-is_crowded c = as_read (reduced c.args.self (kind_of c.args.comparison)) c.ranges.value (rw (c.in-NotEqual.is, sym c.is_crowded.ensures ∙ c.if-is_crowded.true))

pub without_upper-requires : goal.without_upper-requires
without_upper-requires c = (rw c.without_lower.ensures (side_cut Lower c.args.self _ c.requires.0).tight, near c.ranges.value c.requires.1)

pub with_hole-requires : goal.with_hole-requires
with_hole-requires c =
    let d : Domain = c.args.self in
    let room = sym c.is_crowded.ensures ∙ c.if-is_crowded.false in
    rw (c.without_upper.ensures, c.without_lower.ensures) ((side_cut Upper _ _ (side_cut Lower d _ c.requires.0).tight).tight, still_room d _ c.requires.0 room)

pub returns-in-GreaterEqual : goal.returns-in-GreaterEqual
unfolding reduced
returns-in-GreaterEqual c = as_read (reduced c.args.self (kind_of c.args.comparison)) c.ranges.value (rw (c.in-GreaterEqual.is, c.settled.ensures, c.tighten_lower_bound.ensures))

pub returns-in-LessEqual : goal.returns-in-LessEqual
unfolding reduced
returns-in-LessEqual c = as_read (reduced c.args.self (kind_of c.args.comparison)) c.ranges.value (rw (c.in-LessEqual.is, c.settled-in-LessEqual.ensures, c.tighten_upper_bound.ensures))

pub returns-in-Equal : goal.returns-in-Equal
unfolding reduced
returns-in-Equal c =
    as_read (reduced c.args.self (kind_of c.args.comparison)) c.ranges.value (rw (c.in-Equal.is, c.settled-in-Equal.ensures, c.tighten_upper_bound-in-Equal.ensures, c.tighten_lower_bound-in-Equal.ensures))

pub returns-else-is_crowded : goal.returns-else-is_crowded
unfolding reduced without
returns-else-is_crowded c =
    let room = sym c.is_crowded.ensures ∙ c.if-is_crowded.false in
    as_read (reduced c.args.self (kind_of c.args.comparison)) c.ranges.value
    (rw (c.in-NotEqual.is, room, c.settled-in-NotEqual.ensures, c.with_hole.ensures, c.without_upper.ensures, c.without_lower.ensures))

pub tighten_lower_bound-requires : goal.tighten_lower_bound-requires
tighten_lower_bound-requires c = (c.requires.0, nearby c.ranges.value c.requires.1)

pub tighten_upper_bound-requires : goal.tighten_upper_bound-requires
tighten_upper_bound-requires c = (c.requires.0, nearby c.ranges.value c.requires.1)

pub tighten_lower_bound-requires-in-Equal : goal.tighten_lower_bound-requires-in-Equal
tighten_lower_bound-requires-in-Equal c = (c.requires.0, nearby c.ranges.value c.requires.1)
