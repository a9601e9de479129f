-- The tests of a call's moment and length as facts, and the moment on the clock of moments.
use mathlib.Core.Path.{◌≡◌}
use mathlib.Core.Bool.{true}
use mathlib.Core.Logic.{◌↔◌}
use Prim.Native.Nat.{◌+◌, ◌≤◌}
use lib.IntN.{ℤ, pos}
use Rattle.integers.specs.Limits.{MOMENT}
use Rattle.integers.specs.Moments.{moment, zero_at, Above}
use Rattle.integers.proofs.Ints.{ints, up, dn, up_neg, dn_neg}
use Rattle.integers.proofs.MomentSums.{above_show, at_moment}
use Rattle.records.proofs.TestsInOrder.{as_facts, as_tests}
use Rattle.fixed_schedules.specs.Parameters.{moment_within, length_within, MomentFits, LengthFits}

pub moment_is : (t : ℤ) → moment_within t ≡ true ↔ MomentFits t
moment_is t = (λ h. search as_facts, λ f. search as_tests)

pub length_is : (d : ℤ) → length_within d ≡ true ↔ LengthFits d
length_is d = (λ h. search as_facts, λ f. search as_tests)

-- a moment that a call takes is at or after the moment 0, and its moment is far from the largest u32
pub parameter_above : (t : ℤ) → MomentFits t → Above zero_at t
unfolding up dn
parameter_above t h = above_show zero_at t (omega (ints, h.low, up_neg (pos MOMENT), dn_neg (pos MOMENT)))

pub parameter_moment : (t : ℤ) → MomentFits t → moment zero_at t ≤ zero_at + MOMENT
unfolding up dn
parameter_moment t h = omega (ints, h.high, at_moment zero_at t (parameter_above t h))
