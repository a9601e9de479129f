-- What refuses a call: what holds where nothing does, and the sole ground for each number.
use mathlib.Core.Path.{◌≡◌, refl}
use mathlib.Core.Logic.{◌↔◌}
use mathlib.Core.List.{List, [], ◌∷◌}
use Prim.Native.Nat.{◌<◌}
use lib.IntN.{ℤ}
use lib.ListN.{length}
use Rattle.integers.specs.Limits.{TASKS}
use Rattle.integers.specs.Tests.{Test, test}
use Rattle.integers.proofs.Tests.{more_accepted, more_refused}
use Rattle.records.specs.declared.record.DisjunctivePropagator.{DisjunctivePropagator}
use Rattle.fixed_schedules.specs.FixedSchedules.{fixed_tests, AcceptedFixed}
use Rattle.fixed_schedules.specs.Parameters.{length_within, LengthFits}
use Rattle.fixed_schedules.proofs.ParameterMoments.{length_is}
use Rattle.fixed_schedules.proofs.FixedRefused.{SoleGrounds, fixed_grounds, fixed_many, passed_fixed}
use Rattle.busiest_stretch.specs.Stretches.{stretch_number}

module _ (r : DisjunctivePropagator) (es ls : List ℤ) (w : ℤ) where
  -- the test that is the call's own
  abbrev t23 : Test
  t23 = test 23 (length_within w)

  -- nothing refuses the call
  pub accepted_call : stretch_number r es ls w ≡ 0 ↔ (AcceptedFixed r es ls × LengthFits w)
  accepted_call = more_accepted (fixed_tests r es ls) t23 (passed_fixed r es ls) (length_is w) refl refl

  -- The sole ground for each number: those of the schedule, and the call's own.
  pub sole_grounds : SoleGrounds r es ls (stretch_number r es ls w)
  sole_grounds = fixed_grounds r es ls (t23 ∷ []) refl refl refl refl refl

  pub refused_23 : stretch_number r es ls w ≡ 23 ↔ (AcceptedFixed r es ls × (LengthFits w → ⊥))
  refused_23 = more_refused (fixed_tests r es ls) t23 (passed_fixed r es ls) (length_is w) refl refl

-- more ranges than any record has tasks are refused by the number that refuses none
pub stretch_many : (r : DisjunctivePropagator) (es ls : List ℤ) (w : ℤ) → TASKS < length es
    → (stretch_number r [] [] w ≡ stretch_number r es ls w) × (stretch_number r es ls w ≡ 0 → ⊥)
stretch_many r es ls w many = fixed_many r es ls (t23 r [] [] w ∷ []) (t23 r es ls w ∷ []) many
