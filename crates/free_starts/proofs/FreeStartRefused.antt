-- What refuses a call: what holds where nothing does, and the sole ground for each number.
use mathlib.Core.Path.{◌≡◌, refl}
use mathlib.Core.Bool.{true, ◌&&◌}
use mathlib.Core.Logic.{◌↔◌}
use mathlib.Core.List.{List, [], ◌∷◌}
use Prim.Native.Nat.{◌<◌}
use lib.IntN.{ℤ}
use lib.ListN.{length}
use Rattle.integers.specs.Limits.{TASKS}
use Rattle.integers.specs.Tests.{Test, test}
use Rattle.integers.proofs.Bools.{and_yes}
use Rattle.records.proofs.TestsInOrder.{both_first, both_second}
use Rattle.integers.proofs.Tests.{more_accepted, more_refused}
use Rattle.records.specs.declared.record.DisjunctivePropagator.{DisjunctivePropagator}
use Rattle.fixed_schedules.specs.FixedSchedules.{fixed_tests, AcceptedFixed}
use Rattle.fixed_schedules.specs.Parameters.{moment_within, length_within, MomentFits, LengthFits}
use Rattle.fixed_schedules.proofs.ParameterMoments.{moment_is, length_is}
use Rattle.fixed_schedules.proofs.FixedRefused.{SoleGrounds, fixed_grounds, fixed_many, passed_fixed}
use Rattle.free_starts.specs.FreeStarts.{free_number}

module _ (r : DisjunctivePropagator) (es ls : List ℤ) (t d : ℤ) where
  -- the test that is the call's own
  abbrev t18 : Test
  t18 = test 18 (length_within d && moment_within t)

  parameters_fit : length_within d && moment_within t ≡ true ↔ (LengthFits d × MomentFits t)
  parameters_fit = (λ h. search (both_first, both_second, (length_is d).0, (moment_is t).0), λ f. search (and_yes, (length_is d).1, (moment_is t).1))

  -- nothing refuses the call
  pub accepted_call : free_number r es ls t d ≡ 0 ↔ (AcceptedFixed r es ls × (LengthFits d × MomentFits t))
  accepted_call = more_accepted (fixed_tests r es ls) t18 (passed_fixed r es ls) parameters_fit refl refl

  -- The sole ground for each number: those of the schedule, and the call's own.
  pub sole_grounds : SoleGrounds r es ls (free_number r es ls t d)
  sole_grounds = fixed_grounds r es ls (t18 ∷ []) refl refl refl refl refl

  pub refused_18 : free_number r es ls t d ≡ 18 ↔ (AcceptedFixed r es ls × (LengthFits d × MomentFits t → ⊥))
  refused_18 = more_refused (fixed_tests r es ls) t18 (passed_fixed r es ls) parameters_fit refl refl

-- more ranges than any record has tasks are refused by the number that refuses none
pub free_many : (r : DisjunctivePropagator) (es ls : List ℤ) (t d : ℤ) → TASKS < length es → (free_number r [] [] t d ≡ free_number r es ls t d) × (free_number r es ls t d ≡ 0 → ⊥)
free_many r es ls t d many = fixed_many r es ls (t18 r [] [] t d ∷ []) (t18 r es ls t d ∷ []) many
