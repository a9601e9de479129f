-- What refuses a call for charges: what holds where nothing does, and the sole ground for each number.
use mathlib.Core.Path.{◌≡◌, refl}
use mathlib.Core.Bool.{true, ◌&&◌}
use mathlib.Core.Logic.{◌↔◌}
use mathlib.Core.List.{List, [], ◌∷◌}
use Prim.Native.Nat.{ℕ, ◌<◌}
use lib.Dec.{eqb}
use lib.IntN.{ℤ, pos}
use lib.ListN.{length, get_or}
use Rattle.integers.specs.Limits.{TASKS}
use Rattle.integers.specs.Tests.{Test, test, all_below}
use Rattle.integers.proofs.Tests.{all_at, all_show, more_accepted, more_refused}
use Rattle.records.specs.declared.record.DisjunctivePropagator.{DisjunctivePropagator}
use Rattle.records.proofs.TestsInOrder.{as_facts, as_tests}
use Rattle.fixed_schedules.specs.FixedSchedules.{fixed_tests, AcceptedFixed}
use Rattle.fixed_schedules.proofs.FixedRefused.{SoleGrounds, fixed_grounds, fixed_many, passed_fixed}
use Rattle.charges.specs.Charges.{due_fits_at, charges_number, DueFits, DuesFit, AcceptedCharges}

pub dues_are : (n : ℕ) (due : List ℤ) → eqb (length due) n && all_below (due_fits_at due) (length due) ≡ true ↔ DuesFit n due
dues_are n due = (λ h. search (as_facts, each), λ f. (let g = all_show (due_fits_at due) (length due) (λ k q. (let h = f.within k q in search as_tests)) in search as_tests))
  where
    each : all_below (due_fits_at due) (length due) ≡ true → (k : ℕ) → k < length due → DueFits (get_or due k (pos 0))
    each h k q = let g = all_at (due_fits_at due) (length due) h k q in search as_facts

module _ (r : DisjunctivePropagator) (es ls due : List ℤ) where
  -- the test that is the charges' own
  abbrev t19 : Test
  t19 = test 19 (eqb (length due) r.count && all_below (due_fits_at due) (length due))

  -- nothing refuses the call
  pub accepted_charges : charges_number r es ls due ≡ 0 ↔ AcceptedCharges r es ls due
  accepted_charges =
      let w = more_accepted (fixed_tests r es ls) t19 (passed_fixed r es ls) (dues_are r.count due) refl refl in
      (λ h. (let f = w.0 h in search), λ a. w.1 (search))

  -- The sole ground for each number: those of the schedule, and the call's own.
  pub sole_grounds : SoleGrounds r es ls (charges_number r es ls due)
  sole_grounds = fixed_grounds r es ls (t19 ∷ []) refl refl refl refl refl

  pub refused_19 : charges_number r es ls due ≡ 19 ↔ (AcceptedFixed r es ls × (DuesFit r.count due → ⊥))
  refused_19 = more_refused (fixed_tests r es ls) t19 (passed_fixed r es ls) (dues_are r.count due) refl refl

-- more ranges than any record has tasks are refused by the number that refuses none
pub charges_many : (r : DisjunctivePropagator) (es ls due : List ℤ) → TASKS < length es → (charges_number r [] [] due ≡ charges_number r es ls due) × (charges_number r es ls due ≡ 0 → ⊥)
charges_many r es ls due many = fixed_many r es ls (t19 r [] [] due ∷ []) (t19 r es ls due ∷ []) many
