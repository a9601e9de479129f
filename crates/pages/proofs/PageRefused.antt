-- What refuses a page: what holds where nothing does, and the sole ground for each number.
use mathlib.Core.Path.{◌≡◌, refl}
use mathlib.Core.Bool.{true}
use mathlib.Core.Logic.{◌↔◌}
use mathlib.Core.List.{List, [], ◌∷◌}
use Prim.Native.Nat.{ℕ, ◌+◌, ◌*◌, ◌≤◌, ◌<◌}
use lib.Dec.{leb}
use lib.IntN.{ℤ}
use lib.ListN.{length}
use borrow.Author.Tests.{leb-true, le-leb}
use Rattle.integers.specs.Limits.{TASKS}
use Rattle.integers.specs.Tests.{Test, test}
use Rattle.integers.proofs.Tests.{more_accepted, more_refused}
use Rattle.records.specs.declared.record.DisjunctivePropagator.{DisjunctivePropagator}
use Rattle.fixed_schedules.specs.FixedSchedules.{fixed_tests, AcceptedFixed}
use Rattle.fixed_schedules.proofs.FixedRefused.{SoleGrounds, fixed_grounds, fixed_many, passed_fixed}
use Rattle.pages.specs.Lines.{LINE}
use Rattle.pages.specs.Pages.{page_number, AcceptedPage}

module _ (r : DisjunctivePropagator) (es ls : List ℤ) (bytes : ℕ) where
  -- the test that is a page's own
  abbrev t15 : Test
  t15 = test 15 (leb (LINE * (r.count + 1)) bytes)

  room_is : leb (LINE * (r.count + 1)) bytes ≡ true ↔ (LINE * (r.count + 1) ≤ bytes)
  room_is = (λ h. leb-true (LINE * (r.count + 1)) bytes h, λ h. le-leb (LINE * (r.count + 1)) bytes h)

  -- nothing refuses the page
  pub accepted_page : page_number r es ls bytes ≡ 0 ↔ AcceptedPage r es ls bytes
  accepted_page =
      let w = more_accepted (fixed_tests r es ls) t15 (passed_fixed r es ls) room_is refl refl in
      (λ h. (let f = w.0 h in search), λ a. w.1 (search))

  -- The sole ground for each number: those of the schedule, and the call's own.
  pub sole_grounds : SoleGrounds r es ls (page_number r es ls bytes)
  sole_grounds = fixed_grounds r es ls (t15 ∷ []) refl refl refl refl refl

  pub refused_15 : page_number r es ls bytes ≡ 15 ↔ (AcceptedFixed r es ls × (LINE * (r.count + 1) ≤ bytes → ⊥))
  refused_15 = more_refused (fixed_tests r es ls) t15 (passed_fixed r es ls) room_is refl refl

-- more ranges than any record has tasks are refused by the number that refuses none
pub page_many : (r : DisjunctivePropagator) (es ls : List ℤ) (bytes : ℕ) → TASKS < length es → (page_number r [] [] bytes ≡ page_number r es ls bytes) × (page_number r es ls bytes ≡ 0 → ⊥)
page_many r es ls bytes many = fixed_many r es ls (t15 r [] [] bytes ∷ []) (t15 r es ls bytes ∷ []) many
