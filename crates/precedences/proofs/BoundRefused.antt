-- What refuses the bound's call: what holds where nothing does, and the sole ground for each number.
use mathlib.Core.Path.{◌≡◌, refl, sym, ◌∙◌}
use mathlib.Core.Bool.{Bool, true}
use mathlib.Core.Logic.{◌↔◌}
use mathlib.Core.List.{List, [], ◌∷◌}
use Prim.Native.Nat.{ℕ, ◌<◌}
use lib.Dec.{ltb}
use lib.IntN.{ℤ}
use borrow.Author.Tests.{ltb-true, lt-ltb}
use Rattle.integers.specs.Tests.{Test, test, AllPassed}
use Rattle.integers.proofs.Tests.{accepted, more_refused}
use Rattle.records.specs.declared.record.DisjunctivePropagator.{DisjunctivePropagator}
use Rattle.records.specs.Refusals.{input_tests, AcceptedInput}
use Rattle.records.proofs.RefusedRuns.{passed_input}
use Rattle.records.proofs.InputGrounds.{InputGrounds, input_grounds}
use Rattle.precedences.specs.Bounds.{bound_tests, bound_number}

pub small_is : (task n : ℕ) → ltb task n ≡ true ↔ (task < n)
small_is task n = (λ h. ltb-true task n h, λ h. lt-ltb task n h)

module _ (r : DisjunctivePropagator) (es ls : List ℤ) (bars : Bool) (task : ℕ) where
  abbrev t17 : Test
  t17 = test 17 (ltb task r.count)

  -- nothing refuses the call
  pub passed_bound : AllPassed (bound_tests r es ls bars task) → (AcceptedInput r es ls × (bars ≡ true)) × (task < r.count)
  passed_bound (a, (b, (c, (d, (e, (p, _)))))) = ((passed_input r es ls bars).0 (a, (b, (c, (d, (e, tt))))), (small_is task r.count).0 p)

  pub accepted_bound : {m : ℕ} → m ≡ bound_number r es ls bars task → m ≡ 0 → AcceptedInput r es ls × (task < r.count)
  accepted_bound e z = let ((input, _), small) = passed_bound (accepted (bound_tests r es ls bars task) refl (sym e ∙ z)) in (input, small)

  -- The sole ground for each number: those of the record and its ranges, and the call's own.
  pub sole_grounds : InputGrounds r es ls bars (bound_number r es ls bars task)
  sole_grounds = input_grounds r es ls bars (t17 ∷ []) refl refl refl refl refl

  pub refused_17 : bound_number r es ls bars task ≡ 17 ↔ ((AcceptedInput r es ls × (bars ≡ true)) × (task < r.count → ⊥))
  refused_17 = more_refused (input_tests r es ls bars) t17 (passed_input r es ls bars) (small_is task r.count) refl refl
