-- The sole ground for each number of a record, its ranges and their bars: all tests before it pass, and its own fails.
use mathlib.Core.Path.{◌≡◌, refl}
use mathlib.Core.Bool.{Bool, true, false}
use mathlib.Core.Logic.{◌↔◌}
use mathlib.Core.List.{List, [], ◌∷◌, ◌++◌}
use Prim.Native.Nat.{ℕ}
use lib.IntN.{ℤ}
use Rattle.integers.specs.Tests.{Test, test, refusal}
use Rattle.integers.proofs.Tests.{unused}
use Rattle.records.specs.declared.record.DisjunctivePropagator.{DisjunctivePropagator}
use Rattle.records.specs.Records.{Lawful}
use Rattle.records.specs.Refusals.{input_tests, run_number, CountsFit, StartsFit, RangesFit}
use Rattle.records.proofs.RefusedRuns.{range_20, range_10, range_3, range_4, input_13, t9}

pub record InputGrounds (r : DisjunctivePropagator) (es ls : List ℤ) (bars : Bool) (number : ℕ) : Type 0 where
  pub refused_20 : number ≡ 20 ↔ (Lawful r → ⊥)
  pub refused_10 : number ≡ 10 ↔ (Lawful r × (CountsFit r.count es ls → ⊥))
  pub refused_3 : number ≡ 3 ↔ (Lawful r × (CountsFit r.count es ls × (StartsFit es ls → ⊥)))
  pub refused_4 : number ≡ 4 ↔ (Lawful r × (CountsFit r.count es ls × (StartsFit es ls × (RangesFit es ls → ⊥))))
  pub refused_13 : number ≡ 13 ↔ (Lawful r × (CountsFit r.count es ls × (StartsFit es ls × (RangesFit es ls × (bars ≡ false)))))

pub input_grounds : (r : DisjunctivePropagator) (es ls : List ℤ) (bars : Bool) (after : List Test)
    → unused after 20 ≡ true → unused after 10 ≡ true → unused after 3 ≡ true
    → unused after 4 ≡ true
    → unused after 13 ≡ true
    → InputGrounds r es ls bars (refusal (input_tests r es ls bars ++ after))
input_grounds r es ls bars after u20 u10 u3 u4 u13 = record {
  refused_20 = range_20 r es ls (test 13 bars ∷ after) u20;
  refused_10 = range_10 r es ls (test 13 bars ∷ after) u10;
  refused_3 = range_3 r es ls (test 13 bars ∷ after) u3;
  refused_4 = range_4 r es ls (test 13 bars ∷ after) u4;
  refused_13 = input_13 r es ls bars after u13;
}

-- those of a run
pub run_grounds : (r : DisjunctivePropagator) (es ls : List ℤ) (bars : Bool) (posts atoms : ℕ)
    → InputGrounds r es ls bars (run_number r es ls bars posts atoms)
run_grounds r es ls bars posts atoms = input_grounds r es ls bars (t9 r es ls bars posts atoms ∷ []) refl refl refl refl refl
