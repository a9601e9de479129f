-- The whole answer of a pass on small tasks: whoever keeps the contract answers this.
use mathlib.Core.Path.{◌≡◌, refl, ap}
use mathlib.Core.List.{List, [], ◌∷◌}
use Prim.Native.Nat.{ℕ, ◌<◌}
use native.Mathlib.Omega.{arith}
use lib.IntN.{ℤ, pos}
use lib.ListN.{get_or}
use lib.Signed.{◌<ℤ◌}
use Rattle.integers.specs.Answers.{Answer, answered}
use Rattle.integers.specs.Moments.{Above, zero_at}
use Rattle.integers.specs.Orders.{sort, insert, numbers}
use Rattle.integers.proofs.Bools.{below_suc}
use Rattle.integers.proofs.Ints.{ints}
use Rattle.scheduling.specs.Scheduling.{whole, Tasks, tasks_of, Proper, Largest}
use Rattle.scheduling.specs.Ects.{ect_after}
use Rattle.precedences.specs.declared.answers.Precedences.{Precedences}
use Rattle.precedences.specs.Numbers.{numbers_of_precedences}
use Rattle.precedences.specs.Precedences.{FirstEmptied, NoneEmptied, LeftPrecedences}
use Rattle.precedences.specs.Predecessors.{PrecedenceBound}
use Rattle.precedences.specs.PredecessorExamples.{F}
use Rattle.precedences.proofs.MomentBounds.{high, passes, fits}
use Rattle.precedences.proofs.RaisedStarts.{raised_is}

below_two : (P : ℕ → Type 0) → P 0 → P 1 → (k : ℕ) → k < 2 → P k
below_two P a b = below_suc P 1 (below_suc P 0 (λ k q. absurd (omega arith)) a) b

below_three : (P : ℕ → Type 0) → P 0 → P 1 → P 2 → (k : ℕ) → k < 3 → P k
below_three P a b c = below_suc P 2 (below_two P a b) c

-- no two moments are the largest
one_largest : {P : ℤ → Type 0} {v w : ℤ} → Largest whole P v → Largest whole P w → v ≡ w
one_largest {P} {v} {w} a b = omega (ints, b.bounds v a.holds, a.bounds w b.holds)

F_proper : Proper F
unfolding F
F_proper = record {
  ranges = below_two _ (record { le = tt }) (record { le = tt });
  lasts = below_two _ (omega arith) (omega arith);
}

F_above : (k : ℕ) → k < 2 → Above zero_at (F.earliest k)
unfolding F
F_above = below_two _ (record { le = tt }) (record { le = tt })

F_none_emptied : NoneEmptied F
unfolding F ect_after sort insert numbers
F_none_emptied = below_two _
    (fits F F_proper F_above 0 (omega arith) (F.latest 0) (high F F_proper F_above 0 (omega arith)) refl)
    (fits F F_proper F_above 1 (omega arith) (F.latest 1) (high F F_proper F_above 1 (omega arith)) refl)

-- 0..6,3; 1..1,5: the bound of task 0 is 6, where task 1 ends at the earliest. It is task 0's latest start too, and does not pass it.
raised_to_the_latest : (r : Precedences) (es' : List ℤ) → LeftPrecedences F (pos 0 ∷ pos 1 ∷ []) r es'
    → (numbers_of_precedences r ≡ answered 0 []) × (get_or es' 0 (pos 0) ≡ pos 6) × (get_or es' 1 (pos 0) ≡ pos 1)
unfolding F ect_after sort insert numbers
raised_to_the_latest r es' left =
    let done = left.done.1 F_none_emptied in
    let kind = ap (λ (a : Answer). a.kind) done in
    (done, one_largest (left.starts kind 0 (omega arith)) (raised_is F F_proper F_above 0 (omega arith)), one_largest (left.starts kind 1 (omega arith)) (raised_is F F_proper F_above 1 (omega arith)))

-- 0..100,1; 0..5,3; 1..1,5: tasks 1 and 2 cannot come after each other, so that both bounds pass. Task 0 has none.
unfoldable late : Tasks whole
late = tasks_of (1 ∷ 3 ∷ 5 ∷ []) (pos 0 ∷ pos 0 ∷ pos 1 ∷ []) (pos 100 ∷ pos 5 ∷ pos 1 ∷ [])

late_proper : Proper late
unfolding late
late_proper = record { ranges = below_three _ (record { le = tt }) (record { le = tt }) (record { le = tt }); lasts = below_three _ (omega arith) (omega arith) (omega arith) }

late_above : (k : ℕ) → k < 3 → Above zero_at (late.earliest k)
unfolding late
late_above = below_three _ (record { le = tt }) (record { le = tt }) (record { le = tt })

-- the bound of a task passes its latest start
abbrev Passes : ℕ → Type 0
Passes i = (b : ℤ) × PrecedenceBound late i b × (late.latest i <ℤ b)

both_pass : Passes 1 × Passes 2
unfolding late ect_after sort insert numbers
both_pass = (
  passes late late_proper late_above 1 (omega arith) (late.latest 1) (high late late_proper late_above 1 (omega arith)) refl,
  passes late late_proper late_above 2 (omega arith) (late.latest 2) (high late late_proper late_above 2 (omega arith)) refl,
)

-- The higher one is not the answer,
not_the_higher : FirstEmptied late 2 → ⊥
not_the_higher f = let (b, bound, past) = both_pass.0 in omega (ints, past, f.lowest 1 (omega arith) b bound)

-- but the lower one is, and no start changes.
lowest_answered : (r : Precedences) (es' : List ℤ) → LeftPrecedences late (pos 0 ∷ pos 0 ∷ pos 1 ∷ []) r es'
    → (numbers_of_precedences r ≡ answered 1 (pos 1 ∷ [])) × (es' ≡ pos 0 ∷ pos 0 ∷ pos 1 ∷ [])
unfolding late ect_after sort insert numbers
lowest_answered r es' left = (emptied, left.kept (ap (λ (a : Answer). a.kind) emptied))
  where
    first : FirstEmptied late 1
    first = record {
      small = omega arith;
      bound = both_pass.0.0;
      is_bound = both_pass.0.1;
      passes = both_pass.0.2;
      lowest = below_suc _ 0 (λ k q. absurd (omega arith)) (fits late late_proper late_above 0 (omega arith) (late.latest 0) (high late late_proper late_above 0 (omega arith)) refl);
    }

    emptied : numbers_of_precedences r ≡ answered 1 (pos 1 ∷ [])
    emptied = (left.emptied 1).1 first
