-- Whether a task's bound raises it is the same in arrays, over moments and over whole numbers.
use mathlib.Core.Path.{◌≡◌, sym, ap₂, ◌∙◌}
use mathlib.Core.Bool.{Bool, true}
use mathlib.Core.List.{List}
use mathlib.Core.Logic.{◌↔◌}
use mathlib.Core.Option.{Option}
use Prim.Native.Nat.{ℕ, ◌<◌}
use native.Mathlib.Omega.{arith}
use lib.IntN.{ℤ}
use lib.ListN.{length, get_or}
use Rattle.integers.specs.Limits.{TASKS}
use Rattle.integers.specs.Moments.{moment, zero_at}
use Rattle.integers.proofs.MomentSums.{mono<}
use Rattle.scheduling.specs.Scheduling.{whole, natural, Tasks}
use Rattle.trees.specs.Ects.{exceeds}
use Rattle.trees.proofs.Ects.{some_exceeds}
use Rattle.records.specs.declared.record.DisjunctivePropagator.{DisjunctivePropagator}
use Rattle.records.specs.Records.{tasks_in, moments_in}
use Rattle.records.specs.Refusals.{AcceptedInput}
use Rattle.records.proofs.AcceptedTasks.{count, proper_whole, above}
use Rattle.precedences.specs.declared.range_moments.RangeMoments.{RangeMoments}
use Rattle.precedences.specs.PredecessorArrays.{bound_at, HoldsRanges}
use Rattle.precedences.proofs.MomentBounds.{BoundMoment, found, passes}
use Rattle.precedences.specs.Bounds.{RaisesTo, Raises}

-- the test that the code makes, of the array's start
pub from_start : {J : Tasks natural} {m : RangeMoments} (f : HoldsRanges J m) (i : ℕ) → i < m.count → {o : Option ℕ} {t b : Bool}
    → o ≡ bound_at J i → t ≡ exceeds o (get_or m.est i 0) → t ≡ b → exceeds (bound_at J i) (J.earliest i) ≡ b
from_start f i q z e h = ap₂ exceeds (sym z) (sym (f.held.start i q)) ∙ sym e ∙ h

-- a record and its ranges that are accepted
module _ (r : DisjunctivePropagator) (es ls : List ℤ) (a : AcceptedInput r es ls) (long : length r.durations ≡ TASKS) (i : ℕ) (q : i < r.count) where
  abbrev Z : Tasks whole
  Z = tasks_in r es ls

  pub among : i < (tasks_in r es ls).count
  among = omega (arith, count r es ls a long)

  -- a bound is above the earliest start where its moment is
  pub above_start : (b : ℤ) → RaisesTo (tasks_in r es ls) i b → BoundMoment Z (proper_whole r es ls a long) (above r es ls a long) i among b
      × ((moments_in r es ls).earliest i < moment zero_at b)
  above_start b w =
      let g = found Z (proper_whole r es ls a long) (above r es ls a long) i among b w.is_bound in
      (g, mono< zero_at (Z.earliest i) b (above r es ls a long i among) g.above w.above)

  pub raises_is : exceeds (bound_at (moments_in r es ls) i) ((moments_in r es ls).earliest i) ≡ true ↔ Raises (tasks_in r es ls) i
  raises_is = (
    λ h. let w = passes Z (proper_whole r es ls a long) (above r es ls a long) i among (Z.earliest i) (above r es ls a long i among) h in (w.0, record { is_bound = w.1; above = w.2 }),
    λ (b, w). let (g, up) = above_start b w in some_exceeds (bound_at (moments_in r es ls) i) (moment zero_at b) ((moments_in r es ls).earliest i) g.is up,
  )
