-- What the arrays hold: the ranges of a record's tasks that are accepted, and of the tasks that must come before a task.
use mathlib.Core.Path.{◌≡◌, refl, ap, ◌∙◌}
use mathlib.Core.Bool.{Bool, false}
use mathlib.Core.List.{List}
use Prim.Native.Nat.{ℕ, ◌+◌, ◌<◌}
use native.Mathlib.Omega.{arith}
use lib.IntN.{ℤ}
use lib.ListN.{length, get_or, replicate, length-replicate}
use Rattle.integers.specs.Limits.{TASKS}
use Rattle.integers.specs.FilledLists.{filled, no_tasks}
use Rattle.integers.proofs.FilledLists.{filled_at}
use Rattle.scheduling.proofs.Sets.{total_part}
use Rattle.integers.specs.Moments.{moment_at}
use Rattle.records.specs.declared.record.DisjunctivePropagator.{DisjunctivePropagator}
use Rattle.records.specs.Records.{moments_in}
use Rattle.records.specs.Refusals.{AcceptedInput}
use Rattle.scheduling.specs.Scheduling.{natural, Tasks}
use Rattle.records.proofs.AcceptedTasks.{count}
use Rattle.chosen_sets.specs.TaskArrays.{HeldSet}
use Rattle.chosen_sets.proofs.RecordArrays.{held, late, choosing}
use Rattle.precedences.specs.declared.range_moments.RangeMoments.{RangeMoments}
use Rattle.precedences.specs.PredecessorArrays.{precedes_at, comes_before, HoldsRanges}

-- a record and its ranges that are accepted
pub holds_ranges : (r : DisjunctivePropagator) (es ls : List ℤ) (a : AcceptedInput r es ls) (long : length r.durations ≡ TASKS) {est lst : List ℕ} → est ≡ filled (moment_at es) (length es) no_tasks
    → lst ≡ filled (moment_at ls) (length ls) no_tasks → HoldsRanges (moments_in r es ls) (record { count = r.count; est = est; lst = lst; durations = r.durations })
holds_ranges r es ls a long e l = record { held = held r es ls a long e (λ k q. refl); late = late r es ls a long l }

-- of as many tasks as the record has
pub as_many : {r : DisjunctivePropagator} {es ls : List ℤ} → AcceptedInput r es ls → length r.durations ≡ TASKS → {m : RangeMoments} → HoldsRanges (moments_in r es ls) m → m.count ≡ r.count
as_many {r} {es} {ls} a long f = omega (arith, f.held.count, count r es ls a long)

module _ {J : Tasks natural} {m : RangeMoments} (f : HoldsRanges J m) (i : ℕ) (q : i < m.count) where
  -- the moment that their latest starts are below
  pub end_fits : get_or m.est i 0 + get_or m.durations i 0 < 4294967296
  end_fits = omega (arith, f.held.start i q, f.held.early i q, f.held.lasts i q, f.held.sum, total_part J.duration m.count i q)

  precedes_is : (k : ℕ) → k < m.count → precedes_at m i k ≡ comes_before J i k
  precedes_is k r = rw (f.late.at k r, f.held.start i q, f.held.lasts i q)

  pub chosen : {before : List Bool} → before ≡ filled (precedes_at m i) m.count (replicate TASKS false) → HeldSet J (comes_before J i) m.count before m.est m.durations
  chosen e = choosing f.held
      (λ k r. ap (λ (l : List Bool). get_or l k false) e ∙ filled_at (precedes_at m i) m.count (replicate TASKS false) false k r (omega (arith, length-replicate TASKS false, f.held.few))
      ∙ precedes_is k r)
