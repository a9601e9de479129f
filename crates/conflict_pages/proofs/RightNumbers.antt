-- The numbers of a conflict that is right are within the limits, so that the page can say them.
use mathlib.Core.Path.{◌≡◌, refl, subst}
use mathlib.Core.Bool.{Bool, true}
use mathlib.Core.List.{List}
use Prim.Native.Nat.{ℕ, ◌≤◌, ◌<◌}
use native.Mathlib.Omega.{arith}
use lib.IntN.{ℤ, pos, ◌+ℤ◌}
use lib.Signed.{◌≤ℤ◌}
use lib.ListN.{length}
use Rattle.integers.specs.Limits.{TASKS, DURATIONS}
use Rattle.integers.specs.Moments.{zero_at}
use Rattle.integers.proofs.Ints.{ints, up, dn, sumℤ}
use Rattle.scheduling.specs.Scheduling.{whole, Tasks, TaskSet, processing, Est, Lct}
use Rattle.scheduling.proofs.Processing.{processing_mono, processing_moments}
use Rattle.records.specs.declared.record.DisjunctivePropagator.{DisjunctivePropagator}
use Rattle.records.specs.Records.{tasks_in, moments_in}
use Rattle.records.specs.Refusals.{AcceptedInput, StartFits}
use Rattle.records.proofs.AcceptedTasks.{count, lasting, short}
use Rattle.text.specs.DecimalText.{decimal}
use Rattle.pages.proofs.RightAligned.{start_fits, end_fits}
use Rattle.conflicts.specs.declared.answer.Found.{Found}
use Rattle.conflicts.specs.declared.answer.Found.TheVariants.{NothingFound, Overload, Late, Refused}
use Rattle.conflicts.specs.declared.answer.Conflict.{Conflict}
use Rattle.conflicts.specs.Answers.{flagged}
use Rattle.conflicts.specs.declared.answer.Work.{Work}
use Rattle.conflicts.specs.Conflicts.{WorkRight, OverloadRight, LateRight, ConflictFound}
use Rattle.conflict_pages.specs.Sayable.{OverloadSayable, SumSayable, Sayable}

module _ (r : DisjunctivePropagator) (es ls : List ℤ) (a : AcceptedInput r es ls) (long : length r.durations ≡ TASKS) where
  abbrev J : Tasks whole
  J = tasks_in r es ls

  small : (k : ℕ) → k < J.count → k < length es
  small k q = omega (arith, count r es ls a long, a.counts.earliest)

  -- ---- est, p and lct of a set
  est_fits : (Ω : TaskSet) (t : ℤ) → Est J Ω t → StartFits t
  est_fits Ω t e = let (k, m, same) = e.holds in subst StartFits same (a.starts.earliest k (small k m.small))

  p_fits : (Ω : TaskSet) → processing J Ω ≤ DURATIONS
  p_fits Ω = omega (arith, processing_moments zero_at J Ω, processing_mono (moments_in r es ls) Ω (λ _. true) (λ k m. refl), short r es ls a long)

  latest_fits : (k : ℕ) → k < J.count → StartFits (J.latest k)
  latest_fits k q = a.starts.latest k (omega (arith, small k q, a.counts.earliest, a.counts.latest))

  lct_fits : (Ω : TaskSet) (t : ℤ) → Lct J Ω t → length (decimal t) ≤ 10
  lct_fits Ω t e = let (k, m, same) = e.holds in
      subst (λ (z : ℤ). length (decimal z) ≤ 10) same (end_fits (J.latest k) (J.duration k) (latest_fits k m.small) (lasting r es ls a long k m.small))

  -- a set's lct is not before its est
  est_lct : (Ω : TaskSet) (s t : ℤ) → Est J Ω s → Lct J Ω t → s ≤ℤ t
  unfolding up dn
  est_lct Ω s t e l =
      let (k, m, same) = e.holds in
      omega (ints, same, l.bounds (J.latest k +ℤ pos (J.duration k)) (k, m, refl), a.ranges k (small k m.small), sumℤ (J.latest k) (pos (J.duration k)))

  module _ (c : Conflict) where
    overload_sayable : OverloadRight J c → OverloadSayable c.set.est c.set.p c.lct c.excess
    unfolding up dn
    overload_sayable o = record {
      start = est_fits (flagged c.set.tasks) c.set.est o.set.est;
      short = omega (arith, o.set.p, p_fits (flagged c.set.tasks));
      sum = o.exceeds.sum;
      less = omega (
        ints,
        o.exceeds.sum,
        est_lct (flagged c.set.tasks) c.set.est c.lct o.set.est o.lct,
        sumℤ c.set.est (pos c.set.p),
        sumℤ c.lct (pos c.excess),
      );
    }

    sum_sayable : {w : Work} → WorkRight J w → (i : ℕ) → i < J.count → (z : ℤ) → length (decimal z) ≤ 10 → SumSayable i w.est w.p z
    sum_sayable {w} o i q z few = record {
      small = omega (arith, small i q, a.counts.earliest, a.lawful.few);
      start = est_fits (flagged w.tasks) w.est o.est;
      short = omega (arith, o.p, p_fits (flagged w.tasks));
      few = few;
    }

    late_sayable : (i : ℕ) (z b : ℤ) → LateRight J c i z b → SumSayable i c.set.est c.set.p c.lct × SumSayable i c.before.est c.before.p z
    late_sayable i z b o = (
      sum_sayable o.set i o.task.small c.lct (lct_fits _ c.lct o.lct),
      sum_sayable o.before i o.task.small z (rw o.latest (start_fits (J.latest i) (latest_fits i o.task.small))),
    )

    pub sayable : {bars : Bool} → ConflictFound r es ls bars c → Sayable c c.found
    sayable x = by c.found refl
      where
        by : (f : Found) → c.found ≡ f → Sayable c f
        by NothingFound e = tt
        by Overload e = overload_sayable (x.overloads e)
        by (Late i z b) e = late_sayable i z b (x.is_late i z b e)
        by (Refused why) e = tt
