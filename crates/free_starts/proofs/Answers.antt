-- From moments to whole numbers: the earliest free start of a fixed schedule, and the call's answer.
use mathlib.Core.Path.{◌≡◌, sym, ap, subst, ◌∙◌}
use mathlib.Core.Logic.{inl, inr, ⊎_elim}
use mathlib.Core.List.{List, []}
use Prim.Native.Nat.{ℕ, ◌+◌, ◌≤◌, ◌<◌}
use native.Mathlib.Omega.{arith}
use lib.IntN.{ℤ, pos}
use lib.ListN.{length, take}
use lib.Signed.{◌≤ℤ◌}
use Rattle.std.specs.Prelude.{Result, Ok, Err}
use Rattle.integers.specs.declared.refused.Refusal.{Refusal}
use Rattle.integers.specs.Answers.{refused_by}
use Rattle.integers.proofs.RefusalNumbers.{never_zero}
use Rattle.integers.specs.Limits.{TASKS}
use Rattle.integers.specs.FilledLists.{filled, no_tasks}
use Rattle.integers.specs.Moments.{moment, instant, zero_at, Above, moment_at}
use Rattle.integers.specs.Orders.{index}
use Rattle.integers.proofs.Ints.{ints, up, dn, sumℤ}
use Rattle.integers.proofs.MomentSums.{mono, reflect, mono<, above_up, at_moment, instant_above, moment_instant}
use Rattle.scheduling.specs.Scheduling.{whole, natural, Tasks}
use Rattle.records.specs.declared.record.DisjunctivePropagator.{DisjunctivePropagator}
use Rattle.records.specs.Records.{duration_for}
use Rattle.fixed_schedules.specs.FixedSchedules.{order_of, tasks_on, AcceptedFixed}
use Rattle.fixed_schedules.specs.Neighbours.{in_moments, Tested}
use Rattle.fixed_schedules.specs.Parameters.{MomentFits, LengthFits}
use Rattle.fixed_schedules.proofs.AcceptedSchedules.{AtMoments, input_of, short, at_moments, by_moments, moment_high}
use Rattle.fixed_schedules.proofs.ScheduleOrder.{order_length, front_within}
use Rattle.fixed_schedules.proofs.ParameterMoments.{parameter_above, parameter_moment}
use Rattle.free_starts.specs.Numbers.{free_start_numbers}
use Rattle.free_starts.specs.FreeStarts.{LATEST, Free, EarliestFree, free_number, FreeStartAnswered}
use Rattle.free_starts.specs.StartMoments.{Searchable}
use Rattle.free_starts.proofs.FreeStartRefused.{free_many, accepted_call}

-- ---- the tasks J of whole numbers, and M of their moments
module _ (o : ℕ) (J : Tasks whole) (M : Tasks natural) (at_moments : AtMoments o J M) where
  free_up : (d m : ℕ) → Free M d m → Free J d (instant o m)
  unfolding up dn
  free_up d m f k q =
      let a = at_moment o (instant o m) (instant_above o m) in
      let b = at_moment o (J.earliest k) (at_moments.above k q) in
      ⊎_elim
      (λ h. inl (omega (ints, h, a, b, moment_instant o m, at_moments.start k q, sumℤ (instant o m) (pos d))))
      (λ h. inr (omega (ints, h, a, b, moment_instant o m, at_moments.start k q, at_moments.lasts k q, sumℤ (J.earliest k) (pos (J.duration k)))))
      (f k (omega (arith, at_moments.count)))

  free_down : (d : ℕ) (u : ℤ) → Above o u → Free J d u → Free M d (moment o u)
  unfolding up dn
  free_down d u p f k q =
      let r : k < J.count = omega (arith, at_moments.count) in
      let a = at_moment o u p in
      let b = at_moment o (J.earliest k) (at_moments.above k r) in
      ⊎_elim
      (λ h. inl (omega (ints, h, a, b, at_moments.start k r, sumℤ u (pos d))))
      (λ h. inr (omega (ints, h, a, b, at_moments.start k r, at_moments.lasts k r, sumℤ (J.earliest k) (pos (J.duration k)))))
      (f k r)

  -- the earliest free moment is that of the earliest free start
  earliest_up : (t : ℤ) (d m : ℕ) → Above o t → EarliestFree M (moment o t) d m → EarliestFree J t d (instant o m)
  earliest_up t d m p e = record {
    from = reflect o t (instant o m) p (instant_above o m) (omega (arith, e.from, moment_instant o m));
    free = free_up d m e.free;
    none_before = λ u h l f.
        (let q = above_up o t u h p in
        e.none_before (moment o u) (mono o t u h) (omega (arith, mono< o u (instant o m) q (instant_above o m) l, moment_instant o m)) (free_down d u q f));
  }

-- ---- a call by what its tests answer
module _ (r : DisjunctivePropagator) (es ls : List ℤ) (t d : ℤ) where
  pub refused : (why : Refusal) → Tested es (free_number r es ls t d) (Err why) → FreeStartAnswered r es ls t d (Err why)
  refused why o = record { refused = λ _. ap refused_by o.number; found = λ z. absurd (never_zero why (o.number ∙ z)) }

  module _ (order : List ℕ) (o : Tested es (free_number r es ls t d) (Ok order)) where
    held : AcceptedFixed r es ls × (LengthFits d × MomentFits t)
    held = (accepted_call r es ls t d).0 (sym o.number)

    pub few_starts : length es ≤ TASKS
    few_starts = omega (arith, held.0.counts.earliest, held.0.lawful.few)

    pub lasts : pos 0 ≤ℤ d
    unfolding up dn
    lasts = omega (ints, held.1.0.low)

    -- the tasks by start
    sorted : take r.count order ≡ order_of es
    sorted = ap (λ (n : ℕ). take n order) (sym held.0.counts.earliest) ∙ o.order

    pub within : r.count ≤ length order
    within = omega (arith, held.0.counts.earliest, front_within es order o.order)

    pub fits : r.count ≡ length (take r.count order)
    fits = omega (arith, held.0.counts.earliest, ap length sorted, order_length es)

    module _ (starts : List ℕ) (s : starts ≡ filled (moment_at es) (length es) no_tasks) (from lasting : ℕ) (m : from ≡ moment zero_at t) (p : pos lasting ≡ d) where
      -- the pass may start
      pub searchable : Searchable (take r.count order) starts r.durations from lasting
      unfolding up dn
      searchable = record {
        few = omega (arith, fits, held.0.lawful.few);
        place = index (order_of es);
        by_start = by_moments r es ls (input_of held.0) starts s sorted;
        ends = λ k l. omega (
          arith,
          moment_high r es ls (input_of held.0) starts s k (omega (arith, fits)),
          short r es ls (input_of held.0) k (omega (arith, fits, held.0.counts.earliest)),
        );
        moment = omega (arith, parameter_moment t held.1.1);
        duration = omega (ints, held.1.0.high);
      }

      -- and what it finds is the answer
      pub found : (x : ℤ) (free : ℕ) → EarliestFree (in_moments (length (take r.count order)) starts r.durations) from lasting free → free ≤ zero_at + LATEST → x ≡ instant zero_at free
          → FreeStartAnswered r es ls t d (Ok x)
      unfolding up dn
      found x free e l g = record {
        refused = λ not. absurd (not (sym o.number));
        found = λ _. record {
          start = instant zero_at free;
          answer = ap (λ (s : ℤ). free_start_numbers (Ok s)) g;
          earliest = subst (λ (n : ℕ). EarliestFree (tasks_on r es ls) t n (instant zero_at free)) (ap duration_for p)
              (earliest_up zero_at (tasks_on r es ls) (in_moments r.count starts r.durations) (at_moments r es ls (input_of held.0) starts s) t lasting free
              (parameter_above t held.1.1) (rw (m, ← fits) at e));
          limit = omega (ints, at_moment zero_at (instant zero_at free) (instant_above zero_at free), moment_instant zero_at free);
        };
      }

-- too many ranges are refused as none are
pub too_many : (r : DisjunctivePropagator) (es ls : List ℤ) (t d : ℤ) (x : Result ℤ Refusal) → TASKS < length es → FreeStartAnswered r [] [] t d x → FreeStartAnswered r es ls t d x
too_many r es ls t d x many a =
    let (same, not) = free_many r es ls t d many in
    record { refused = λ _. a.refused (λ z. not (sym same ∙ z)) ∙ ap refused_by same; found = λ z. absurd (not z) }
