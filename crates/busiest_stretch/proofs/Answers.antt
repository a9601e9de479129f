-- From moments to whole numbers: the busiest stretch of a fixed schedule, and the call's answer.
use mathlib.Core.Path.{◌≡◌, sym, ap, subst, ◌∙◌}
use mathlib.Core.Logic.{⊎_elim}
use mathlib.Core.List.{List, []}
use Prim.Native.Nat.{ℕ, ◌+◌, ◌-◌, ◌≤◌, ◌<◌, min, max}
use native.Mathlib.Omega.{arith}
use lib.IntN.{ℤ, pos, negsuc, ◌+ℤ◌, ◌-ℤ◌}
use lib.Signed.{◌≤ℤ◌}
use lib.ListN.{length, get_or, take, length-take}
use lib.Seq.{get_or-take}
use Rattle.std.specs.Prelude.{Result, Ok, Err}
use Rattle.integers.specs.declared.refused.Refusal.{Refusal}
use Rattle.integers.specs.Answers.{refused_by}
use Rattle.integers.proofs.RefusalNumbers.{never_zero}
use Rattle.integers.specs.Limits.{TASKS}
use Rattle.integers.specs.FilledLists.{filled, no_tasks}
use Rattle.integers.specs.Moments.{moment, instant, zero_at, Above, moment_at}
use Rattle.integers.specs.Orders.{index, Ordered}
use Rattle.integers.proofs.Ints.{ints, up, dn, subℤ, minℤ_is, maxℤ_is}
use Rattle.integers.specs.Extremes.{minℤ, maxℤ}
use Rattle.integers.proofs.MomentSums.{mono, reflect, mono<, plus, plus_above, above_up, at_moment, instant_above, moment_instant}
use Rattle.scheduling.specs.Scheduling.{whole, natural, Tasks, total}
use Rattle.scheduling.proofs.Sets.{total_ext}
use Rattle.records.specs.declared.record.DisjunctivePropagator.{DisjunctivePropagator}
use Rattle.records.specs.Records.{duration_for}
use Rattle.fixed_schedules.specs.FixedSchedules.{order_of, tasks_on, AcceptedFixed}
use Rattle.fixed_schedules.specs.Neighbours.{Tested}
use Rattle.fixed_schedules.proofs.ScheduleOrder.{ordered, order_length, front_within}
use Rattle.fixed_schedules.specs.Parameters.{LengthFits}
use Rattle.fixed_schedules.proofs.AcceptedSchedules.{AtMoments, input_of, at_moments, by_moments, moment_low, moment_high}
use Rattle.busiest_stretch.specs.declared.answer.Stretch.{Stretch}
use Rattle.busiest_stretch.specs.Numbers.{numbers_of_busiest}
use Rattle.busiest_stretch.specs.Stretches.{common, covered, Counts, BusiestAt, stretch_number, BusiestAnswered}
use Rattle.busiest_stretch.specs.StretchMoments.{common_in, tasks_at, common_at, covered_in, Slidable, EndsStart, BusiestMoment}
use Rattle.busiest_stretch.proofs.StretchRefused.{stretch_many, accepted_call}

-- a difference that is not negative, or 0
positive : (z : ℤ) (p q : ℕ) → up z + q ≡ p + dn z → duration_for z ≡ p - q
unfolding up dn
positive (pos n) p q e = omega arith
positive (negsuc n) p q e = omega arith

common_same : (o : ℕ) (a b x y : ℤ) → Above o a → Above o b → Above o x → Above o y
    → common a b x y ≡ common_in (moment o a) (moment o b) (moment o x) (moment o y)
unfolding common_in
common_same o a b x y p q r s = positive (minℤ b y -ℤ maxℤ a x) (min (moment o b) (moment o y)) (max (moment o a) (moment o x)) sums
  where
    earlier : up (minℤ b y) + o ≡ min (moment o b) (moment o y) + dn (minℤ b y)
    earlier = ⊎_elim (λ h. omega (ints, h.0, h.1, at_moment o b q, at_moment o y s)) (λ h. omega (ints, h.0, h.1, at_moment o b q, at_moment o y s)) (minℤ_is b y)

    later : up (maxℤ a x) + o ≡ max (moment o a) (moment o x) + dn (maxℤ a x)
    later = ⊎_elim (λ h. omega (ints, h.0, h.1, at_moment o a p, at_moment o x r)) (λ h. omega (ints, h.0, h.1, at_moment o a p, at_moment o x r)) (maxℤ_is a x)

    sums : up (minℤ b y -ℤ maxℤ a x) + max (moment o a) (moment o x) ≡ min (moment o b) (moment o y) + dn (minℤ b y -ℤ maxℤ a x)
    sums = omega (arith, earlier, later, subℤ (minℤ b y) (maxℤ a x))

-- ---- the tasks J of whole numbers, and M of their moments
module _ (o : ℕ) (J : Tasks whole) (M : Tasks natural) (at_moments : AtMoments o J M) where
  covered_same : (w : ℕ) (x : ℤ) → Above o x → covered J w x ≡ covered_in M w (moment o x)
  covered_same w x p =
      total_ext (λ k. common (J.earliest k) (J.earliest k +ℤ pos (J.duration k)) x (x +ℤ pos w)) (common_at M w (moment o x)) J.count each
      ∙ ap (total (common_at M w (moment o x))) (sym at_moments.count)
    where
      each : (k : ℕ) → k < J.count → common (J.earliest k) (J.earliest k +ℤ pos (J.duration k)) x (x +ℤ pos w) ≡ common_at M w (moment o x) k
      each k q =
          let a = J.earliest k in
          let d = J.duration k in
          rw (at_moments.start k q, at_moments.lasts k q, ← plus o a d (at_moments.above k q), ← plus o x w p)
          (common_same o a (a +ℤ pos d) x (x +ℤ pos w) (at_moments.above k q) (plus_above o a d (at_moments.above k q)) p (plus_above o x w p))

  -- what is busiest in moments is so in whole numbers: all starts are from the first to the last, and these are starts
  module _ (first last : ℕ)
      (least : (k : ℕ) → k < M.count → first ≤ M.earliest k) (greatest : (k : ℕ) → k < M.count → M.earliest k ≤ last)
      (starts_first : (k : ℕ) × (k < M.count) × (M.earliest k ≡ first)) (starts_last : (k : ℕ) × (k < M.count) × (M.earliest k ≡ last)) where
    counted : (k : ℕ) → k < J.count → k < M.count
    counted k q = omega (arith, at_moments.count)

    counts_above : (u : ℤ) → Counts J u → Above o u
    counts_above u h = let (k, q, l) = h.from in above_up o (J.earliest k) u l (at_moments.above k q)

    counts_from : (u : ℤ) → Counts J u → first ≤ moment o u
    counts_from u h = let (k, q, l) = h.from in omega (arith, least k (counted k q), at_moments.start k q, mono o (J.earliest k) u l)

    counts_to : (u : ℤ) → Counts J u → moment o u ≤ last
    counts_to u h = let (k, q, l) = h.to in omega (arith, greatest k (counted k q), at_moments.start k q, mono o u (J.earliest k) l)

    counts_up : (m : ℕ) → first ≤ m → m ≤ last → Counts J (instant o m)
    counts_up m l h =
        let (j, i, e) = starts_first in
        let (k, n, f) = starts_last in
        let p : j < J.count = omega (arith, at_moments.count) in
        let q : k < J.count = omega (arith, at_moments.count) in
        let a : moment o (J.earliest j) ≤ moment o (instant o m) = omega (arith, e, at_moments.start j p, moment_instant o m) in
        let b : moment o (instant o m) ≤ moment o (J.earliest k) = omega (arith, f, at_moments.start k q, moment_instant o m) in
        record {
          from = (j, p, reflect o (J.earliest j) (instant o m) (at_moments.above j p) (instant_above o m) a);
          to = (k, q, reflect o (instant o m) (J.earliest k) (instant_above o m) (at_moments.above k q) b);
        }

    busiest_up : (w c m : ℕ) → BusiestMoment M w first last c m → BusiestAt J w c (instant o m)
    busiest_up w c m b = record {
      counts = counts_up m b.held.from b.held.to;
      covers = covered_same w (instant o m) (instant_above o m) ∙ ap (covered_in M w) (moment_instant o m) ∙ b.held.covers;
      most = λ u h. ⊎_elim (λ l. omega (arith, l, covered_same w u (counts_above u h))) (λ l. omega (arith, l.0, covered_same w u (counts_above u h)))
          (b.most (moment o u) (counts_from u h) (counts_to u h));
      least = λ u h q.
          (let f = mono< o u (instant o m) (counts_above u h) (instant_above o m) q in
          ⊎_elim (λ l. omega (arith, l, covered_same w u (counts_above u h))) (λ l. absurd (omega (arith, l.1, f, moment_instant o m))) (b.most (moment o u) (counts_from u h) (counts_to u h)));
    }

-- ---- a call by what its tests answer
module _ (r : DisjunctivePropagator) (es ls : List ℤ) (w : ℤ) where
  pub refused : (why : Refusal) → Tested es (stretch_number r es ls w) (Err why) → BusiestAnswered r es ls w (Err why)
  refused why t = record { refused = λ _. ap refused_by t.number; found = λ z. absurd (never_zero why (t.number ∙ z)) }

  module _ (order : List ℕ) (t : Tested es (stretch_number r es ls w) (Ok order)) where
    held : AcceptedFixed r es ls × LengthFits w
    held = (accepted_call r es ls w).0 (sym t.number)

    pub few : r.count ≤ TASKS
    few = held.0.lawful.few

    pub few_starts : length es ≤ TASKS
    few_starts = omega (arith, held.0.counts.earliest, few)

    pub lasts : pos 0 ≤ℤ w
    unfolding up dn
    lasts = omega (ints, held.1.low)

    pub within : r.count ≤ length order
    within = omega (arith, held.0.counts.earliest, front_within es order t.order)

    -- the tasks by start
    abbrev by_start : List ℕ
    by_start = take r.count order

    sorted : by_start ≡ order_of es
    sorted = ap (λ (n : ℕ). take n order) (sym held.0.counts.earliest) ∙ t.order

    pub fits : r.count ≡ length by_start
    fits = omega (arith, held.0.counts.earliest, ap length sorted, order_length es)

    -- the first and the last place hold tasks
    pub places : (0 < r.count) × (get_or by_start 0 0 < r.count) × (get_or by_start (r.count - 1) 0 < r.count)
    places =
        let some = held.0.lawful.some in
        let at : (k : ℕ) → k < r.count → get_or by_start k 0 < r.count = λ k q. rw sorted (omega (arith, held.0.counts.earliest, (ordered es).task k (omega (arith, held.0.counts.earliest)))) in
        (some, at 0 some, at (r.count - 1) (omega (arith, some)))

    module _ (starts : List ℕ) (s : starts ≡ filled (moment_at es) (length es) no_tasks) (long : length starts ≡ TASKS) where
      -- the tasks of the slide
      abbrev front : List ℕ
      front = take r.count starts

      abbrev lengths : List ℕ
      lengths = take r.count r.durations

      abbrev first : ℕ
      first = get_or starts (get_or by_start 0 0) 0

      abbrev last : ℕ
      last = get_or starts (get_or by_start (r.count - 1) 0) 0

      pub many : r.count ≡ length front
      many = omega (arith, length-take r.count starts, long, few)

      in_front : (k : ℕ) → k < length front → (k < r.count) × (get_or front k 0 ≡ get_or starts k 0)
      in_front k q = let l : k < r.count = omega (arith, many) in (l, get_or-take r.count starts k 0 l)

      at_front : AtMoments zero_at (tasks_on r es ls) (tasks_at front lengths)
      at_front =
          let a = at_moments r es ls (input_of held.0) starts s in
          record { count = sym many; above = a.above; start = λ k q. get_or-take r.count starts k 0 q ∙ a.start k q; lasts = λ k q. get_or-take r.count r.durations k 0 q }

      in_order : Ordered (length by_start) (λ t. get_or by_start t 0) (index (order_of es)) (λ j k. get_or starts j 0 ≤ get_or starts k 0)
      in_order = by_moments r es ls (input_of held.0) starts s sorted

      least : (k : ℕ) → k < length front → first ≤ get_or front k 0
      least k q =
          let (l, e) = in_front k q in
          let o = in_order in
          omega (arith, e, rw (o.there k (omega (arith, fits))) at (o.sorted 0 (index (order_of es) k) (omega arith) (o.placed k (omega (arith, fits)))))

      greatest : (k : ℕ) → k < length front → get_or front k 0 ≤ last
      greatest k q =
          let (l, e) = in_front k q in
          let o = in_order in
          let p = o.placed k (omega (arith, fits)) in
          omega (arith, e, rw (o.there k (omega (arith, fits))) at (o.sorted (index (order_of es) k) (r.count - 1) (omega (arith, p, fits)) (omega (arith, fits, l))))

      pub ends_start : EndsStart front first last
      ends_start =
          let (some, a, b) = places in
          record {
            starts_first = (get_or by_start 0 0, omega (arith, a, many), get_or-take r.count starts _ 0 a);
            starts_last = (get_or by_start (r.count - 1) 0, omega (arith, b, many), get_or-take r.count starts _ 0 b);
          }

      module _ (size : ℕ) (p : pos size ≡ w) where
        pub slidable : length r.durations ≡ TASKS → Slidable front lengths size first last
        unfolding up dn
        slidable deep =
            let (some, a, b) = places in record {
              few = omega (arith, many, few);
              long = omega (arith, many, few, deep, length-take r.count r.durations);
              least = least;
              greatest = greatest;
              low = omega (arith, moment_low r es ls (input_of held.0) starts s _ a);
              high = moment_high r es ls (input_of held.0) starts s _ b;
              sum = rw (← many) (omega (arith, held.0.lawful.sum, total_ext (λ k. get_or lengths k 0) (λ k. get_or r.durations k 0) r.count (λ k q. get_or-take r.count r.durations k 0 q)));
              short = omega (ints, held.1.high);
            }

        pub found : (c : ℕ) (x : ℤ) {m : ℕ} → BusiestMoment (tasks_at front lengths) size first last c m → x ≡ instant zero_at m
            → BusiestAnswered r es ls w (Ok (record { covered = c; start = x }))
        found c x {m} b e = record {
          refused = λ not. absurd (not (sym t.number));
          found = λ _. record {
            time = c;
            start = instant zero_at m;
            answer = ap (λ (s : ℤ). numbers_of_busiest (Ok (record { covered = c; start = s }))) e;
            busiest = subst (λ (n : ℕ). BusiestAt (tasks_on r es ls) n c (instant zero_at m)) (ap duration_for p)
                (busiest_up zero_at (tasks_on r es ls) (tasks_at front lengths) at_front first last least greatest ends_start.starts_first ends_start.starts_last size c m b);
          };
        }

-- too many ranges are refused as none are
pub too_many : (r : DisjunctivePropagator) (es ls : List ℤ) (w : ℤ) (x : Result Stretch Refusal) → TASKS < length es
    → BusiestAnswered r [] [] w x → BusiestAnswered r es ls w x
too_many r es ls w x many a =
    let (same, not) = stretch_many r es ls w many in
    record { refused = λ _. a.refused (λ z. not (sym same ∙ z)) ∙ ap refused_by same; found = λ z. absurd (not z) }
