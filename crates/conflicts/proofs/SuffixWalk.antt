-- What the walk to a suffix holds at a place: the flags of the tasks from there on, their p, and that the first place that reaches the moment is not before it.
use mathlib.Core.Path.{◌≡◌, refl, sym, ap, ◌∙◌}
use mathlib.Core.Bool.{Bool, true, false}
use mathlib.Core.List.{List}
use Prim.Native.Nat.{ℕ, suc, ◌+◌, ◌-◌, ◌^◌, ◌≤◌, ◌<◌}
use native.Mathlib.Omega.{arith}
use native.Mathlib.Numerals.{add-one}
use lib.Dec.{eqb}
use lib.ListN.{get_or, set, take}
use borrow.Author.Tests.{eq-eqb, ne_eqb}
use Rattle.integers.specs.Limits.{TASKS}
use Rattle.integers.proofs.Bools.{and_yes, and_left, and_right}
use Rattle.scheduling.specs.Scheduling.{natural, Tasks, TaskSet, total, processing}
use Rattle.scheduling.specs.Ects.{by_earliest}
use Rattle.scheduling.proofs.Ects.{by_earliest_is}
use Rattle.scheduling.proofs.Processing.{processing_all, processing_mono, processing_same}
use Rattle.overload_test.specs.declared.task_moments.TaskMoments.{TaskMoments}
use Rattle.sorts.specs.Orders.{SortedBy, by_key}
use Rattle.chosen_sets.proofs.Recurrence.{front_is}
use Rattle.conflicts.specs.Answers.{flagged, flags_of}
use Rattle.conflicts.specs.Suffixes.{onward, reaches_at, first_place, suffix_up_to}
use Rattle.conflicts.specs.Spans.{span_of}
use Rattle.conflicts.specs.HeldTasks.{HoldsSet}
use Rattle.conflicts.proofs.Flags.{flag_at, flag_set, flags_agree}
use Rattle.conflicts.proofs.HeldSets.{count, few}
use Rattle.conflicts.proofs.SpanValues.{span_p}
use Rattle.conflicts.proofs.SuffixSteps.{onward_all, onward_first, onward_gone, onward_stays, onward_skip, sum_skip, sum_less, stops_here, goes_on, runs_out}

-- the tasks by earliest start
pub in_order : {m : TaskMoments} {tasks : List Bool} (h : HoldsSet m tasks) {order : List ℕ} → SortedBy (by_key m.est) m.count order
    → (x : ℕ) → x < m.count → get_or (take m.count order) x 0 ≡ get_or (by_earliest h.J) x 0
in_order h s x q = ap (λ (o : List ℕ). get_or o x 0) (front_is h.holds.held s)

module _ {m : TaskMoments} {tasks : List Bool} (h : HoldsSet m tasks) (t : ℕ) where
  abbrev J : Tasks natural
  J = h.J

  abbrev n : ℕ
  n = J.count

  abbrev Ω : TaskSet
  Ω = h.Ω

  abbrev T : ℕ → ℕ
  T x = get_or (by_earliest J) x 0

  pub record Walked (x : ℕ) (left : List Bool) (p : ℕ) : Type 0 where
    pub flags : left ≡ flags_of n (onward J Ω x)
    pub sum : p ≡ processing J (onward J Ω x)
    pub first : first_place J Ω t x (n - x) ≡ first_place J Ω t 0 n

  pub begins : Walked 0 tasks (span_of J Ω).p
  begins = record {
    flags = h.flags ∙ flags_agree n n (omega arith) (few h) Ω (onward J Ω 0) (λ k q. sym (onward_all J Ω k)) (λ k q r. absurd (omega arith));
    sum = span_p J Ω ∙ processing_same J Ω (onward J Ω 0) (λ k q. sym (onward_all J Ω k));
    first = let z : n - 0 ≡ n = omega arith in ap (first_place J Ω t 0) z;
  }

  -- the tasks by earliest start, as the code has them
  module _ (order : List ℕ) (task : (x : ℕ) → x < m.count → get_or order x 0 ≡ get_or (by_earliest h.J) x 0) where
    task_small : (x : ℕ) → x < m.count → get_or order x 0 < m.count
    task_small x q = omega (arith, task x q, (by_earliest_is J).task x (omega (arith, count h)), count h)

    pub known : (x : ℕ) → x < m.count → get_or order x 0 < TASKS
    known x q = omega (arith, task_small x q, h.holds.held.few)

    module _ (x : ℕ) (q : x < m.count) {left : List Bool} {p : ℕ} (w : Walked x left p) where
      small : x < n
      small = omega (arith, count h)

      abbrev reach : ℕ
      reach = J.earliest (T x) + processing J (onward J Ω x)

      -- the flag of the task at x
      member : flagged left (get_or order x 0) ≡ Ω (T x)
      member = ap (λ (l : List Bool). flagged l (get_or order x 0)) w.flags ∙ ap (flagged (flags_of n (onward J Ω x))) (task x q)
          ∙ flag_at n (few h) (onward J Ω x) (T x) ((by_earliest_is J).task x small) ∙ onward_first J Ω x small

      start : get_or m.est (get_or order x 0) 0 ≡ J.earliest (T x)
      start = h.holds.held.start (get_or order x 0) (task_small x q) ∙ ap J.earliest (task x q)

      lasts : get_or m.durations (get_or order x 0) 0 ≡ J.duration (T x)
      lasts = h.holds.held.lasts (get_or order x 0) (task_small x q) ∙ ap J.duration (task x q)

      pub sum_fits : get_or m.est (get_or order x 0) 0 + p < 2 ^ 32
      sum_fits = omega (
        arith,
        w.sum,
        h.holds.held.start (get_or order x 0) (task_small x q),
        h.holds.held.early (get_or order x 0) (task_small x q),
        processing_mono J (onward J Ω x) (λ _. true) (λ k r. refl),
        processing_all J,
        h.holds.held.sum,
        ap (total J.duration) (count h),
      )

      pub stops : flagged left (get_or order x 0) ≡ true → get_or m.est (get_or order x 0) 0 + p ≡ t → left ≡ flags_of n (suffix_up_to J Ω t)
      stops y e =
          let r : reaches_at J Ω t x ≡ true = and_yes (Ω (T x)) (eqb reach t) (sym member ∙ y) (eq-eqb reach t (omega (arith, e, start, w.sum))) in
          w.flags ∙ ap (λ (a : ℕ). flags_of n (onward J Ω a)) (sym (stops_here J Ω t x small r) ∙ w.first)

      pub drops_fit : flagged left (get_or order x 0) ≡ true → get_or m.durations (get_or order x 0) 0 ≤ p
      drops_fit y = omega (arith, lasts, w.sum, sum_less J Ω x small (sym member ∙ y))

      pub drops : flagged left (get_or order x 0) ≡ true → (get_or m.est (get_or order x 0) 0 + p ≡ t → ⊥)
          → Walked (x + 1) (set left (get_or order x 0) false) (p - get_or m.durations (get_or order x 0) 0)
      drops y ne = rw (add-one x) (record {
        flags = ap (λ (l : List Bool). set l (get_or order x 0) false) w.flags ∙ ap (λ (k : ℕ). set (flags_of n (onward J Ω x)) k false) (task x q)
            ∙ flag_set n (few h) (onward J Ω x) (onward J Ω (suc x)) (T x) false ((by_earliest_is J).task x small) (onward_gone J Ω x small) (onward_stays J Ω x);
        sum = omega (arith, lasts, w.sum, sum_less J Ω x small (sym member ∙ y));
        first = sym (goes_on J Ω t x small (and_right (Ω (T x)) (eqb reach t) (ne_eqb reach t (λ e. ne (omega (arith, e, start, w.sum)))))) ∙ w.first;
      })

      pub skips : flagged left (get_or order x 0) ≡ false → Walked (x + 1) left p
      skips y =
          let out : Ω (T x) ≡ false = sym member ∙ y in
          rw (add-one x) (record {
            flags = w.flags ∙ flags_agree n n (omega arith) (few h) (onward J Ω x) (onward J Ω (suc x)) (λ k r. sym (onward_skip J Ω x k small r out)) (λ k r s. absurd (omega arith));
            sum = w.sum ∙ sym (sum_skip J Ω x small out);
            first = sym (goes_on J Ω t x small (and_left (Ω (T x)) (eqb reach t) out)) ∙ w.first;
          })

  pub ends : (x : ℕ) {left : List Bool} {p : ℕ} → x ≡ m.count → Walked x left p → left ≡ flags_of n (suffix_up_to J Ω t)
  ends x e w =
      let z : x ≡ n = omega (arith, count h) in
      w.flags ∙ ap (λ (a : ℕ). flags_of n (onward J Ω a)) (z ∙ sym (runs_out J Ω t) ∙ ap (λ (a : ℕ). first_place J Ω t a (n - a)) (sym z) ∙ w.first)
