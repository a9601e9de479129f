-- What the arrays hold of the tasks and of a set of them, and the turns of the loops that read it.
use mathlib.Core.Path.{◌≡◌, refl, sym, ap, ◌∙◌}
use mathlib.Core.Bool.{Bool, true, false, cond}
use mathlib.Core.List.{List}
use Prim.Native.Nat.{ℕ, ◌+◌, ◌^◌, ◌≤◌, ◌<◌}
use native.Mathlib.Omega.{arith}
use lib.ListN.{get_or, set}
use borrow.Author.Tests.{ne_eqb}
use Rattle.integers.specs.Limits.{TASKS, U32MAX}
use Rattle.integers.proofs.Bools.{cond_most}
use Rattle.scheduling.specs.Scheduling.{natural, Tasks, TaskSet, total, NonEmpty}
use Rattle.scheduling.proofs.Processing.{processing_all, processing_mono}
use Rattle.scheduling.proofs.Sets.{total_mono, total_part, less_self}
use Rattle.trees.specs.NodeBounds.{LATEST}
use Rattle.chosen_sets.specs.TaskArrays.{HeldSet}
use Rattle.chosen_sets.proofs.RecordArrays.{choosing}
use Rattle.conflicts.specs.declared.answer.Work.{Work}
use Rattle.conflicts.specs.declared.spans.Span.{Span}
use Rattle.overload_test.specs.declared.task_moments.TaskMoments.{TaskMoments}
use Rattle.conflicts.specs.Answers.{flagged}
use Rattle.conflicts.specs.Spans.{with_task, work_with, span_below, span_of, work_of}
use Rattle.conflicts.specs.ConflictOf.{others}
use Rattle.overload_test.specs.ReadArrays.{HoldsTasks}
use Rattle.conflicts.specs.HeldTasks.{HoldsSet}
use Rattle.conflicts.proofs.Flags.{flag_at, flag_set}
use Rattle.conflicts.proofs.SpanValues.{span_more, span_sum, span_p, span_est}

module _ {m : TaskMoments} {tasks : List Bool} (h : HoldsSet m tasks) where
  abbrev J : Tasks natural
  J = h.J

  pub count : J.count ≡ m.count
  count = h.holds.held.count

  pub few : J.count ≤ TASKS
  few = omega (arith, count, h.holds.held.few)

  pub member_at : (k : ℕ) → k < m.count → flagged tasks k ≡ h.Ω k
  member_at k q = ap (λ (l : List Bool). flagged l k) h.flags ∙ flag_at J.count few h.Ω k (omega (arith, count))

  -- one task more of the span
  pub span_turn : (k : ℕ) → k < m.count → with_task (get_or tasks k false) (get_or m.est k 0) (get_or m.lct k 0) (get_or m.durations k 0) (span_below J h.Ω k) ≡ span_below J h.Ω (k + 1)
  span_turn k q = rw (member_at k q, h.holds.held.start k q, h.holds.ends k q, h.holds.held.lasts k q) (sym (span_more J h.Ω k))

  -- no sum wraps
  sum_most : (k : ℕ) → k ≤ m.count → total (λ j. cond (h.Ω j) (J.duration j) 0) k ≤ total J.duration k
  sum_most k q = total_mono (λ j. cond (h.Ω j) (J.duration j) 0) J.duration k (λ j r. cond_most (h.Ω j) (J.duration j))

  pub span_fits : (k : ℕ) → k < m.count → (span_below J h.Ω k).p + get_or m.durations k 0 < 2 ^ 32
  span_fits k q = omega (arith, span_sum J h.Ω k, sum_most k (omega arith), h.holds.held.lasts k q, total_part J.duration m.count k q, h.holds.held.sum)

  -- the set without one task
  abbrev pub without : (i : ℕ) → i < m.count → HoldsSet m (set tasks i false)
  without i q = record {
    J = J;
    Ω = others h.Ω i;
    holds = h.holds;
    flags = ap (λ (l : List Bool). set l i false) h.flags ∙ flag_set J.count few h.Ω (others h.Ω i) i false (omega (arith, count)) (less_self h.Ω i) (λ k r ne. rw (ne_eqb k i ne));
  }

  -- the set with its est and its p
  pub work_is : {w : Work} {s : Span} → w ≡ work_with tasks s → s ≡ span_of J h.Ω → w ≡ work_of J h.Ω
  work_is {w} {s} e z = e ∙ ap (work_with tasks) z ∙ ap (λ (l : List Bool). work_with l (span_of J h.Ω)) h.flags

  -- as `theta_ect` requires it
  pub held_set : HeldSet J h.Ω m.count tasks m.est m.durations
  held_set = choosing h.holds.held member_at

-- The numbers of tasks that the arrays hold fit.
module _ {J : Tasks natural} {m : TaskMoments} (h : HoldsTasks J m) where
  starts_early : (k : ℕ) → k < J.count → J.earliest k ≤ LATEST
  starts_early k q = h.held.early k (omega (arith, h.held.count))

  pub starts_fit : (k : ℕ) → k < J.count → J.earliest k ≤ U32MAX
  starts_fit k q = omega (arith, starts_early k q)

  pub sum_fits : (Ω : TaskSet) → NonEmpty J Ω → (span_of J Ω).est + (span_of J Ω).p < 2 ^ 32
  sum_fits Ω ne =
      let (k, km, e) = (span_est J Ω ne starts_fit).holds in
      omega (arith, e, starts_early k km.small, span_p J Ω, processing_mono J Ω (λ _. true) (λ k r. refl), processing_all J, h.held.sum, ap (total J.duration) h.held.count)
