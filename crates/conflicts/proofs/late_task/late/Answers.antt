-- The definition, step by step: the others, the suffix of them that gives the bound, and the spans of the three sets.
use Rattle.overload_test.specs.declared.task_moments.TaskMoments.{TaskMoments}
use mathlib.Core.Bool.{Bool, false}
use mathlib.Core.List.{List}
use Rattle.conflicts.specs.HeldTasks.{Lates, HoldsSet}
use mathlib.Core.Path.{ap, ◌∙◌}
use Prim.Native.Nat.{ℕ, ◌<◌}
use native.Mathlib.Omega.{arith}
use lib.ListN.{set}
use mir.Syntax.{w32}
use Rattle.integers.specs.Moments.{moment, zero_at}
use Rattle.integers.proofs.Ints.{back, back_of}
use Rattle.conflicts.specs.Answers.{flags_of}
use Rattle.conflicts.specs.Suffixes.{suffix_up_to}
use Rattle.conflicts.specs.ConflictOf.{others}
use Rattle.conflicts.proofs.HeldSets.{count, without, work_is, sum_fits}
use Rattle.conflicts.proofs.late_task.late.Goals.{After-suffix_to-before, Start}
use Rattle.conflicts.proofs.late_task.late.Goals as goal

-- the task is one of those held
small : {m : TaskMoments} {named : List Bool} {task : ℕ} (h : HoldsSet m named) → Lates h.J h.Ω task → task < m.count
small h late = omega (arith, late.task.small, count h)

-- the suffix of the others
abbrev before : (c : After-suffix_to-before) (h : HoldsSet c.args.m.now c.args.named) → HoldsSet c.args.m.now c.suffix_to-before.result
before c h = record {
  J = h.J;
  Ω = suffix_up_to h.J (others h.Ω c.args.task) (moment zero_at c.args.bound);
  holds = h.holds;
  flags = c.suffix_to-before.ensures (without h c.args.task (small c.requires.0 c.requires.1))
      ∙ ap (λ (t : ℕ). flags_of h.J.count (suffix_up_to h.J (others h.Ω c.args.task) t)) (c.moment_of.ensures ∙ ap (moment zero_at) (back c.ranges.bound));
}

without_task : (s : Start) → HoldsSet s.args.m.now (set s.args.named s.args.task false)
without_task s = without s.requires.0 s.args.task (small s.requires.0 s.requires.1)

pub past-requires : goal.past-requires
past-requires c =
    let h = c.requires.0 in
    rw (c.span_of-all.ensures h, c.span_of-end.ensures (without h c.args.task (small c.requires.0 c.requires.1)))
    (c.requires.1.over, sum_fits h.holds h.Ω (c.args.task, c.requires.1.task))

pub returns : goal.returns
returns c h =
    rw (
      back c.ranges.latest_start,
      back c.ranges.bound,
      work_is h c.work_of.ensures (c.span_of-all.ensures h),
      c.past.ensures,
      c.span_of-all.ensures h,
      back_of w32 c.start_of.result c.start_of.type_inv,
      c.start_of.ensures,
      c.span_of-end.ensures (without h c.args.task (small c.requires.0 c.requires.1)),
      work_is (before (goal.at.returns c).After-suffix_to-before h) c.work_of-2.ensures (c.span_of.ensures (before (goal.at.returns c).After-suffix_to-before h)),
    )

pub bounds-others-task : goal.bounds-others-task
bounds-others-task c = omega (arith, small c.requires.0 c.requires.1, c.requires.0.holds.held.few)

pub suffix_to-before-requires : goal.suffix_to-before-requires
suffix_to-before-requires c = without_task (goal.at.suffix_to-before-requires c).Start

pub span_of-end-requires : goal.span_of-end-requires
span_of-end-requires c = without_task (goal.at.span_of-end-requires c).Start

pub span_of-requires : goal.span_of-requires
span_of-requires c = (before (goal.at.span_of-requires c).After-suffix_to-before c.requires.0)
