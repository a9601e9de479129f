-- The definition, step by step: the tasks read, their ect, the suffix that attains it, and its span.
use Rattle.overload_test.specs.declared.task_moments.TaskMoments.{TaskMoments}
use mathlib.Core.Bool.{Bool}
use mathlib.Core.List.{List}
use mathlib.Core.Path.{◌≡◌, ap, ◌∙◌}
use Prim.Native.Nat.{ℕ}
use native.Mathlib.Omega.{arith}
use mir.Syntax.{w32}
use Rattle.integers.proofs.Ints.{back_of}
use Rattle.scheduling.specs.Scheduling.{Overloads}
use Rattle.scheduling.specs.Ects.{ect_of}
use Rattle.trees.specs.Ects.{raised_to}
use Rattle.overload_test.specs.ReadTasks.{read}
use Rattle.conflicts.specs.Answers.{flags_of}
use Rattle.conflicts.specs.Suffixes.{suffix_up_to}
use Rattle.conflicts.specs.Spans.{span_of}
use Rattle.conflicts.specs.ConflictOf.{overloading_set}
use Rattle.conflicts.specs.HeldTasks.{HoldsSet, Overloadable}
use Rattle.conflicts.proofs.HeldSets.{work_is, held_set, starts_fit, sum_fits}
use Rattle.conflicts.proofs.OverloadingSets.{overloads_when}
use Rattle.conflicts.proofs.SpanValues.{span_over}
use Rattle.conflicts.proofs.overloading.overloading.Goals.{After-span_of-span, After-suffix_to-tasks}
use Rattle.conflicts.proofs.overloading.overloading.Goals as goal

-- the flags are those of the tasks read
abbrev reads : {m : TaskMoments} {k : ℕ} (h : Overloadable m k) {flags : List Bool} → flags ≡ flags_of h.J.count (read h.J k) → HoldsSet m flags
reads {m} {k} h e = record { J = h.J; Ω = read h.J k; holds = h.holds; flags = e }

moment : (c : After-suffix_to-tasks) (h : Overloadable c.args.m.now c.args.k)
    → c.raised.result ≡ raised_to 0 (ect_of h.J (read h.J c.args.k))
moment c h = c.raised.ensures ∙ ap (raised_to 0) (c.theta_ect-ect.ensures h.J (read h.J c.args.k) (held_set (reads h (c.tasks_read-read.ensures h.J h.holds))))

abbrev left : (c : After-suffix_to-tasks) (h : Overloadable c.args.m.now c.args.k) → HoldsSet c.args.m.now c.suffix_to-tasks.result
left c h = record {
  J = h.J;
  Ω = overloading_set h.J c.args.k;
  holds = h.holds;
  flags = c.suffix_to-tasks.ensures (reads h (c.tasks_read-read.ensures h.J h.holds)) ∙ ap (λ (t : ℕ). flags_of h.J.count (suffix_up_to h.J (read h.J c.args.k) t)) (moment c h);
}

-- its span
span : (c : After-span_of-span) (h : Overloadable c.args.m.now c.args.k)
    → c.span_of-span.result ≡ span_of h.J (overloading_set h.J c.args.k)
span c h = c.span_of-span.ensures (left (goal.at.After-span_of-span c).After-suffix_to-tasks h)

pub theta_ect-ect-requires : goal.theta_ect-ect-requires
theta_ect-ect-requires c = let h = c.requires in (h.J, read h.J c.args.k, held_set (reads h (c.tasks_read-read.ensures h.J h.holds)))

pub suffix_to-tasks-requires : goal.suffix_to-tasks-requires
suffix_to-tasks-requires c = let h = c.requires in reads h (c.tasks_read-read.ensures h.J h.holds)

pub span_of-span-requires : goal.span_of-span-requires
span_of-span-requires c = left (goal.at.span_of-span-requires c).After-suffix_to-tasks c.requires

pub past-requires : goal.past-requires
past-requires c =
    let h = c.requires in
    let Ω = overloading_set h.J c.args.k in
    let over : Overloads h.J Ω = overloads_when h in
    rw (span (goal.at.past-requires c).After-span_of-span h) (omega (arith, span_over h.J Ω (starts_fit h.holds) over), sum_fits h.holds Ω (over.est.holds.0, over.est.holds.1))

pub returns : goal.returns
returns c h =
    rw (
      work_is (left (goal.at.returns c).After-suffix_to-tasks h) c.work_of.ensures (span (goal.at.returns c).After-span_of-span h),
      back_of w32 c.start_of.result c.start_of.type_inv,
      c.start_of.ensures,
      c.past.ensures,
      c.no_work.ensures,
      span (goal.at.returns c).After-span_of-span h,
    )
