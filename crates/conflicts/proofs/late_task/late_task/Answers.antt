-- The run on a copy of the starts leaves its trace in the words. Where the run is emptied, the words hold the last post; else nothing is late.
use mathlib.Core.Path.{◌≡◌, refl, sym, ap, subst, ◌∙◌}
use mathlib.Core.List.{List}
use Prim.Native.Nat.{ℕ, ◌≤◌}
use native.Mathlib.Omega.{arith}
use lib.IntN.{ℤ}
use lib.ListN.{length, take}
use borrow.Author.Rules.{rules}
use Rattle.integers.specs.Limits.{TASKS}
use Rattle.runs.specs.declared.outcome.Outcome.{Outcome}
use Rattle.runs.specs.declared.outcome.Outcome.TheVariants as outcome
use Rattle.runs.specs.Outcomes.{outcome_numbers}
use Rattle.propagator.specs.Ran.{Runnable}
use Rattle.conflicts.proofs.LastPosts.{can_run, nothing_late, last_posted, is_late}
use Rattle.conflicts.proofs.late_task.late_task.Goals.{After-starts_of-starts, Start}
use Rattle.conflicts.proofs.late_task.late_task.Goals as goal

-- the durations have TASKS places
long : (c : Start) → length c.args.«record».durations ≡ TASKS
long c = search rules

few : (c : Start) → length c.args.earliest.now ≤ TASKS
few c = omega (arith, c.requires.counts.earliest, c.requires.lawful.few)

-- the copy
copy : (c : After-starts_of-starts) → take c.args.«record».count c.starts_of-starts.result ≡ c.args.earliest.now
copy c = ap (λ (n : ℕ). take n c.starts_of-starts.result) (sym c.requires.counts.earliest) ∙ c.starts_of-starts.ensures

pub starts_of-starts-requires : goal.starts_of-starts-requires
starts_of-starts-requires c = few (goal.at.starts_of-starts-requires c).Start

pub slice_bounds-run_accepted-end : goal.slice_bounds-run_accepted-end
slice_bounds-run_accepted-end c = omega (arith, ap length (copy (goal.at.slice_bounds-run_accepted-end c).After-starts_of-starts), c.requires.counts.earliest)

pub run_accepted-finished-requires : goal.run_accepted-finished-requires
run_accepted-finished-requires c =
    let a = c.args in
    subst (λ (es : List ℤ). Runnable a.«record» es a.latest.now 192 13824) (sym (copy (goal.at.run_accepted-finished-requires c).After-starts_of-starts))
    (can_run a.«record» a.earliest.now a.latest.now c.requires (long (goal.at.run_accepted-finished-requires c).Start))

not_emptied : (o : Outcome) → ((x : ℕ) → o ≡ outcome.Emptied x → ⊥) → (outcome_numbers o).kind ≡ 2 → ⊥
not_emptied (outcome.Done posts) none e = omega arith
not_emptied (outcome.Overload posts first count) none e = omega arith
not_emptied (outcome.Emptied posts) none e = none posts refl
not_emptied (outcome.Refused number) none e = omega arith

pub returns-in_default : goal.returns-in_default
returns-in_default c =
    c.no_conflict.ensures ∙ sym (nothing_late _ _ _ c.requires (long (goal.at.returns-in_default c).Start) (copy (goal.at.returns-in_default c).After-starts_of-starts) c.run_accepted-finished.ensures
    (not_emptied c.run_accepted-finished.result.outcome c.in_default.not-Emptied))

pub last_posted-requires : goal.last_posted-requires
last_posted-requires c =
    last_posted _ _ _ c.requires (long (goal.at.last_posted-requires c).Start) (copy (goal.at.last_posted-requires c).After-starts_of-starts) c.run_accepted-finished.ensures c.task_moments-m.ensures _ c.in-Emptied.is

pub returns : goal.returns
returns c =
    is_late _ _ _ c.requires (long (goal.at.returns c).Start) (copy (goal.at.returns c).After-starts_of-starts) c.run_accepted-finished.ensures c.task_moments-m.ensures _ c.in-Emptied.is
    c.last_posted.ensures
