-- The moments of an accepted record's tasks, and a set of these tasks, stand in the arrays as `theta_ect` requires.
use mathlib.Core.Path.{◌≡◌, ap, subst, ◌∙◌}
use mathlib.Core.Bool.{Bool, false}
use mathlib.Core.List.{List}
use Prim.Native.Nat.{ℕ, ◌+◌, ◌-◌, ◌≤◌, ◌<◌}
use native.Mathlib.Omega.{arith}
use lib.IntN.{ℤ}
use lib.ListN.{length, get_or}
use Rattle.integers.specs.Limits.{TASKS, START, DURATIONS}
use Rattle.integers.specs.FilledLists.{filled, no_tasks}
use Rattle.integers.specs.Moments.{zero_at, moment_at}
use Rattle.scheduling.specs.Scheduling.{natural, Tasks, TaskSet, total}
use Rattle.records.specs.declared.record.DisjunctivePropagator.{DisjunctivePropagator}
use Rattle.records.specs.Records.{moments_in}
use Rattle.records.specs.Refusals.{AcceptedInput}
use Rattle.records.proofs.AcceptedTasks.{count, durations_at, sum_fits, proper, between, moments_at}
use Rattle.chosen_sets.specs.TaskArrays.{HeldSet, Late}

module _ (r : DisjunctivePropagator) (es ls : List ℤ) (a : AcceptedInput r es ls) (long : length r.durations ≡ TASKS) where
  abbrev M : Tasks natural
  M = moments_in r es ls

  limits : (k : ℕ) → k < r.count → (zero_at - START ≤ M.earliest k) × (M.earliest k ≤ M.latest k) × (M.latest k ≤ zero_at + START)
  limits k q = between r es ls a long k (omega (arith, count r es ls a long))

  pub held : {est : List ℕ} → est ≡ filled (moment_at es) (length es) no_tasks → {Ω : TaskSet} {chosen : List Bool} → ((k : ℕ) → k < r.count → get_or chosen k false ≡ Ω k)
      → HeldSet M Ω r.count chosen est r.durations
  held e member = record {
    proper = proper r es ls a long;
    count = count r es ls a long;
    few = a.lawful.few;
    member = member;
    start = λ k q. ap (λ (o : List ℕ). get_or o k 0) e ∙ moments_at r es ls a long es a.counts.earliest k q;
    lasts = durations_at r es ls a long;
    early = λ k q. omega (arith, (limits k q).1, (limits k q).2);
    sum = subst (λ (m : ℕ). total M.duration m ≤ DURATIONS) (count r es ls a long) (sum_fits r es ls a long);
  }

  pub late : {lst : List ℕ} → lst ≡ filled (moment_at ls) (length ls) no_tasks → Late M r.count lst
  late l = record {
    at = λ k q. ap (λ (o : List ℕ). get_or o k 0) l ∙ moments_at r es ls a long ls a.counts.latest k q;
    fits = λ k q. omega (arith, (limits k q).2);
  }

-- another set of the tasks stands in the arrays by its own flags
pub choosing : {J : Tasks natural} {Ω Ω' : TaskSet} {n : ℕ} {chosen chosen' : List Bool} {est durations : List ℕ} → HeldSet J Ω n chosen est durations
    → ((k : ℕ) → k < n → get_or chosen' k false ≡ Ω' k) → HeldSet J Ω' n chosen' est durations
choosing h member = record {
  proper = h.proper;
  count = h.count;
  few = h.few;
  member = member;
  start = h.start;
  lasts = h.lasts;
  early = h.early;
  sum = h.sum;
}
