-- Where the tasks read overload, the longest suffix of them that attains their ect does.
use mathlib.Core.Path.{◌≡◌, sym, ap, subst, ◌∙◌}
use mathlib.Core.Bool.{true}
use mathlib.Core.Option.{some}
use Prim.Native.Nat.{ℕ, zero, suc, ◌-◌, ◌≤◌, ◌<◌, max}
use native.Mathlib.Omega.{arith}
use lib.ListN.{get_or}
use Rattle.integers.specs.Orders.{index}
use Rattle.scheduling.specs.Scheduling.{natural, Tasks, Proper, TaskSet, In, Overloads, completion}
use Rattle.scheduling.specs.Ects.{by_earliest, ect_of}
use Rattle.scheduling.proofs.Ects.{by_earliest_is, ect_is}
use Rattle.scheduling.proofs.Exists.{lct_some}
use Rattle.scheduling.proofs.Suffixes.{attaining}
use Rattle.trees.specs.Ects.{raised_to}
use Rattle.trees.proofs.Ects.{exceeds_yes}
use Rattle.std.specs.Prelude.{Some}
use Rattle.overload_test.specs.ReadTasks.{by_completion, read, overloads_at, answer_of}
use Rattle.overload_test.proofs.ReadTasks.{by_completion_is, read_place}
use Rattle.overload_test.proofs.FirstOverload.{yes_at}
use Rattle.conflicts.specs.Suffixes.{suffix_up_to}
use Rattle.conflicts.specs.ConflictOf.{overloading_set}
use Rattle.overload_test.specs.declared.task_moments.TaskMoments.{TaskMoments}
use Rattle.overload_test.specs.ReadArrays.{HoldsTasks}
use Rattle.conflicts.specs.HeldTasks.{Overloadable}
use Rattle.conflicts.proofs.SuffixSteps.{Suffix, suffix}

-- The answer --------------------------------------------------------------------------------------------------------------------

module _ (J : Tasks natural) where
  pub read_few : {m : TaskMoments} → HoldsTasks J m → (k : ℕ) → answer_of J ≡ Some k → k ≤ m.count
  read_few h k e = omega (arith, (yes_at J 0 J.count k e).1, h.held.count)

  -- as the code holds it
  abbrev pub overloadable : {m : TaskMoments} → HoldsTasks J m → (k : ℕ) → answer_of J ≡ Some k → Overloadable m k
  overloadable h k e = record { J = J; holds = h; some = (yes_at J 0 J.count k e).0; few = read_few h k e; over = (yes_at J 0 J.count k e).2 }

-- The set -----------------------------------------------------------------------------------------------------------------------

module _ (J : Tasks natural) (ok : Proper J) where
  -- a suffix attains the ect of a set
  pub attained : (Ω : TaskSet) (v : ℕ) → ect_of J Ω ≡ some v → Suffix J Ω v
  attained Ω v e =
      let (m, mm, z) = attaining J (λ x. get_or (by_earliest J) x 0) (λ k. index (by_earliest J) k) (by_earliest_is J) Ω v ((ect_is J ok Ω v).0 e) in
      let there : get_or (by_earliest J) (index (by_earliest J) m) 0 ≡ m = (by_earliest_is J).there m mm.small in
      suffix J Ω v (index (by_earliest J) m) ((by_earliest_is J).placed m mm.small) (ap Ω there ∙ mm.mem) (omega (arith, z, ap J.earliest there))

  pub overloading : (k : ℕ) → 1 ≤ k → k ≤ J.count → overloads_at J (k - 1) ≡ true → Overloads J (overloading_set J k)
  overloading zero p q y = absurd (omega arith)
  overloading (suc k) p q y =
      let here : k ≡ suc k - 1 = omega arith in
      let (v, e, over) = exceeds_yes (ect_of J (read J (suc k))) (completion J (get_or (by_completion J) k 0)) (ap (overloads_at J) here ∙ y) in
      let z : max 0 v ≡ v = omega arith in
      subst (λ (t : ℕ). Overloads J (suffix_up_to J (read J (suc k)) t)) (sym (ap (raised_to 0) e ∙ z)) (by v over (attained (read J (suc k)) v e))
    where
      by : (v : ℕ) → completion J (get_or (by_completion J) k 0) < v → Suffix J (read J (suc k)) v → Overloads J (suffix_up_to J (read J (suc k)) v)
      by v over s =
          let (end, l) = lct_some J (suffix_up_to J (read J (suc k)) v) (s.first, s.member) in
          record { start = J.earliest s.first; end = end; est = s.est; lct = l; over = omega (arith, s.sum, over, l.holds.2, last l.holds.0 l.holds.1) }
        where
          -- those read end by the latest completion of the last
          last : (j : ℕ) → In J (suffix_up_to J (read J (suc k)) v) j → completion J j ≤ completion J (get_or (by_completion J) k 0)
          last j h = subst (λ (i : ℕ). completion J i ≤ completion J (get_or (by_completion J) k 0)) ((by_completion_is J).there j h.small)
              ((by_completion_is J).sorted (index (by_completion J) j) k (omega (arith, read_place J (suc k) j (s.within j h.mem))) q)

  pub read_over : (k : ℕ) → answer_of J ≡ Some k → Overloads J (overloading_set J k)
  read_over k e = let (least, most, over) = yes_at J 0 J.count k e in overloading k least (omega arith) over

-- the same, as the code holds it
pub overloads_when : {m : TaskMoments} {k : ℕ} (h : Overloadable m k) → Overloads h.J (overloading_set h.J k)
overloads_when {m} {k} h = overloading h.J h.holds.held.proper k h.some (omega (arith, h.few, h.holds.held.count)) h.over
