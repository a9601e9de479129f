-- The definition's answer meets the contract: by the overload test, and where no set overloads by the run.
use mathlib.Core.Path.{◌≡◌, refl, sym, ap, subst, ◌∙◌}
use mathlib.Core.Bool.{Bool, false}
use mathlib.Core.Logic.{inl, inr}
use mathlib.Core.List.{List}
use Prim.Native.Nat.{ℕ, ◌-◌, ◌≤◌, ◌<◌}
use native.Mathlib.Omega.{arith}
use native.Mathlib.Decide.{ℕ_discrete}
use lib.Dec.{eqb}
use lib.IntN.{ℤ}
use lib.ListN.{length}
use lib.Signed.{◌<ℤ◌}
use borrow.Author.Tests.{eqb-false}
use Rattle.integers.specs.declared.refused.Refusal.{Refusal}
use Rattle.integers.specs.Answers.{Answer}
use Rattle.integers.proofs.Answers.{same_kind}
use Rattle.integers.specs.Limits.{TASKS, U32MAX}
use Rattle.integers.specs.Moments.{moment, zero_at}
use Rattle.scheduling.specs.Scheduling.{whole, natural, Tasks, TaskSet, Overloads, EdgeFindingBound}
use Rattle.scheduling.specs.Scheduling as scheduling
use Rattle.scheduling.proofs.Clocks.{overload←}
use Rattle.scheduling.proofs.Schedules.{conflict_sound}
use Rattle.runs.specs.Traces.{End, done, overload, emptied}
use Rattle.records.specs.declared.record.DisjunctivePropagator.{DisjunctivePropagator}
use Rattle.records.specs.Records.{tasks_in, moments_in}
use Rattle.records.specs.Refusals.{AcceptedInput, input_number}
use Rattle.records.proofs.AcceptedTasks.{count, proper_whole, above, proper, between}
use Rattle.records.proofs.RefusedRuns.{accepted_input}
use Rattle.propagator.specs.Ran.{trace_of}
use Rattle.std.specs.Prelude.{Option, Some, None, Result, Ok, Err}
use Rattle.overload_test.specs.ReadTasks.{answer_of}
use Rattle.overload_test.specs.Numbers.{numbers_of_overload}
use Rattle.overload_test.specs.Tested.{OverloadTested}
use Rattle.conflicts.specs.declared.answer.Found.{Found}
use Rattle.conflicts.specs.declared.answer.Found.TheVariants.{NothingFound, Late, Refused}
use Rattle.conflicts.specs.declared.answer.Conflict.{Conflict}
use Rattle.overload_test.specs.declared.task_moments.TaskMoments.{TaskMoments}
use Rattle.conflicts.specs.Answers.{without_conflict}
use Rattle.overload_test.specs.ReadArrays.{HoldsTasks}
use Rattle.conflicts.specs.HeldTasks.{Overloadable}
use Rattle.conflicts.specs.Numbers.{found_numbers}
use Rattle.conflicts.specs.ConflictOf.{overloading_set, overload_by, late_in, last_post, late_by, conflict_by, conflict_of}
use Rattle.conflicts.specs.Conflicts.{OverloadRight, LateRight, RefusedFor, ConflictFound}
use Rattle.conflicts.proofs.LastPosts.{right, sets, some_post, no_run_overload}
use Rattle.conflicts.proofs.LateSets.{late_right}
use Rattle.conflicts.proofs.OverloadingSets.{read_over, overloadable}
use Rattle.conflicts.proofs.WholeSets.{overload_right}

-- two answers of different kinds
pub apart : {X : Type 0} {f g h : Found} → f ≡ g → f ≡ h → eqb (found_numbers g).kind (found_numbers h).kind ≡ false → X
apart {g = g} {h = h} p q ne = absurd (eqb-false (found_numbers g).kind (found_numbers h).kind ne (ap (λ (f : Found). (found_numbers f).kind) (sym p ∙ q)))

found_in : {c d : Conflict} → c ≡ d → c.found ≡ d.found
found_in e = ap (λ (c : Conflict). c.found) e

-- What refuses the input -------------------------------------------------------------------------------------------------------

pub was_refused : (before : DisjunctivePropagator) (es ls : List ℤ) (bars : Bool) (c : Conflict) → (input_number before es ls bars ≡ 0 → ⊥)
    → RefusedFor (input_number before es ls bars) c → ConflictFound before es ls bars c
was_refused before es ls bars c h r = record {
  refused = λ _. r;
  answer = λ z. absurd (h z);
  nothing = λ z. absurd (h z);
  overload = λ z. absurd (h z);
  late = λ z. absurd (h z);
  overloads = λ w. absurd (omega (arith, same_kind (sym r.answer ∙ ap found_numbers w)));
  is_late = λ i z b w. absurd (omega (arith, same_kind (sym r.answer ∙ ap found_numbers w)));
  no_schedule = λ z. absurd (h z);
}

-- where the overload test answers a refusal
pub where_refused : (before : DisjunctivePropagator) (es ls : List ℤ) (bars : Bool) {o : Result (Option ℕ) Refusal} → OverloadTested before es ls bars o → (why : Refusal) → o ≡ Err why
    → (c : Conflict) → c ≡ without_conflict (Refused why) → ConflictFound before es ls bars c
where_refused before es ls bars t why z c e = was_refused before es ls bars c h (record {
  answer = ap found_numbers (found_in e) ∙ ap numbers_of_overload (sym z) ∙ t.refused h;
  alone = e ∙ ap without_conflict (sym (found_in e));
})
  where
    h : input_number before es ls bars ≡ 0 → ⊥
    h n = let w : Ok (answer_of (moments_in before es ls)) ≡ Err why = sym (t.answer n) ∙ z in cc

-- The three answers ------------------------------------------------------------------------------------------------------------

module _ (before : DisjunctivePropagator) (es ls : List ℤ) (bars : Bool) (accepted : input_number before es ls bars ≡ 0) (long : length before.durations ≡ TASKS) where
  abbrev Z : Tasks whole
  Z = tasks_in before es ls

  abbrev J : Tasks natural
  J = moments_in before es ls

  a : AcceptedInput before es ls
  a = ((accepted_input before es ls bars).0 accepted).0

  few : Z.count ≤ TASKS
  few = omega (arith, count before es ls a long, a.lawful.few)

  fits : (k : ℕ) → k < Z.count → moment zero_at (Z.earliest k) ≤ U32MAX
  fits k q = let w = between before es ls a long k q in omega (arith, w.1, w.2)

  module _ (c : Conflict) (is : c ≡ conflict_of before es ls) where
    by_overload : (Ω : TaskSet) → Overloads J Ω → c ≡ overload_by J Ω → ConflictFound before es ls bars c
    by_overload Ω o e =
        let oz : Overloads Z Ω = overload← zero_at Z (proper_whole before es ls a long) (above before es ls a long) Ω o in
        record {
          refused = λ h. absurd (h accepted);
          answer = λ _. is;
          nothing = λ _. (λ w. apart (found_in e) (found_in w) refl, λ n. absurd (n (inl (Ω, oz))));
          overload = λ _. (λ _. (Ω, oz), λ _. found_in e);
          late = λ _. (λ w. apart w.3 (found_in e) refl, λ w. absurd (w.0 Ω oz));
          overloads = λ _. subst (OverloadRight Z) (sym e) (overload_right Z (proper_whole before es ls a long) (above before es ls a long) few fits Ω o);
          is_late = λ i z b w. apart w (found_in e) refl;
          no_schedule = λ _ _. conflict_sound Z (proper_whole before es ls a long) (inl (Ω, oz));
        }

    by_late : ((Ω : TaskSet) → Overloads Z Ω → ⊥) → (i : ℕ) (b : ℤ) → EdgeFindingBound Z i b → Z.latest i <ℤ b → c.found ≡ Late i (Z.latest i) b → LateRight Z c i (Z.latest i) b
        → ConflictFound before es ls bars c
    by_late none i b edge passes e shown = record {
      refused = λ h. absurd (h accepted);
      answer = λ _. is;
      nothing = λ _. (λ w. apart e (found_in w) refl, λ n. absurd (n (inr (i, b, edge, passes))));
      overload = λ _. (λ w. apart e w refl, λ w. absurd (none w.0 w.1));
      late = λ _. (λ _. (none, (i, b, edge, passes)), λ _. (i, Z.latest i, b, e));
      overloads = λ w. apart e w refl;
      is_late = λ i' z' b' w. same i' z' b' (sym e ∙ w);
      no_schedule = λ _ _. conflict_sound Z (proper_whole before es ls a long) (inr (i, b, edge, passes));
    }
      where
        same : (i' : ℕ) (z' b' : ℤ) → Late i (Z.latest i) b ≡ Late i' z' b' → LateRight Z c i' z' b'
        same i' z' b' w =
            let p : i ≡ i' = cc in
            let q : Z.latest i ≡ z' = cc in
            let r : b ≡ b' = cc in
            subst (λ (x : ℕ). LateRight Z c x z' b') p (subst (λ (x : ℤ). LateRight Z c i x b') q (subst (λ (x : ℤ). LateRight Z c i (Z.latest i) x) r shown))

    by_nothing : (scheduling.Conflict Z → ⊥) → c ≡ without_conflict NothingFound → ConflictFound before es ls bars c
    by_nothing none e = record {
      refused = λ h. absurd (h accepted);
      answer = λ _. is;
      nothing = λ _. (λ _. none, λ _. e);
      overload = λ _. (λ w. apart w (found_in e) refl, λ w. absurd (none (inl (w.0, w.1))));
      late = λ _. (λ w. apart w.3 (found_in e) refl, λ w. absurd (none (inr w.1)));
      overloads = λ w. apart w (found_in e) refl;
      is_late = λ i z b w. apart w (found_in e) refl;
      no_schedule = λ _ h. absurd (h (found_in e));
    }

  -- Which of them it is --------------------------------------------------------------------------------------------------------

  module _ (c : Conflict) (is : c ≡ conflict_of before es ls) where
    where_yes : (k : ℕ) → answer_of J ≡ Some k → ConflictFound before es ls bars c
    where_yes k e = by_overload c is (overloading_set J k) (read_over J (proper before es ls a long) k e) (is ∙ ap (conflict_by before es ls) e)

    where_no : answer_of J ≡ None → ((Ω : TaskSet) → Overloads Z Ω → ⊥) → ConflictFound before es ls bars c
    where_no e none = by (trace_of before es ls).end refl (is ∙ ap (conflict_by before es ls) e)
      where
        by : (x : End) → (trace_of before es ls).end ≡ x → c ≡ late_by before es ls (trace_of before es ls).end → ConflictFound before es ls bars c
        by done z w = by_nothing c is ((right before es ls a long).exactly.0 z) (w ∙ ap (late_by before es ls) z)
        by (overload reason) z w = absurd (no_run_overload before es ls a long none reason z)
        by emptied z w =
            let p = last_post before es ls in
            let last = some_post before es ls a long z in
            let passes : Z.latest p.task <ℤ p.bound = ((right before es ls a long).above (length (trace_of before es ls).posts - 1) last).1 (z, omega (arith, last)) in
            let edge : EdgeFindingBound Z p.task p.bound = ((right before es ls a long).posts (length (trace_of before es ls).posts - 1) last).edge in
            let shown : c ≡ late_in J p.task (Z.latest p.task) p.bound _ = w ∙ ap (late_by before es ls) z in
            by_late c is none p.task p.bound edge passes (found_in shown)
            (subst (λ (d : Conflict). LateRight Z d p.task (Z.latest p.task) p.bound) (sym shown)
            (late_right Z (proper_whole before es ls a long) (above before es ls a long) few fits p (sets before es ls a long (length (trace_of before es ls).posts - 1) last) edge passes))

-- The answer, by what the overload test has answered.
answered : (v : Option ℕ) → (numbers_of_overload (Ok v)).number ≡ 0
answered (Some k) = refl
answered None = refl

module _ (before : DisjunctivePropagator) (es ls : List ℤ) (bars : Bool) (long : length before.durations ≡ TASKS) {o : Result (Option ℕ) Refusal} (t : OverloadTested before es ls bars o) where
  module _ {v : Option ℕ} (e : o ≡ Ok v) where
    -- it answers, so nothing refused the input
    passed : input_number before es ls bars ≡ 0
    passed = elim (ℕ_discrete (input_number before es ls bars) 0)
        [ yes y ↦ y | no h ↦ sym (ap (λ (x : Answer). x.number) (t.refused h)) ∙ ap (λ (x : Result (Option ℕ) Refusal). (numbers_of_overload x).number) e ∙ answered v ]

    pub held : AcceptedInput before es ls
    held = ((accepted_input before es ls bars).0 passed).0

    answers : answer_of (moments_in before es ls) ≡ v
    answers = let w : Ok (answer_of (moments_in before es ls)) ≡ Ok v = sym (t.answer passed) ∙ e in cc

  module _ (k : ℕ) (e : o ≡ Ok (Some k)) {m : TaskMoments} (h : HoldsTasks (moments_in before es ls) m) where
    pub yes_able : Overloadable m k
    yes_able = overloadable (moments_in before es ls) h k (answers e)

    pub when_yes : (c : Conflict) → ((g : Overloadable m k) → c ≡ overload_by g.J (overloading_set g.J k)) → ConflictFound before es ls bars c
    unfolding yes_able
    when_yes c d = where_yes before es ls bars (passed e) long c (d yes_able ∙ sym (ap (conflict_by before es ls) (answers e))) k (answers e)

  pub when_no : o ≡ Ok None → (c : Conflict) → c ≡ late_by before es ls (trace_of before es ls).end → ConflictFound before es ls bars c
  when_no e c d =
      where_no before es ls bars (passed e) long c (d ∙ sym (ap (conflict_by before es ls) (answers e))) (answers e) ((t.no (passed e)).0 (ap numbers_of_overload e))
