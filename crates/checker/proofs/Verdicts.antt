-- From the bounds in the arrays and the words of the consequent to the verdict.
use mathlib.Core.Path.{◌≡◌, refl, sym, ap, ◌∙◌}
use mathlib.Core.Bool.{Bool, true, false, cond, ◌&&◌}
use mathlib.Core.List.{List}
use mathlib.Core.Option.{Option}
use Prim.Native.Nat.{ℕ, ◌≤◌, ◌<◌}
use native.Mathlib.Omega.{arith}
use lib.Dec.{ltb}
use lib.IntN.{ℤ, pos, nat_abs}
use lib.Signed.{◌≤ℤ◌}
use lib.ListN.{length, get_or, replicate, length-replicate}
use borrow.Author.Tests.{lt-ltb, le-ltb}
use Rattle.integers.specs.Limits.{TASKS}
use Rattle.integers.specs.FilledLists.{filled, no_tasks}
use Rattle.integers.specs.Tests.{refusal}
use Rattle.integers.proofs.FilledLists.{filled_at, filled_length}
use Rattle.scheduling.specs.Scheduling.{natural, Tasks, TaskSet}
use Rattle.trees.specs.NodeBounds.{LATEST}
use Rattle.checking.specs.Atoms.{atoms_of, consequent_of}
use Rattle.checking.proofs.Atoms.{words_three, words_at, consequent_none, consequent_one, right_atom_is}
use Rattle.checking.specs.declared.variable_state.VariableState.{VariableState}
use Rattle.checking.specs.declared.variable_state.Application.TheVariants as application
use Rattle.checking.specs.Bounds.{lower_in, upper_in}
use Rattle.checking.specs.States.{prepared}
use Rattle.checking.proofs.Bounds.{lower_near, upper_near}
use Rattle.records.specs.Records.{duration_at, creation_tests, new_record}
use Rattle.records.proofs.Creation.{created_lawful, same_sum}
use Rattle.checker.specs.Formulas.{bounded, tasks, ◌but◌, overloads_span, comes_after, overloaded, implied}
use Rattle.checker.specs.BoundArrays.{moment_mirrored, mirrored_bounds}
use Rattle.checker.proofs.Formulas.{moments_proper}
use Rattle.checker.proofs.MirroredBounds.{Near, sides, side_most, mirrored_known, mirrored_sides, moment_alike, mirrored_most}
use Rattle.checker.specs.declared.checker.Verdict.{Verdict}
use Rattle.checker.specs.declared.checker.Verdict.TheVariants.{Refused}
use Rattle.checker.specs.Checks.{verdict, judged_by, tasks_with}
use Rattle.checker.specs.declared.checker.Direction.{Direction}
use Rattle.checker.specs.declared.checker.Direction.TheVariants.{Forward, Mirrored}
use Rattle.checker.specs.MirroredChecks.{lower_as, upper_as}
use Rattle.checking.specs.TaskBounds.{bounds_at, bounds_among, bounded_of, est_of, lst_of}
use Rattle.integers.specs.declared.refused.Refusal.TheVariants as refusal
use Rattle.checking.specs.declared.start_bounds.Bounds.{Bounds}
use Rattle.checker.specs.CheckArrays.{Judgeable, Consequent}
use Rattle.checker.proofs.Soundness.{given_as, reads_as, near_latest, durations_last, durations_most}

-- The words of a consequent ------------------------------------------------------------------------------------------------------
module _ {words : List ℤ} (w : Consequent words) (some_words : length words ≡ 0 → ⊥) where
  three : length words ≡ 3
  three = omega (arith, w.short, words_three words w.right (omega (arith, some_words)))

  pub variable_right : pos 0 ≤ℤ get_or words 0 (pos 0)
  variable_right = (right_atom_is _ _ _ (words_at words 0 (omega (arith, three)) w.right).0).variable

-- The verdict --------------------------------------------------------------------------------------------------------------------
module _ (ds : List ℤ) (lower upper : ℕ → Option ℤ) where
  -- the tasks as they are bounded, and those that are bounded on both sides
  abbrev pub tasks_of : Tasks natural
  tasks_of = tasks (length ds) (duration_at ds) lower upper

  abbrev pub two_sided : TaskSet
  two_sided = bounded (length ds) (duration_at ds) lower upper

module _ {ds : List ℤ} {lower upper : ℕ → Option ℤ} {n : ℕ} {b : Bounds} {durations : List ℕ} (j : Judgeable ds lower upper n b durations) where
  abbrev J : Tasks natural
  J = tasks_of ds lower upper

  abbrev X : TaskSet
  X = two_sided ds lower upper

  member : (i : ℕ) → i < n → get_or b.bounded i false ≡ X i
  member i q = j.bounding.held.member i q

  module _ (words : List ℤ) where
    pub alone : length words ≡ 0 → (o : Bool) → o ≡ overloads_span J X → verdict o ≡ judged_by ds lower upper (consequent_of words)
    unfolding overloaded
    alone e o z = ap verdict z ∙ ap (judged_by ds lower upper) (sym (consequent_none words e))

    module _ (w : Consequent words) (some_words : length words ≡ 0 → ⊥) (i : ℕ) (z : pos i ≡ get_or words 0 (pos 0)) where
      abbrev on : ℕ → Verdict
      on k = cond (ltb k (length ds) && X k) (verdict (implied (length ds) (duration_at ds) lower upper k)) (Refused refusal.Consequent)

      judged_is : on i ≡ judged_by ds lower upper (consequent_of words)
      judged_is = ap (λ (x : ℤ). on (nat_abs x)) z ∙ ap (judged_by ds lower upper) (sym (consequent_one words (three w some_words)))

      pub no_task : n ≤ i → Refused refusal.Consequent ≡ judged_by ds lower upper (consequent_of words)
      no_task q =
          rw (le-ltb i (length ds) (omega (arith, j.count))) at judged_is

      judged_on : i < n → {t : Bool} → get_or b.bounded i false ≡ t
          → cond t (verdict (implied (length ds) (duration_at ds) lower upper i)) (Refused refusal.Consequent) ≡ judged_by ds lower upper (consequent_of words)
      judged_on q {t} y =
          rw (lt-ltb i (length ds) (omega (arith, j.count)), sym (member i q) ∙ y) at judged_is

      pub no_bound : i < n → get_or b.bounded i false ≡ false → Refused refusal.Consequent ≡ judged_by ds lower upper (consequent_of words)
      no_bound q y = judged_on q y

      pub bound_on : i < n → get_or b.bounded i false ≡ true → (o : Bool) → o ≡ comes_after J (X but i) i → verdict o ≡ judged_by ds lower upper (consequent_of words)
      unfolding implied
      bound_on q y o e = ap verdict e ∙ judged_on q y

-- A prepared state can be judged -------------------------------------------------------------------------------------------------
module _ (ds ps cs : List ℤ) (ok : refusal (creation_tests ds) ≡ 0) (consistent : (prepared ps cs).answer ≡ application.Consistent) where
  abbrev s : VariableState
  s = (prepared ps cs).state

  abbrev n : ℕ
  n = length ds

  few : n ≤ TASKS
  few = (created_lawful ds ok).few

  at : {A : Type 0} (f : ℕ → A) (d : A) (k : ℕ) → k < n → get_or (filled f n (replicate TASKS d)) k d ≡ f k
  at f d k q = filled_at f n (replicate TASKS d) d k q (omega (arith, few, length-replicate TASKS d))

  abbrev l : ℕ → Option ℤ
  l k = lower_in s k

  abbrev u : ℕ → Option ℤ
  u k = upper_in s k

  -- the bounds that the record's tasks have in arrays
  abbrev B : Bounds
  B = bounds_among s n

  near_l : (k : ℕ) → k < n → Near (l k)
  near_l k q = lower_near ps cs k (omega (arith, few))

  near_u : (k : ℕ) → k < n → Near (u k)
  near_u k q = upper_near ps cs k (omega (arith, few))

  abbrev lengths : List ℕ
  lengths = (new_record ds).durations

  lasts : (k : ℕ) → k < n → get_or lengths k 0 ≡ duration_at ds k
  lasts k q = at (duration_at ds) 0 k q

  abbrev there : Direction → Tasks natural
  there m = tasks_of ds (lower_as m ds s) (upper_as m ds s)

  -- bounds in either time can be judged where they are the tasks' own, and none is late
  in_time : (m : Direction) (b : Bounds) → ((k : ℕ) → k < n → get_or b.bounded k false ≡ two_sided ds (lower_as m ds s) (upper_as m ds s) k)
      → ((k : ℕ) → k < n → (get_or b.est k 0 ≡ (there m).earliest k) × ((there m).earliest k ≤ LATEST)) → ((k : ℕ) → k < n → (get_or b.lst k 0 ≡ (there m).latest k) × ((there m).latest k ≤ LATEST))
      → Judgeable ds (lower_as m ds s) (upper_as m ds s) n b lengths
  in_time m b member est lst = record {
    count = refl;
    bounding = record {
      held = record {
        proper = moments_proper (tasks_with ds) (durations_last ds ok) (given_as m (duration_at ds) (atoms_of ps) (consequent_of cs)) (lower_as m ds s) (upper_as m ds s) (reads_as m ds ok ps cs consistent);
        count = refl;
        few = few;
        member = member;
        start = λ k q. (est k q).0;
        lasts = lasts;
        early = λ k q. (est k q).1;
        sum = omega (arith, (created_lawful ds ok).sum, same_sum ds few);
      };
      late = record { at = λ k q. (lst k q).0; fits = λ k q. (lst k q).1 };
    };
  }

  pub judgeable : Judgeable ds (lower_as Forward ds s) (upper_as Forward ds s) n B lengths
  judgeable = in_time Forward B (λ k q. at (λ k. bounded_of (bounds_at s k)) false k q ∙ (sides (l k) (u k)).0)
      (λ k q. (at (λ k. est_of (bounds_at s k)) 0 k q ∙ (sides (l k) (u k)).1, side_most (l k) (u k) (l k) (λ z e. near_latest z (near_l k q z e))))
      (λ k q. (at (λ k. lst_of (bounds_at s k)) 0 k q ∙ (sides (l k) (u k)).2, side_most (l k) (u k) (u k) (λ z e. near_latest z (near_u k q z e))))

  -- in mirrored time each moment is that of the other bound
  mirrored_at : (old new : ℕ → ℕ) (k : ℕ) → k < n
      → get_or (filled (λ k. moment_mirrored (get_or B.bounded k false) (get_or (filled new n no_tasks) k 0) (get_or lengths k 0)) n (filled old n no_tasks)) k 0
      ≡ moment_mirrored (bounded_of (bounds_at s k)) (new k) (duration_at ds k)
  mirrored_at old new k q = filled_at _ n (filled old n no_tasks) 0 k q (omega (arith, few, filled_length old n no_tasks))
      ∙ moment_alike (at (λ k. bounded_of (bounds_at s k)) false k q) (at new 0 k q) (lasts k q)

  pub mirrored_judgeable : Judgeable ds (lower_as Mirrored ds s) (upper_as Mirrored ds s) n (mirrored_bounds B lengths n) lengths
  mirrored_judgeable = in_time Mirrored (mirrored_bounds B lengths n) (λ k q. at (λ k. bounded_of (bounds_at s k)) false k q ∙ mirrored_known (duration_at ds k) (l k) (u k))
      (λ k q. (
        mirrored_at (λ k. est_of (bounds_at s k)) (λ k. lst_of (bounds_at s k)) k q ∙ (mirrored_sides (duration_at ds k) (durations_most ds ok k q) (l k) (u k) (near_l k q) (near_u k q)).0,
        mirrored_most (duration_at ds k) (durations_last ds ok k q) (durations_most ds ok k q) (l k) (u k) (u k) (near_u k q),
      ))
      (λ k q. (
        mirrored_at (λ k. lst_of (bounds_at s k)) (λ k. est_of (bounds_at s k)) k q ∙ (mirrored_sides (duration_at ds k) (durations_most ds ok k q) (l k) (u k) (near_l k q) (near_u k q)).1,
        mirrored_most (duration_at ds k) (durations_last ds ok k q) (durations_most ds ok k q) (l k) (u k) (l k) (near_l k q),
      ))
