-- What a check's verdict says: it is Passed exactly where the check meets the formula, and then no starts contradict it.
use mathlib.Core.Path.{◌≡◌, refl, sym, ap, subst, ◌∙◌}
use mathlib.Core.Bool.{Bool, true, false, cond, ◌&&◌}
use mathlib.Core.List.{List}
use mathlib.Core.Logic.{inl, inr, ◌↔◌}
use mathlib.Core.Option.{Option, some, none}
use Prim.Native.Nat.{ℕ, zero, suc, ◌+◌, ◌*◌, ◌≤◌, ◌<◌}
use native.Mathlib.Omega.{arith}
use borrow.Author.Tests.{ltb-true, lt-ltb, eq-eqb}
use lib.Dec.{ltb}
use lib.IntN.{ℤ}
use lib.ListN.{length}
use Rattle.integers.specs.FilledLists.{no_tasks}
use Rattle.integers.specs.Limits.{TASKS, VARIABLES, DURATIONS, VALUE, PREMISES, HOLES}
use Rattle.integers.specs.Moments.{moment, Above, zero_at}
use Rattle.integers.specs.Tests.{refusal}
use Rattle.integers.specs.declared.refused.Refusal.TheVariants as refusal
use Rattle.integers.proofs.Bools.{bool, and_true, and_yes}
use Rattle.integers.proofs.FilledLists.{filled_at}
use Rattle.integers.proofs.Ints.{ints, up, dn}
use Rattle.integers.proofs.MomentSums.{above_show, at_moment}
use Rattle.scheduling.specs.Scheduling.{whole, Tasks, Atom, Every, Admits, given, PassesFormula, Contradicts}
use Rattle.scheduling.specs.MirroredTime.{start_mirrored, mirror_atoms}
use Rattle.scheduling.proofs.PassedChecks.{passed_sound}
use Rattle.scheduling.proofs.Sets.{total_part}
use Rattle.trees.specs.NodeBounds.{LATEST}
use Rattle.integers.specs.WholeNumbers.{Within}
use Rattle.checking.specs.Atoms.{atoms_of, consequent_of, right_lists}
use Rattle.checking.specs.declared.variable_state.Application.{Application}
use Rattle.checking.specs.declared.variable_state.Application.TheVariants as application
use Rattle.checking.specs.States.{prepared}
use Rattle.checking.specs.Bounds.{lower_in, upper_in}
use Rattle.checking.proofs.Bounds.{lower_is, upper_is, lower_none_is, upper_none_is, lower_near, upper_near}
use Rattle.checking.proofs.PreparedStates.{prepared_success}
use Rattle.records.specs.Records.{duration_at, creation_tests}
use Rattle.records.proofs.Creation.{created_lawful, same_sum}
use Rattle.checker.specs.Formulas.{bounded, implied}
use Rattle.checker.proofs.MirroredAtoms.{mirrored_reads}
use Rattle.checker.proofs.Formulas.{Reads, determined, overloaded_sound, overloaded_complete, implied_sound, implied_complete}
use Rattle.checker.specs.declared.checker.Verdict.{Verdict}
use Rattle.checker.specs.declared.checker.Verdict.TheVariants.{Passed, NotPassed, Contradiction, Refused}
use Rattle.checker.specs.Checks.{verdict, judged_by, concluded, check_after, check_of, tasks_with}
use Rattle.checker.specs.declared.checker.Direction.{Direction}
use Rattle.checker.specs.declared.checker.Direction.TheVariants.{Forward, Mirrored}
use Rattle.checker.specs.MirroredChecks.{mirror_if_any, lower_as, upper_as, judged_as, check_towards, check_mirrored_of}
use Rattle.checker.specs.Verdicts.{numbers_of_verdict}
use Rattle.checker.proofs.MirroredGiven.{given_mirrored, contradicts_mirrored}

-- ---- the bounds of a prepared state
near_above : (u : ℤ) → Within (VALUE + 1 + HOLES) u → Above zero_at u
unfolding up dn
near_above u w = above_show zero_at u (omega (ints, w.low))

pub near_latest : (u : ℤ) → Within (VALUE + 1 + HOLES) u → moment zero_at u ≤ LATEST
unfolding up dn
near_latest u w = omega (ints, w.high, w.low, at_moment zero_at u (near_above u w))

-- Where the atoms are consistent, the bounds that the check reads are those that they leave.
pub reads : (ds ps cs : List ℤ) → length ds ≤ TASKS → (prepared ps cs).answer ≡ application.Consistent
    → Reads (length ds) (given (atoms_of ps) (consequent_of cs)) (lower_in (prepared ps cs).state) (upper_in (prepared ps cs).state)
reads ds ps cs few ok = record {
  least = λ k q. lower_is ps cs k (omega arith) ok;
  no_least = λ k q. lower_none_is ps cs k (omega arith) ok;
  greatest = λ k q. upper_is ps cs k (omega arith) ok;
  no_greatest = λ k q. upper_none_is ps cs k (omega arith) ok;
  above = λ k q u e. near_above u (lower_near ps cs k (omega arith) u e);
  fits = λ k q u e. omega (arith, near_latest u (lower_near ps cs k (omega arith) u e));
}

-- ---- answers that are not Passed
other : (v : Verdict) → 1 ≤ (numbers_of_verdict v).kind → v ≡ Passed → ⊥
other v h e = let z : (numbers_of_verdict v).kind ≡ 0 = ap (λ (v : Verdict). (numbers_of_verdict v).kind) e in omega arith

holds_of : (b : Bool) → verdict b ≡ Passed → b ≡ true
holds_of true e = refl
holds_of false e = absurd (other NotPassed (omega arith) e)

module _ (ds : List ℤ) (ok : refusal (creation_tests ds) ≡ 0) where
  abbrev J : Tasks whole
  J = tasks_with ds

  few : length ds ≤ TASKS
  few = (created_lawful ds ok).few

  pub durations_last : (k : ℕ) → k < length ds → 1 ≤ duration_at ds k
  durations_last k q = subst (λ (d : ℕ). 1 ≤ d) (filled_at (duration_at ds) (length ds) no_tasks 0 k q few) ((created_lawful ds ok).lasts k q)

  pub durations_most : (k : ℕ) → k < length ds → duration_at ds k ≤ DURATIONS
  durations_most k q = omega (arith, total_part (duration_at ds) (length ds) k q, (created_lawful ds ok).sum, same_sum ds few)

  module _ (lower upper : ℕ → Option ℤ) (premises : List Atom) where
    judged_sound : (c : Option Atom) → Reads (length ds) (given premises c) lower upper → judged_by ds lower upper c ≡ Passed → PassesFormula J premises c
    judged_sound none r v = overloaded_sound J durations_last premises lower upper r (holds_of _ v)
    judged_sound (some a) r v = elim (bool (ltb a.variable (length ds) && bounded (length ds) (duration_at ds) lower upper a.variable)) [
      | inl y ↦
          let (p, q) = and_true (ltb a.variable (length ds)) (bounded (length ds) (duration_at ds) lower upper a.variable) y in
          implied_sound J durations_last (given premises (some a)) lower upper r a.variable (ltb-true a.variable (length ds) p) premises a refl refl q (holds_of _ (rw y at v))
      | inr n ↦ absurd (other (Refused refusal.Consequent) (omega arith) (rw n at v))
    ]

    judged_passes : (c : Option Atom) → Reads (length ds) (given premises c) lower upper → PassesFormula J premises c → judged_by ds lower upper c ≡ Passed
    judged_passes none r p = ap verdict (overloaded_complete J durations_last premises lower upper r p)
    judged_passes (some a) r p =
        let i = a.variable in
        let small : i < length ds = subst (λ (n : ℕ). i < n) p.bounded.same_count p.formula.outside.small in
        let two : bounded (length ds) (duration_at ds) lower upper i ≡ true
        = sym (determined J durations_last (given premises (some a)) lower upper r _ p.ranges p.bounded i small) ∙ rw (eq-eqb i i refl) in
        ap (λ (b : Bool). cond b (verdict (implied (length ds) (duration_at ds) lower upper i)) (Refused refusal.Consequent))
        (and_yes (ltb i (length ds)) (bounded (length ds) (duration_at ds) lower upper i) (lt-ltb i (length ds) small) two)
        ∙ ap verdict (implied_complete J durations_last (given premises (some a)) lower upper r i small premises a refl refl p)

-- What the formula reads in either time: the atoms as they are, or mirrored.
abbrev premises_as : Direction → (ℕ → ℕ) → List Atom → List Atom
premises_as Forward d premises = premises
premises_as Mirrored d premises = mirror_atoms d premises

abbrev consequent_as : Direction → (ℕ → ℕ) → Option Atom → Option Atom
consequent_as Forward d c = c
consequent_as Mirrored d c = mirror_if_any d c

abbrev pub given_as : Direction → (ℕ → ℕ) → List Atom → Option Atom → List Atom
given_as m d premises c = given (premises_as m d premises) (consequent_as m d c)

abbrev pub MeetsFormula : Direction → List ℤ → List Atom → Option Atom → Type 0
MeetsFormula m ds premises c = PassesFormula (tasks_with ds) (premises_as m (duration_at ds) premises) (consequent_as m (duration_at ds) c)

-- the bounds in either time are those that the atoms of that time leave
pub reads_as : (m : Direction) (ds : List ℤ) → refusal (creation_tests ds) ≡ 0 → (ps cs : List ℤ) → (prepared ps cs).answer ≡ application.Consistent
    → Reads (length ds) (given_as m (duration_at ds) (atoms_of ps) (consequent_of cs)) (lower_as m ds (prepared ps cs).state) (upper_as m ds (prepared ps cs).state)
reads_as Forward ds ok ps cs consistent = reads ds ps cs (few ds ok) consistent
reads_as Mirrored ds ok ps cs consistent =
    rw (given_mirrored (duration_at ds) (atoms_of ps) (consequent_of cs))
    (mirrored_reads (length ds) (duration_at ds) (given (atoms_of ps) (consequent_of cs)) (lower_in (prepared ps cs).state) (upper_in (prepared ps cs).state)
    (λ k q. (durations_last ds ok k q, durations_most ds ok k q)) (λ k q. upper_near ps cs k (omega (arith, few ds ok))) (reads ds ps cs (few ds ok) consistent))

-- the consequent's kind and value play no part in what is judged of the bounds
alike : (m : Direction) (ds : List ℤ) (d : ℕ → ℕ) (lower upper : ℕ → Option ℤ) (c : Option Atom) → judged_by ds lower upper (consequent_as m d c) ≡ judged_by ds lower upper c
alike Forward ds d lower upper c = refl
alike Mirrored ds d lower upper none = refl
alike Mirrored ds d lower upper (some a) = refl

-- A check in either time that the formula judges: the durations are accepted, and the atoms consistent.
record Judged (direction : Direction) (ds ps cs : List ℤ) : Type 0 where
  ok : refusal (creation_tests ds) ≡ 0
  consistent : (prepared ps cs).answer ≡ application.Consistent
  judgement : check_towards direction ds ps cs ≡ judged_as direction ds (prepared ps cs).state (consequent_of cs)

judged_check : (m : Direction) (ds ps cs : List ℤ) → (numbers_of_verdict (check_towards m ds ps cs)).kind < 2 → Judged m ds ps cs
judged_check m ds ps cs e = by (refusal (creation_tests ds)) refl e
  where
    on : refusal (creation_tests ds) ≡ 0 → (w : Application) → (prepared ps cs).answer ≡ w → (numbers_of_verdict (concluded (judged_as m ds) (prepared ps cs) (consequent_of cs))).kind < 2 → Judged m ds ps cs
    on ok application.Consistent p v = record { ok = ok; consistent = p; judgement = rw (ok, p) refl }
    on ok (application.Contradiction x) p v = absurd (let w : (numbers_of_verdict (Contradiction x)).kind < 2 = rw p at v in omega (arith, w))
    on ok (application.Refused n) p v = absurd (let w : (numbers_of_verdict (Refused n)).kind < 2 = rw p at v in omega (arith, w))

    by : (n : ℕ) → refusal (creation_tests ds) ≡ n → (numbers_of_verdict (check_after (judged_as m ds) n ps cs)).kind < 2 → Judged m ds ps cs
    by zero p v = on p (prepared ps cs).answer refl v
    by (suc n) p v = absurd (omega arith)

-- A check that passes meets the formula.
pub passed_formula : (m : Direction) (ds ps cs : List ℤ) → check_towards m ds ps cs ≡ Passed → (refusal (creation_tests ds) ≡ 0) × MeetsFormula m ds (atoms_of ps) (consequent_of cs)
passed_formula m ds ps cs e =
    let j = judged_check m ds ps cs (let z : (numbers_of_verdict (check_towards m ds ps cs)).kind ≡ 0 = ap (λ (v : Verdict). (numbers_of_verdict v).kind) e in omega (arith, z)) in
    let lower = lower_as m ds (prepared ps cs).state in
    let upper = upper_as m ds (prepared ps cs).state in (
      j.ok,
      judged_sound ds j.ok lower upper _ (consequent_as m (duration_at ds) (consequent_of cs)) (reads_as m ds j.ok ps cs j.consistent)
          (alike m ds (duration_at ds) lower upper (consequent_of cs) ∙ sym j.judgement ∙ e),
    )

-- So no starts contradict a check that passes, nor a mirrored check that passes.
pub check_sound : (ds ps cs : List ℤ) → check_of ds ps cs ≡ Passed → (s : ℕ → ℤ) → Contradicts (tasks_with ds) (atoms_of ps) (consequent_of cs) s → ⊥
unfolding check_of
check_sound ds ps cs e s =
    let (ok, p) = passed_formula Forward ds ps cs e in
    passed_sound (tasks_with ds) s (atoms_of ps) (consequent_of cs) (durations_last ds ok) p

pub mirrored_sound : (ds ps cs : List ℤ) → check_mirrored_of ds ps cs ≡ Passed → (s : ℕ → ℤ) → Contradicts (tasks_with ds) (atoms_of ps) (consequent_of cs) s → ⊥
unfolding check_mirrored_of
mirrored_sound ds ps cs e s c =
    let (ok, p) = passed_formula Mirrored ds ps cs e in
    let d = duration_at ds in
    passed_sound (tasks_with ds) (λ k. start_mirrored (d k) (s k)) (mirror_atoms d (atoms_of ps)) (mirror_if_any d (consequent_of cs)) (durations_last ds ok) p
    (contradicts_mirrored (tasks_with ds) s (atoms_of ps) (consequent_of cs) c)

-- A check that the formula judges passes where it meets the formula,
consistent_passes : (m : Direction) (ds ps cs : List ℤ) → refusal (creation_tests ds) ≡ 0 → (prepared ps cs).answer ≡ application.Consistent → MeetsFormula m ds (atoms_of ps) (consequent_of cs)
    → check_towards m ds ps cs ≡ Passed
consistent_passes m ds ps cs ok consistent p =
    let lower = lower_as m ds (prepared ps cs).state in
    let upper = upper_as m ds (prepared ps cs).state in
    rw (ok, consistent) (sym (alike m ds (duration_at ds) lower upper (consequent_of cs))
    ∙ judged_passes ds ok lower upper _ (consequent_as m (duration_at ds) (consequent_of cs)) (reads_as m ds ok ps cs consistent) p)

-- so that it passes exactly there.
kind_0 : (v : Verdict) → (numbers_of_verdict v).kind ≡ 0 → v ≡ Passed
kind_0 Passed e = refl
kind_0 NotPassed e = absurd (omega arith)
kind_0 (Contradiction x) e = absurd (omega arith)
kind_0 (Refused n) e = absurd (omega arith)

pub exactly_passed : (m : Direction) (ds ps cs : List ℤ) → (numbers_of_verdict (check_towards m ds ps cs)).kind < 2
    → (numbers_of_verdict (check_towards m ds ps cs)).kind ≡ 0 ↔ MeetsFormula m ds (atoms_of ps) (consequent_of cs)
exactly_passed m ds ps cs h =
    let j = judged_check m ds ps cs h in
    (λ e. (passed_formula m ds ps cs (kind_0 (check_towards m ds ps cs) e)).1, λ f. ap (λ (v : Verdict). (numbers_of_verdict v).kind) (consistent_passes m ds ps cs j.ok j.consistent f))

-- Accepted atoms of the kinds ≥, ≤ and = are consistent where each variable can meet them. Their check passes where it meets the formula.
pub met_passes : (m : Direction) (ds ps cs : List ℤ) → refusal (creation_tests ds) ≡ 0 → length ps ≤ 3 * PREMISES + 2 → right_lists ps cs ≡ true
    → Every (λ a. a.kind < 3) (given (atoms_of ps) (consequent_of cs)) → ((x : ℕ) → x < VARIABLES → (z : ℤ) × Admits (given (atoms_of ps) (consequent_of cs)) x z)
    → MeetsFormula m ds (atoms_of ps) (consequent_of cs) → check_towards m ds ps cs ≡ Passed
met_passes m ds ps cs ok short right kinds met = consistent_passes m ds ps cs ok (prepared_success ps cs short right kinds met)
