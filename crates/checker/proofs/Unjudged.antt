-- Where a check is refused, and where it finds a contradiction: the sole ground of each number, in the order 1, 2, 5, 7, 6, 21, 8, for both checks.
use mathlib.Core.Path.{◌≡◌, refl, sym, ap, ◌∙◌}
use mathlib.Core.Bool.{Bool, true, false, ◌&&◌}
use mathlib.Core.List.{List, [], ◌∷◌}
use mathlib.Core.Logic.{◌⊎◌, inl, inr, ◌↔◌}
use mathlib.Core.Option.{Option, some, none}
use Prim.Native.Nat.{ℕ, zero, suc, ◌+◌, ◌*◌, ◌≤◌}
use native.Mathlib.Omega.{arith}
use lib.Dec.{leb, ltb}
use lib.IntN.{ℤ, pos}
use lib.ListN.{length}
use borrow.Author.Tests.{ltb-true, lt-ltb, leb-true, leb-false}
use Rattle.integers.specs.Answers.{Answer, answered, refused_by}
use Rattle.integers.specs.Limits.{PREMISES}
use Rattle.integers.specs.declared.refused.Refusal.{Refusal}
use Rattle.integers.specs.Refused.{number_of}
use Rattle.integers.specs.Tests.{Test, test, refusal, AllPassed}
use Rattle.integers.proofs.Bools.{bool, and_true, and_yes}
use Rattle.integers.proofs.Tests.{broken, accepts, accepted, refusal_next, refusal_here, refusal_after, refusal_before}
use Rattle.scheduling.specs.Scheduling.{In, Atom, given}
use Rattle.checking.specs.Atoms.{atoms_of, consequent_of, right_lists}
use Rattle.checking.proofs.RightWords.{lists_are}
use Rattle.checking.specs.declared.variable_state.VariableState.{VariableState}
use Rattle.checking.specs.declared.variable_state.Application.{Application}
use Rattle.checking.specs.declared.variable_state.Application.TheVariants as application
use Rattle.checking.specs.Answers.{application_numbers}
use Rattle.checking.specs.Bounds.{lower_in, upper_in}
use Rattle.checking.specs.Promises.{NoRoom, EmptiesFirst}
use Rattle.checking.specs.States.{prepared}
use Rattle.checking.proofs.StateNumbers.{other_kind, applications_apart, refused_as}
use Rattle.checking.proofs.FirstContradiction.{prepared_contradiction}
use Rattle.checking.proofs.Promises.{prepare_means}
use Rattle.checking.proofs.RefusedAtoms.{prepared_7, prepared_21}
use Rattle.integers.specs.Reasons.{reason_of}
use Rattle.records.specs.Records.{duration_at, creation_tests, number_of_creation, created_at}
use Rattle.records.proofs.Creation.{created_lawful, answer_number}
use Rattle.checker.specs.Formulas.{bounded, implied, overloaded}
use Rattle.checker.proofs.Formulas.{Reads, not_no, least_of, greatest_of, none_of}
use Rattle.checker.specs.declared.checker.Verdict.TheVariants.{Contradiction}
use Rattle.checker.specs.Checks.{verdict, concluded, tasks_with}
use Rattle.checker.specs.declared.checker.Direction.{Direction}
use Rattle.checker.specs.declared.checker.Direction.TheVariants.{Forward, Mirrored}
use Rattle.checker.specs.MirroredChecks.{lower_as, upper_as, judged_as, check_towards}
use Rattle.checker.specs.Unjudged.{word_tests, TwoSided, AtomByAtom, Unjudged}
use Rattle.checker.specs.Verdicts.{numbers_of_verdict}
use Rattle.checker.proofs.Answers.{after}
use Rattle.checker.proofs.MirroredBounds.{sides, mirrored_known}
use Rattle.checker.proofs.Soundness.{reads, durations_last}

-- a task has two bounds in mirrored time where it has two
two_bounds : (m : Direction) (ds : List ℤ) (s : VariableState) (k : ℕ)
    → bounded (length ds) (duration_at ds) (lower_as m ds s) (upper_as m ds s) k ≡ bounded (length ds) (duration_at ds) (lower_in s) (upper_in s) k
two_bounds Forward ds s k = refl
two_bounds Mirrored ds s k = sym (mirrored_known (duration_at ds k) (lower_in s k) (upper_in s k)) ∙ (sides (lower_in s k) (upper_in s k)).0

module _ (m : Direction) (ds ps cs : List ℤ) where
  abbrev answer : Answer
  answer = numbers_of_verdict (check_towards m ds ps cs)

  abbrev atoms : List Atom
  atoms = given (atoms_of ps) (consequent_of cs)

  abbrev state : VariableState
  state = (prepared ps cs).state

  abbrev CreationAccepted : Type 0
  CreationAccepted = refusal (creation_tests ds) ≡ 0

  -- Past the durations -----------------------------------------------------------------------------------------------------------

  -- the consequent's variable has two bounds
  abbrev two : VariableState → ℕ → Bool
  two s x = ltb x (length ds) && bounded (length ds) (duration_at ds) (lower_as m ds s) (upper_as m ds s) x

  -- a verdict by the formula is of kind 0 or 1
  by_formula {ℓ} : {X : Type ℓ} (b : Bool) (a : Answer) → 2 ≤ a.kind → numbers_of_verdict (verdict b) ≡ a → X
  by_formula true a h e = other_kind (answered 0 []) a e (λ z. omega (arith, z, h))
  by_formula false a h e = other_kind (answered 1 []) a e (λ z. omega (arith, z, h))

  -- Past the atoms, an answer of kind 2 or more is 8: the consequent's variable does not have two bounds.
  record Lacking (s : VariableState) (o : Option Atom) (a : Answer) : Type 0 where
    eight : a.number ≡ 8
    atom : Atom
    consequent : o ≡ some atom
    unbounded : two s atom.variable ≡ false

  judged_number : (s : VariableState) (o : Option Atom) (a : Answer) → 2 ≤ a.kind → numbers_of_verdict (judged_as m ds s o) ≡ a → Lacking s o a
  judged_number s none a h e = by_formula (overloaded (length ds) (duration_at ds) (lower_as m ds s) (upper_as m ds s)) a h e
  judged_number s (some b) a h e = elim (bool (two s b.variable)) [
    | inl y ↦ by_formula (implied (length ds) (duration_at ds) (lower_as m ds s) (upper_as m ds s) b.variable) a h (rw y at e)
    | inr y ↦ record { eight = ap (λ (r : Answer). r.number) (sym (rw y at e)); atom = b; consequent = refl; unbounded = y }
  ]

  abbrev late : Answer
  late = numbers_of_verdict (concluded (judged_as m ds) (prepared ps cs) (consequent_of cs))

  -- 7, 6, 21 of the atoms, or 8
  late_number : (n : ℕ) → late ≡ refused_by n → (application_numbers (prepared ps cs).answer ≡ refused_by n)
      ⊎ (((prepared ps cs).answer ≡ application.Consistent) × Lacking state (consequent_of cs) (refused_by n))
  late_number n e = by (prepared ps cs).answer refl
    where
      by : (w : Application) → (prepared ps cs).answer ≡ w → (application_numbers (prepared ps cs).answer ≡ refused_by n)
          ⊎ (((prepared ps cs).answer ≡ application.Consistent) × Lacking state (consequent_of cs) (refused_by n))
      by application.Consistent p = inr (p, judged_number state (consequent_of cs) (refused_by n) (omega arith) (rw p at e))
      by (application.Contradiction x) p = other_kind (numbers_of_verdict (Contradiction x)) (refused_by n) (rw p at e) (λ z. omega arith)
      by (application.Refused m) p = inl (ap application_numbers p ∙ (rw p at e))

  late_refused : (n : ℕ) → application_numbers (prepared ps cs).answer ≡ refused_by n → late ≡ refused_by n
  late_refused n e = let (why, p, number) = refused_as (prepared ps cs).answer n e in rw (p, number) refl

  late_contradiction : (x : ℕ) → late ≡ answered 2 (pos x ∷ []) ↔ ((prepared ps cs).answer ≡ application.Contradiction x)
  late_contradiction x = (λ e. by (prepared ps cs).answer refl e, λ p. rw p refl)
    where
      by : (w : Application) → (prepared ps cs).answer ≡ w → late ≡ answered 2 (pos x ∷ []) → (prepared ps cs).answer ≡ application.Contradiction x
      by application.Consistent p e = absurd (omega (arith, (judged_number state (consequent_of cs) (answered 2 (pos x ∷ [])) (omega arith) (rw p at e)).eight))
      by (application.Contradiction y) p e = applications_apart (prepared ps cs).answer (application.Contradiction x) (ap application_numbers p ∙ (rw p at e))
      by (application.Refused why) p e = other_kind (refused_by (number_of why)) (answered 2 (pos x ∷ [])) (rw p at e) (λ z. omega arith)

  -- The words --------------------------------------------------------------------------------------------------------------------

  abbrev on_words : List Test
  on_words = test 7 (leb (length ps) (3 * PREMISES + 2)) ∷ test 6 (right_lists ps cs) ∷ []

  is_late : CreationAccepted → answer ≡ late
  is_late ok = ap numbers_of_verdict (after ds ps cs m 0 ok)

  pub word_number : (refusal (word_tests ds ps cs) ≡ 0 → ⊥) → numbers_of_verdict (check_towards m ds ps cs) ≡ refused_by (refusal (word_tests ds ps cs))
  word_number given_one = by (refusal (creation_tests ds)) refl
    where
      then : CreationAccepted → refusal (word_tests ds ps cs) ≡ refusal on_words → (leb (length ps) (3 * PREMISES + 2) ≡ true) ⊎ (leb (length ps) (3 * PREMISES + 2) ≡ false) → (right_lists ps cs ≡ true)
          ⊎ (right_lists ps cs ≡ false)
          → answer ≡ refused_by (refusal (word_tests ds ps cs))
      then ok e (inl y) (inl z) = absurd (given_one (e ∙ accepts on_words (y, (z, tt))))
      then ok e (inl y) (inr z) = is_late ok ∙ late_refused 6 ((prepare_means ps cs).malformed (leb-true _ _ y) z)
          ∙ ap refused_by (sym (e ∙ refusal_next (test 7 (leb (length ps) (3 * PREMISES + 2))) (test 6 (right_lists ps cs) ∷ []) y ∙ refusal_here (test 6 (right_lists ps cs)) [] z))
      then ok e (inr y) z = is_late ok ∙ late_refused 7 ((prepared_7 ps cs).1 (omega (arith, leb-false (length ps) (3 * PREMISES + 2) y)))
          ∙ ap refused_by (sym (e ∙ refusal_here (test 7 (leb (length ps) (3 * PREMISES + 2))) (test 6 (right_lists ps cs) ∷ []) y))

      -- a number that refuses the durations is a reason's
      made : (k : ℕ) → refusal (creation_tests ds) ≡ suc k → number_of (reason_of (suc k)) ≡ suc k
      made k z = ap (λ (n : ℕ). number_of_creation (created_at n ds).answer) (sym z) ∙ answer_number ds ∙ z

      by : (n : ℕ) → refusal (creation_tests ds) ≡ n → answer ≡ refused_by (refusal (word_tests ds ps cs))
      by zero z = then z (refusal_after (creation_tests ds) on_words (accepted (creation_tests ds) refl z)) (bool (leb (length ps) (3 * PREMISES + 2))) (bool (right_lists ps cs))
      by (suc k) z = ap numbers_of_verdict (after ds ps cs m (suc k) z) ∙ ap refused_by (made k z) ∙ ap refused_by (sym (refusal_before (creation_tests ds) on_words (λ w. let v : suc k ≡ 0 = sym z ∙ w in omega arith) ∙ z))

  -- The atoms --------------------------------------------------------------------------------------------------------------------

  module _ (passed : refusal (word_tests ds ps cs) ≡ 0) where
    all : AllPassed (word_tests ds ps cs)
    all = accepted (word_tests ds ps cs) refl passed

    ok : CreationAccepted
    ok = accepts (creation_tests ds) (all.0, (all.1.0, (all.1.1.0, tt)))

    short : length ps ≤ 3 * PREMISES + 2
    short = leb-true (length ps) (3 * PREMISES + 2) all.1.1.1.0

    right : right_lists ps cs ≡ true
    right = all.1.1.1.1.0

    -- a number of the atoms is 21, where one has no room
    crowded : (n : ℕ) → application_numbers (prepared ps cs).answer ≡ refused_by n → (n ≡ 21) × NoRoom atoms
    crowded n e = (prepare_means ps cs).room short right n e

    room : answer ≡ refused_by 21 ↔ NoRoom atoms
    room = (
      λ e. elim (late_number 21 (sym (is_late ok) ∙ e)) [ inl p ↦ (crowded 21 p).1 | inr p ↦ absurd (omega (arith, p.1.eight)) ],
      λ n. is_late ok ∙ late_refused 21 ((prepared_21 ps cs).1 (short, ((lists_are ps cs).0 right, n))),
    )

    module _ (roomy : NoRoom atoms → ⊥) where
      -- the atoms are not refused
      heard : (why : Refusal) → (prepared ps cs).answer ≡ application.Refused why → ⊥
      heard why e = roomy (crowded (number_of why) (ap application_numbers e)).1

      contradiction : (x : ℕ) → answer ≡ answered 2 (pos x ∷ []) ↔ EmptiesFirst atoms x
      contradiction x =
          let w = prepared_contradiction ps cs x heard in
          (λ e. w.0 ((late_contradiction x).0 (sym (is_late ok) ∙ e)), λ f. is_late ok ∙ (late_contradiction x).1 (w.1 f))

      module _ (none_emptied : (x : ℕ) → EmptiesFirst atoms x → ⊥) where
        consistent : (prepared ps cs).answer ≡ application.Consistent
        consistent = by (prepared ps cs).answer refl
          where
            by : (w : Application) → (prepared ps cs).answer ≡ w → (prepared ps cs).answer ≡ application.Consistent
            by application.Consistent e = e
            by (application.Contradiction x) e = absurd (none_emptied x ((prepared_contradiction ps cs x heard).0 e))
            by (application.Refused n) e = absurd (heard n e)

        read : Reads (length ds) atoms (lower_in state) (upper_in state)
        read = reads ds ps cs (created_lawful ds ok).few consistent

        two_sided : (x : ℕ) → two state x ≡ true ↔ TwoSided (length ds) atoms x
        two_sided x =
            let J = tasks_with ds in
            let last = durations_last ds ok in
            let l = lower_in state in
            let u = upper_in state in
            let same = two_bounds m ds state x in (
              λ y.
                  let (t, b) = and_true (ltb x (length ds)) (bounded (length ds) (duration_at ds) (lower_as m ds state) (upper_as m ds state) x) y in
                  let q = ltb-true x (length ds) t in
                  let h : In J (bounded (length ds) (duration_at ds) l u) x = record { small = q; mem = sym same ∙ b } in
                  record { task = q; low = _; least = least_of J last atoms l u read x h; high = _; greatest = greatest_of J last atoms l u read x h },
              λ f. and_yes (ltb x (length ds)) (bounded (length ds) (duration_at ds) (lower_as m ds state) (upper_as m ds state) x) (lt-ltb x (length ds) f.task)
                  (same ∙ not_no _ (λ y. none_of J last atoms l u read x f.task y f.low f.high f.least f.greatest)),
            )

        eight : answer ≡ refused_by 8 ↔ ((a : Atom) × ((consequent_of cs ≡ some a) × (TwoSided (length ds) atoms a.variable → ⊥)))
        eight = (
          λ e. elim (late_number 8 (sym (is_late ok) ∙ e)) [
            | inl p ↦ absurd (omega (arith, (crowded 8 p).0))
            | inr p ↦ (p.1.atom, (p.1.consequent, (broken (two_sided p.1.atom.variable)).0 p.1.unbounded))
          ],
          λ f.
              let (a, (e, n)) = f in
              is_late ok ∙ (rw (consistent, e, (broken (two_sided a.variable)).1 n) refl),
        )

    by_atoms : AtomByAtom (length ds) atoms (consequent_of cs) answer
    by_atoms = record {
      room = room;
      contradiction = contradiction;
      bounds = eight;
      only = λ n e. elim (late_number n (sym (is_late ok) ∙ e)) [ inl p ↦ inl (crowded n p).0 | inr p ↦ inr p.1.eight ];
    }

  pub unjudged : Unjudged ds ps cs (numbers_of_verdict (check_towards m ds ps cs))
  unjudged = record { words = word_number; atoms = by_atoms }
