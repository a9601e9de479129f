-- A reason that was kept stays true on any later ranges: a post's and an overload's, of a run and of a mirrored pass.
use mathlib.Core.Path.{◌≡◌, sym, subst}
use mathlib.Core.List.{List, [], map}
use mathlib.Core.Logic.{inl, inr, ⊎_elim}
use mathlib.Core.Option.{Option, some, none}
use Prim.Native.Nat.{ℕ, zero, suc, ◌<◌}
use native.Mathlib.Omega.{arith}
use lib.IntN.{ℤ, pos, ◌+ℤ◌}
use lib.ListN.{take}
use lib.Signed.{◌≤ℤ◌}
use Rattle.integers.specs.Answers.{answered}
use Rattle.integers.proofs.Ints.{ints, ≤ℤ-cases, equalℤ}
use Rattle.scheduling.specs.Scheduling.{whole, Tasks, NoOverlap, Atom, Compares, Unmet, Contradicts}
use Rattle.checking.specs.Atoms.{atoms_of, consequent_of}
use Rattle.scheduling.proofs.Every.{every_map}
use Rattle.records.specs.declared.record.DisjunctivePropagator.{DisjunctivePropagator}
use Rattle.records.proofs.Creation.{natural_count, natural_duration}
use Rattle.checker.specs.declared.checker.Verdict.TheVariants.{Passed}
use Rattle.checker.specs.Verdicts.{numbers_of_verdict}
use Rattle.checker.specs.Checks.{check_of, consequent_words, tasks_with}
use Rattle.checker.specs.MirroredChecks.{check_mirrored_of}
use Rattle.checker.proofs.VerdictNumbers.{verdicts_apart}
use Rattle.checker.proofs.Reasons.{consequent_back}
use Rattle.checker.proofs.Soundness.{check_sound, mirrored_sound}
use Rattle.runs.specs.declared.outcome.Outcome.{Outcome}
use Rattle.runs.specs.Outcomes.{outcome_numbers, value_of}
use Rattle.ranges.specs.declared.range.Range.{Range}
use Rattle.promises.specs.Promise.{tasks_lent, reason_of, overload_of}
use Rattle.promises.specs.RanLent.{lent_number, RanLent}
use Rattle.promises.specs.RanMirroredLent.{RanMirroredLent}
use Rattle.promises.specs.Planner.{says, says_mirrored, Follows, StaysTrue}
use Rattle.promises.proofs.AcceptedCalls.{by_kind, by_post}

-- what is not unmet is met
met : (kind : ℕ) (v z : ℤ) → ((Compares kind v z → ⊥) → ⊥) → Compares kind v z
met zero v z h = ⊎_elim (λ y. y) (λ y. absurd (h (λ w. omega ints))) (≤ℤ-cases v z)
met (suc zero) v z h = ⊎_elim (λ y. y) (λ y. absurd (h (λ w. omega ints))) (≤ℤ-cases z v)
met (suc (suc zero)) v z h = ⊎_elim (λ y. y) (λ y. absurd (h y)) (equalℤ z v)
met (suc (suc (suc k))) v z h = λ e. h (λ n. n e)

follows : (s : ℕ → ℤ) (consequent : Option Atom) → (Unmet s consequent → ⊥) → Follows s consequent
follows s none h = h tt
follows s (some a) h = met a.kind a.value (s a.variable) h

-- whether tasks overlap depends only on their number and their durations
module _ (J K : Tasks whole) (count : J.count ≡ K.count) (duration : (k : ℕ) → J.duration k ≡ K.duration k) where
  apart_alike : (s : ℕ → ℤ) → NoOverlap J s → NoOverlap K s
  apart_alike s h j k p q d = ⊎_elim (λ y. inl (ends j k y)) (λ y. inr (ends k j y)) (h j k (omega (arith, count, p)) (omega (arith, count, q)) d)
    where
      ends : (j k : ℕ) → (s j +ℤ pos (J.duration j)) ≤ℤ s k → (s j +ℤ pos (K.duration j)) ≤ℤ s k
      ends j k = subst (λ (n : ℕ). (s j +ℤ pos n) ≤ℤ s k) (duration j)

-- a reason that no starts contradict in a check
module _ (before : DisjunctivePropagator) (words : List ℤ) (consequent : Option Atom) where
  abbrev ds : List ℕ
  ds = take before.count before.durations

  uncontradicted : ((s : ℕ → ℤ) → Contradicts (tasks_with (map pos ds)) (atoms_of words) (consequent_of (consequent_words consequent)) s → ⊥) → StaysTrue before words consequent
  uncontradicted sound later s apart m = follows s consequent (λ u. sound s (record {
    apart = apart_alike (tasks_lent before later) (tasks_with (map pos ds)) (sym (natural_count ds)) (λ k. sym (natural_duration ds k)) s apart;
    premises_met = every_map (λ a y _. y) (atoms_of words) m;
    consequent_not = subst (Unmet s) (sym (consequent_back consequent)) u;
  }))

-- a check whose numbers are those of Passed
passed_sound : (ds ps cs : List ℤ) → numbers_of_verdict (check_of ds ps cs) ≡ answered 0 [] → (s : ℕ → ℤ) → Contradicts (tasks_with ds) (atoms_of ps) (consequent_of cs) s → ⊥
passed_sound ds ps cs e = check_sound ds ps cs (verdicts_apart (check_of ds ps cs) Passed e)

passed_mirrored : (ds ps cs : List ℤ) → numbers_of_verdict (check_mirrored_of ds ps cs) ≡ answered 0 [] → (s : ℕ → ℤ) → Contradicts (tasks_with ds) (atoms_of ps) (consequent_of cs) s → ⊥
passed_mirrored ds ps cs e = mirrored_sound ds ps cs (verdicts_apart (check_mirrored_of ds ps cs) Passed e)

-- ---- a run
module _ (before : DisjunctivePropagator) (ranges : List Range) (posts atoms : List ℤ) (answer : Outcome) (changed : ℕ) (after : DisjunctivePropagator) (ranges' : List Range) (posts' atoms' : List ℤ)
    (ran : RanLent before ranges posts atoms answer changed after ranges' posts' atoms') where
  pub post_stays : (j : ℕ) → j < value_of answer 0 → StaysTrue before (reason_of answer posts' atoms' j) (some (says posts' j))
  post_stays j q =
      let z = by_post answer (lent_number before ranges posts atoms) (λ n. (ran.refused n).number) j q in
      uncontradicted before _ (some (says posts' j)) (passed_sound _ _ _ ((ran.accepted z).promise.every_post j q).reason.passes)

  pub overload_stays : (outcome_numbers answer).kind ≡ 1 → StaysTrue before (overload_of answer atoms') none
  overload_stays k =
      let z = by_kind answer (lent_number before ranges posts atoms) (λ n. (ran.refused n).number) (omega arith) in
      uncontradicted before _ none (passed_sound _ _ _ ((ran.accepted z).promise.overload k).reason.passes)

-- ---- a mirrored pass
module _ (before : DisjunctivePropagator) (ranges : List Range) (posts atoms : List ℤ) (answer : Outcome) (ranges' : List Range) (posts' atoms' : List ℤ)
    (ran : RanMirroredLent before ranges posts atoms answer ranges' posts' atoms') where
  pub mirrored_post_stays : (j : ℕ) → j < value_of answer 0 → StaysTrue before (reason_of answer posts' atoms' j) (some (says_mirrored posts' j))
  mirrored_post_stays j q =
      let z = by_post answer (lent_number before ranges posts atoms) (λ n. (ran.refused n).number) j q in
      uncontradicted before _ (some (says_mirrored posts' j)) (passed_mirrored _ _ _ ((ran.accepted z).promise.every_post j q).reason.passes)

  pub mirrored_overload_stays : (outcome_numbers answer).kind ≡ 1 → StaysTrue before (overload_of answer atoms') none
  mirrored_overload_stays k =
      let z = by_kind answer (lent_number before ranges posts atoms) (λ n. (ran.refused n).number) (omega arith) in
      uncontradicted before _ none (passed_mirrored _ _ _ ((ran.accepted z).promise.overload k).reason.passes)
