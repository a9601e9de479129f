-- Whatever adds, removals and runs came before, the same durations and range records give the same pass by precedences, accepted or refused.
use mathlib.Core.Path.{◌≡◌, sym, ap, subst, ◌∙◌}
use mathlib.Core.List.{List, []}
use mathlib.Core.Logic.{⊎_elim}
use Prim.Native.Nat.{ℕ, ◌<◌}
use native.Mathlib.Omega.{arith}
use native.Mathlib.Decide.{ℕ_discrete}
use lib.IntN.{ℤ, pos}
use lib.ListN.{length, get_or}
use lib.Seq.{ext_get_or}
use Rattle.integers.specs.Answers.{Answer, answered}
use Rattle.integers.proofs.Ints.{ints}
use Rattle.scheduling.specs.Scheduling.{whole, Tasks}
use Rattle.records.specs.declared.record.DisjunctivePropagator.{DisjunctivePropagator}
use Rattle.records.proofs.RefusedRuns.{accepted_input}
use Rattle.precedences.specs.declared.answers.Precedences.{Precedences}
use Rattle.precedences.specs.Numbers.{numbers_of_precedences}
use Rattle.precedences.specs.Precedences.{LeftPrecedences}
use Rattle.precedences.proofs.PassNumbers.{passes_apart}
use Rattle.task_changes.specs.Changes.{durations_of}
use Rattle.ranges.specs.declared.range.Range.{Range}
use Rattle.ranges.specs.Bars.{all_bars_are_fit}
use Rattle.ranges.specs.Ranges.{earliests, latests, with_starts}
use Rattle.promises.specs.Promise.{tasks_lent}
use Rattle.promises.specs.PrecedencesLent.{ranges_number, PrecedencesLent}
use Rattle.promises.specs.SameRuns.{SamePrecedences}
use Rattle.promises.specs.Series.{Series}
use Rattle.promises.proofs.PrecedencesEnd.{pass_ends}
use Rattle.promises.proofs.Series.{count_is, same_left}

-- two accepted passes over the same tasks
module _ (J : Tasks whole) {es : List ℤ} {r r' : Precedences} {es₁ es₂ : List ℤ} (a : LeftPrecedences J es r es₁) (b : LeftPrecedences J es r' es₂) where
  same_answer : numbers_of_precedences r ≡ numbers_of_precedences r'
  same_answer = ⊎_elim (λ e. e ∙ sym (b.done.1 (a.done.0 e))) (λ x. let (i, e) = x in e ∙ sym ((b.emptied i).1 ((a.emptied i).0 e))) (pass_ends J r a)

  same_starts : length es ≡ J.count → es₁ ≡ es₂
  same_starts n = ⊎_elim done (λ x. emptied (ap (λ (y : Answer). y.kind) x.1)) (pass_ends J r a)
    where
      kinds : (numbers_of_precedences r).kind ≡ (numbers_of_precedences r').kind
      kinds = ap (λ (y : Answer). y.kind) same_answer

      emptied : (numbers_of_precedences r).kind ≡ 1 → es₁ ≡ es₂
      emptied z = a.kept z ∙ sym (b.kept (sym kinds ∙ z))

      one : (numbers_of_precedences r).kind ≡ 0 → (k : ℕ) → k < J.count → get_or es₁ k (pos 0) ≡ get_or es₂ k (pos 0)
      one z k q =
          let u = a.starts z k q in
          let v = b.starts (sym kinds ∙ z) k q in
          omega (ints, u.bounds (get_or es₂ k (pos 0)) v.holds, v.bounds (get_or es₁ k (pos 0)) u.holds)

      done : numbers_of_precedences r ≡ answered 0 [] → es₁ ≡ es₂
      done e = ext_get_or (pos 0) es₁ es₂ (a.size ∙ sym b.size) (λ k q. one (ap (λ (y : Answer). y.kind) e) k (omega (arith, q, a.size, n)))

-- Two series that leave the same durations, and two passes on the same ranges.
pub same_precedences : {left left' : DisjunctivePropagator} → Series left → Series left' → durations_of left ≡ durations_of left'
    → (ranges : List Range) {answer answer' : Precedences} {ranges₁ ranges₂ : List Range}
    → PrecedencesLent left ranges answer ranges₁ → PrecedencesLent left' ranges answer' ranges₂ → SamePrecedences answer ranges₁ answer' ranges₂
same_precedences {left} {left'} calls calls' same ranges {answer} {answer'} {ranges₁} {ranges₂} one other' = elim (ℕ_discrete (ranges_number left ranges) 0) [
  | yes z ↦
      let a = one.accepted z in
      let b = other.accepted z in
      let size : length (earliests ranges) ≡ length (durations_of left) = ((accepted_input left (earliests ranges) (latests ranges) (all_bars_are_fit ranges)).0 z).0.counts.earliest ∙ sym (count_is calls) in
      record {
        answers = passes_apart answer answer' (same_answer J a.left b.left);
        starts = a.stored ∙ ap (with_starts ranges) (same_starts J a.left b.left size) ∙ sym b.stored;
      }
  | no n ↦
      let a = one.refused n in
      let b = other.refused n in
      record { answers = passes_apart answer answer' (a.number ∙ sym b.number); starts = a.same_ranges ∙ sym b.same_ranges }
]
  where
    J : Tasks whole
    J = tasks_lent left ranges

    other : PrecedencesLent left ranges answer' ranges₂
    other = subst (λ (r : DisjunctivePropagator). PrecedencesLent r ranges answer' ranges₂) (sym (same_left calls calls' same)) other'
