-- An overload's reason in words: they can be counted, and those that the struct points at are inside the slice and are the promised reason.
use mathlib.Core.Path.{◌≡◌, refl, sym, ap, subst, ◌∙◌}
use mathlib.Core.List.{List}
use mathlib.Core.Option.{none}
use Prim.Native.Nat.{ℕ, ◌+◌, ◌*◌, ◌^◌, ◌≤◌, ◌<◌}
use native.Mathlib.Omega.{arith}
use lib.IntN.{ℤ}
use lib.ListN.{length, take, drop}
use Rattle.records.specs.declared.record.DisjunctivePropagator.{DisjunctivePropagator}
use Rattle.runs.specs.declared.outcome.Outcome.{Outcome}
use Rattle.runs.specs.declared.outcome.Outcome.TheVariants as outcome
use Rattle.runs.specs.Outcomes.{outcome_numbers, first_of, count_of}
use Rattle.ranges.specs.declared.range.Range.{Range}
use Rattle.promises.specs.Promise.{Reason, OverloadPromise}
use Rattle.promises.specs.MirroredPromise.{MirroredReason}
use Rattle.promises.specs.RanLent.{lent_number, RanLent}
use Rattle.promises.specs.RanMirroredLent.{RanMirroredLent}
use Rattle.answers.specs.declared.source_calls.RunAnswer.{RunAnswer}
use Rattle.answers.specs.declared.added_calls.MirroredAnswer.{MirroredAnswer}
use Rattle.answers.specs.SourceAnswers.{WordsCountable}
use Rattle.reedgrit.specs.SourceCalls.{RanNumbers}
use Rattle.reedgrit.specs.AddedCalls.{MirroredNumbers}
use Rattle.promises.proofs.AcceptedCalls.{by_kind}

-- words inside a slice are fewer than a machine word counts
countable : (o : Outcome) (n : ℕ) → n < 2 ^ 64 → ((outcome_numbers o).kind ≡ 1 → 3 * first_of o + 3 * count_of o ≤ n) → WordsCountable o
countable (outcome.Done posts) n room inside = omega arith
countable (outcome.Overload posts first count) n room inside = omega (arith, inside refl)
countable (outcome.Emptied posts) n room inside = omega arith
countable (outcome.Refused why) n room inside = omega arith

module _ (before : DisjunctivePropagator) (ranges : List Range) (posts atoms : List ℤ) (ranges' : List Range) (posts' atoms' : List ℤ) where
  -- The run --------------------------------------------------------------------------------------------------------------------

  module _ (o : Outcome) (changed : ℕ) (after : DisjunctivePropagator) (ran : RanLent before ranges posts atoms o changed after ranges' posts' atoms') where
    run_kept : (outcome_numbers o).kind ≡ 1 → OverloadPromise (Reason before ranges o ranges' posts' atoms') o atoms'
    run_kept k = (ran.accepted (by_kind o (lent_number before ranges posts atoms) (λ e. (ran.refused e).number) (omega (arith, k)))).promise.overload k

    pub run_countable : length atoms' ≡ length atoms → length atoms < 2 ^ 64 → WordsCountable o
    run_countable same room = countable o (length atoms) room (λ k. omega (arith, same, (run_kept k).inside))

  -- `count` words from `first` on
  pub run_words : (a : RunAnswer) (after : DisjunctivePropagator) (n : RanNumbers before ranges posts atoms a after ranges' posts' atoms') → a.kind ≡ 1
      → (a.first + a.count ≤ length atoms') × Reason before ranges n.answer.outcome ranges' posts' atoms' (take a.count (drop a.first atoms')) none
  run_words a after n k = subst Pointed (sym n.are) (kept.inside, kept.reason)
    where
      Pointed : RunAnswer → Type 0
      Pointed b = (b.first + b.count ≤ length atoms') × Reason before ranges n.answer.outcome ranges' posts' atoms' (take b.count (drop b.first atoms')) none

      kept : OverloadPromise (Reason before ranges n.answer.outcome ranges' posts' atoms') n.answer.outcome atoms'
      kept = run_kept n.answer.outcome n.answer.changes after n.promised (sym (ap (λ (b : RunAnswer). b.kind) n.are) ∙ k)

  -- The mirrored pass ----------------------------------------------------------------------------------------------------------

  module _ (o : Outcome) (ran : RanMirroredLent before ranges posts atoms o ranges' posts' atoms') where
    mirrored_kept : (outcome_numbers o).kind ≡ 1 → OverloadPromise (MirroredReason before ranges o ranges' posts' atoms') o atoms'
    mirrored_kept k = (ran.accepted (by_kind o (lent_number before ranges posts atoms) (λ e. (ran.refused e).number) (omega (arith, k)))).promise.overload k

    pub mirrored_countable : length atoms' ≡ length atoms → length atoms < 2 ^ 64 → WordsCountable o
    mirrored_countable same room = countable o (length atoms) room (λ k. omega (arith, same, (mirrored_kept k).inside))

  pub mirrored_words : (a : MirroredAnswer) (n : MirroredNumbers before ranges posts atoms a ranges' posts' atoms') → a.kind ≡ 1
      → (a.first + a.count ≤ length atoms') × MirroredReason before ranges n.answer ranges' posts' atoms' (take a.count (drop a.first atoms')) none
  mirrored_words a n k = subst Pointed (sym n.are) (kept.inside, kept.reason)
    where
      Pointed : MirroredAnswer → Type 0
      Pointed b = (b.first + b.count ≤ length atoms') × MirroredReason before ranges n.answer ranges' posts' atoms' (take b.count (drop b.first atoms')) none

      kept : OverloadPromise (MirroredReason before ranges n.answer ranges' posts' atoms') n.answer atoms'
      kept = mirrored_kept n.answer n.promised (sym (ap (λ (b : MirroredAnswer). b.kind) n.are) ∙ k)
