-- Whatever adds, removals and runs came before, the same durations and range records give the same run, and the same mirrored pass.
use mathlib.Core.Path.{◌≡◌, refl, sym, subst, ◌∙◌}
use mathlib.Core.List.{List}
use Prim.Native.Nat.{ℕ}
use lib.IntN.{ℤ}
use Rattle.records.specs.declared.record.DisjunctivePropagator.{DisjunctivePropagator}
use Rattle.runs.specs.Traces.{Trace}
use Rattle.runs.specs.declared.outcome.Outcome.{Outcome}
use Rattle.runs.specs.Outcomes.{outcome_numbers}
use Rattle.runs.specs.EndNumbers.{trace_numbers}
use Rattle.runs.proofs.TraceNumbers.{outcomes_apart}
use Rattle.propagator.specs.Ran.{trace_of}
use Rattle.propagator.proofs.ReadTrace.{Handed, handed}
use Rattle.mirrored.specs.RanMirrored.{mirrored_of}
use Rattle.task_changes.specs.Changes.{durations_of}
use Rattle.ranges.specs.declared.range.Range.{Range}
use Rattle.ranges.specs.Ranges.{earliests, latests}
use Rattle.promises.specs.RanLent.{lent_number, AcceptedLent, RanLent}
use Rattle.promises.specs.RanMirroredLent.{AcceptedMirroredLent, RanMirroredLent}
use Rattle.promises.specs.SameRuns.{SameAnswer, SameRun, SameMirrored}
use Rattle.promises.specs.Series.{Series}
use Rattle.promises.proofs.Answers as read
use Rattle.promises.proofs.Series.{same_left}

-- two answers of one trace, whose posts and reasons are written over two pairs of slices
module _ (t : Trace) (answer answer' : Outcome) (posts atoms posts' atoms' : List ℤ) (is : outcome_numbers answer ≡ trace_numbers t) (is' : outcome_numbers answer' ≡ trace_numbers t)
    (one : Handed t posts atoms) (other : Handed t posts' atoms') where
  one_trace : SameAnswer answer posts atoms answer' posts' atoms'
  one_trace = subst (λ (o : Outcome). SameAnswer answer posts atoms o posts' atoms') (outcomes_apart answer answer' (is ∙ sym is')) (record {
    outcome = refl;
    tasks = λ j q. (read.post_read t answer is posts atoms one j q).task_is ∙ sym (read.post_read t answer is posts' atoms' other j q).task_is;
    bounds = λ j q. (read.post_read t answer is posts atoms one j q).bound_is ∙ sym (read.post_read t answer is posts' atoms' other j q).bound_is;
    reasons = λ j q. (read.post_read t answer is posts atoms one j q).words_are ∙ sym (read.post_read t answer is posts' atoms' other j q).words_are;
    overload = λ k. read.overload_words t answer is posts atoms one k ∙ sym (read.overload_words t answer is posts' atoms' other k);
  })

-- Two series that leave the same durations, and two calls on the same ranges
module _ {left left' : DisjunctivePropagator} (calls : Series left) (calls' : Series left') (same : durations_of left ≡ durations_of left') (ranges : List Range)
    {posts atoms posts₁ atoms₁ posts₂ atoms₂ posts₃ atoms₃ : List ℤ} {answer answer' : Outcome} {ranges₁ ranges₃ : List Range} where
  -- Two runs that are not refused give the same,
  pub same_runs : {changed changed' : ℕ} {after after' : DisjunctivePropagator}
      → RanLent left ranges posts atoms answer changed after ranges₁ posts₁ atoms₁ → lent_number left ranges posts atoms ≡ 0
      → RanLent left' ranges posts₂ atoms₂ answer' changed' after' ranges₃ posts₃ atoms₃ → lent_number left' ranges posts₂ atoms₂ ≡ 0
      → SameRun answer changed ranges₁ posts₁ atoms₁ answer' changed' ranges₃ posts₃ atoms₃
  same_runs {changed} {changed'} {after} {after'} one z other z' =
      let t : Trace = trace_of left (earliests ranges) (latests ranges) in
      let a = one.accepted z in
      let b = subst (λ (r : DisjunctivePropagator). AcceptedLent r ranges posts₂ atoms₂ answer' changed' after' ranges₃ posts₃ atoms₃) (sym (same_left calls calls' same)) (other.accepted z') in
      record {
        answers = one_trace t answer answer' posts₁ atoms₁ posts₃ atoms₃ a.left.answer b.left.answer
            (handed t posts atoms a.left.post_words_are a.left.atom_words_are) (handed t posts₂ atoms₂ b.left.post_words_are b.left.atom_words_are);
        changed = a.left.changes ∙ sym b.left.changes;
        starts = a.stored ∙ sym b.stored;
      }

  -- and so do two mirrored passes.
  pub same_mirrored : RanMirroredLent left ranges posts atoms answer ranges₁ posts₁ atoms₁ → lent_number left ranges posts atoms ≡ 0
      → RanMirroredLent left' ranges posts₂ atoms₂ answer' ranges₃ posts₃ atoms₃ → lent_number left' ranges posts₂ atoms₂ ≡ 0
      → SameMirrored answer ranges₁ posts₁ atoms₁ answer' ranges₃ posts₃ atoms₃
  same_mirrored one z other z' =
      let t : Trace = mirrored_of left (earliests ranges) (latests ranges) in
      let a = one.accepted z in
      let b = subst (λ (r : DisjunctivePropagator). AcceptedMirroredLent r ranges posts₂ atoms₂ answer' ranges₃ posts₃ atoms₃) (sym (same_left calls calls' same)) (other.accepted z') in
      record {
        answers = one_trace t answer answer' posts₁ atoms₁ posts₃ atoms₃ a.left.answer b.left.answer
            (handed t posts atoms a.left.post_words_are a.left.atom_words_are) (handed t posts₂ atoms₂ b.left.post_words_are b.left.atom_words_are);
        starts = a.stored ∙ sym b.stored;
      }
