-- What a run leaves in its slices is what is printed of it.
use mathlib.Core.Path.{◌≡◌, refl, sym, ap, subst, ◌∙◌}
use mathlib.Core.Bool.{true}
use mathlib.Core.List.{List, ◌++◌}
use mathlib.Core.Logic.{inr}
use Prim.Native.Nat.{ℕ, zero, suc, ◌+◌, ◌*◌, ◌≤◌}
use native.Mathlib.Omega.{arith}
use lib.IntN.{ℤ}
use lib.ListN.{length, take, drop, length-append}
use Rattle.std.specs.Prelude.{Ok}
use Rattle.integers.specs.Answers.{refused_by}
use Rattle.integers.specs.Limits.{TASKS, ATOMS}
use Rattle.integers.specs.Tests.{refusal}
use Rattle.integers.proofs.Words.{overwritten_length}
use Rattle.scheduling.specs.Words.{atom_words}
use Rattle.scheduling.proofs.Words.{atoms_length}
use Rattle.runs.specs.Traces.{Trace}
use Rattle.runs.specs.Words.{post_words, reasons, end_reason}
use Rattle.runs.proofs.WrittenSlices.{posts_length}
use Rattle.runs.proofs.PostReaders.{end_reader}
use Rattle.records.specs.declared.record.DisjunctivePropagator.{DisjunctivePropagator}
use Rattle.records.specs.declared.record.Created.{Created}
use Rattle.records.specs.Records.{creation_tests, number_of_creation, new_record, created, Creates}
use Rattle.records.specs.Refusals.{run_number}
use Rattle.records.proofs.CreationNumbers.{created_as}
use Rattle.records.proofs.Creation.{created_new}
use Rattle.propagator.specs.declared.disjunctive_propagator.Run.{Run}
use Rattle.propagator.specs.Ran.{trace_of, RunLeft, Ran}
use Rattle.propagator.proofs.ReadTrace.{handed}
use Rattle.plan_cli.specs.RunSlices.{ShowsRun, Shown}
use Rattle.plan_cli.specs.Printed.{numbered, ran_on, planned}

-- a run that no number refused
module _ (r : DisjunctivePropagator) (es ls : List ℤ) where
  abbrev tr : Trace
  tr = trace_of r es ls

  module _ (p₀ a₀ : List ℤ) (room_p : length p₀ ≡ 4 * TASKS) (room_a : length a₀ ≡ 3 * ATOMS) (ran : Run) (es' posts atoms : List ℤ) where
    left_shows : length es' ≤ TASKS → RunLeft r es ls p₀ a₀ ran.outcome ran.changes es' posts atoms → ShowsRun tr ran.outcome posts atoms es'
    left_shows few l =
        let h = handed tr p₀ a₀ l.post_words_are l.atom_words_are in
        let few_posts : length tr.posts ≤ TASKS = omega (arith, l.posts_fit, posts_length tr.posts 0, room_p) in
        let few_atoms : length (reasons tr.posts) + length (end_reason tr.end) ≤ ATOMS =
        omega (arith, l.atoms_fit, atoms_length (reasons tr.posts ++ end_reason tr.end), length-append (reasons tr.posts) (end_reason tr.end), room_a) in
        let long_p : length posts ≡ 4 * TASKS = ap length l.post_words_are ∙ overwritten_length p₀ (post_words 0 tr.posts) l.posts_fit ∙ room_p in
        let long_a : length atoms ≡ 3 * ATOMS = ap length l.atom_words_are ∙ overwritten_length a₀ (atom_words (reasons tr.posts ++ end_reason tr.end)) l.atoms_fit ∙ room_a in
        record {
          answer = l.answer;
          starts_are = l.starts;
          holds = record { many = refl; inside = omega (arith, long_p, few_posts); each = λ j q. let p = h.posts j q in record { task = p.task; bound = p.bound; reason = p.reason } };
          end_inside = omega (arith, long_a, few_atoms);
          end_words = ap (λ (ws : List ℤ). take (3 * length (end_reason tr.end)) (drop (3 * length (reasons tr.posts)) ws)) l.atom_words_are ∙ end_reader a₀ tr;
          few_posts = few_posts;
          few_atoms = few_atoms;
          few_starts = omega (arith, ap length l.starts);
        }

    -- what is left is what is shown
    pub shows : length es' ≤ TASKS → Ran r es ls true p₀ a₀ ran es' posts atoms → Shown (ran_on r es ls) ran.outcome posts atoms es'
    shows few w = subst (λ (k : ℕ). Shown (numbered k (inr tr)) ran.outcome posts atoms es') (λ i. run_number r es ls true (room_p i) (room_a i))
        (by (run_number r es ls true (length p₀) (length a₀)) refl)
      where
        by : (k : ℕ) → run_number r es ls true (length p₀) (length a₀) ≡ k → Shown (numbered k (inr tr)) ran.outcome posts atoms es'
        by zero z = left_shows few (w.accepted z)
        by (suc k) z = (w.refused (λ y. omega (arith, y, z))).answer ∙ ap refused_by z

-- ---- creation before it
module _ (es ls ds : List ℤ) (r : Created) (creates : Creates ds r) where
  made : r ≡ created ds
  made = created_as creates

  pub accepted_planned : r.answer ≡ Ok tt → ran_on r.«record» es ls ≡ planned es ls ds
  accepted_planned h =
      let z : refusal (creation_tests ds) ≡ 0 = sym creates.number ∙ ap number_of_creation h in
      ap (λ (x : Created). ran_on x.«record» es ls) (made ∙ created_new ds z) ∙ ap (λ (k : ℕ). numbered k (ran_on (new_record ds) es ls)) (sym z)
