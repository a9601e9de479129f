-- What is printed of a run, by how it ended: the posts, and then the last lines.
use mathlib.Core.Path.{◌≡◌, refl, sym, ap, subst, ◌∙◌}
use mathlib.Core.List.{List, ◌++◌}
use mathlib.Core.Logic.{◌⊎◌, inl, inr}
use Prim.Native.Nat.{ℕ, ◌*◌}
use native.Mathlib.Omega.{arith}
use lib.IntN.{ℤ}
use lib.ListN.{length, take, drop}
use Rattle.integers.specs.Answers.{Answer}
use Rattle.scheduling.specs.Scheduling.{Atom}
use Rattle.scheduling.specs.Words.{atom_words}
use Rattle.runs.specs.Traces.{Post, End, done, overload, emptied, Trace}
use Rattle.runs.specs.Words.{reasons, end_reason}
use Rattle.runs.specs.declared.outcome.Outcome.{Outcome}
use Rattle.runs.specs.declared.outcome.Outcome.TheVariants as outcome
use Rattle.runs.proofs.TraceNumbers.{posts_made, kind_done, kind_emptied, kind_overload}
use Rattle.plan_cli.specs.Lines.{done_line, overload_lines, emptied_line}
use Rattle.plan_cli.specs.RunLines.{post_lines, end_lines, run_lines, answer_lines}
use Rattle.plan_cli.specs.RunSlices.{PostsHeld, ShowsRun, Shown}

-- `count` posts that the slices hold, and `rest` after them
pub record Parts (what : ℕ ⊎ Trace) (posts atoms : List ℤ) (count : ℕ) (rest : List ℕ) : Type 0 where
  pub list : List Post
  pub holds : PostsHeld list posts atoms count
  pub text : answer_lines what ≡ post_lines list ++ rest

module _ (posts atoms starts : List ℤ) where
  -- the parts of a run that ended with e
  run_parts : (t : Trace) (r : Outcome) → ShowsRun t r posts atoms starts → (count : ℕ) (e : End) → t.end ≡ e → count ≡ length t.posts
      → Parts (inr t) posts atoms count (end_lines e starts)
  unfolding run_lines
  run_parts t r s count e z q = record {
    list = t.posts;
    holds = subst (PostsHeld t.posts posts atoms) (sym q) s.holds;
    text = (λ i. post_lines t.posts ++ end_lines (z i) (sym s.starts_are i));
  }

  pub done_parts : (what : ℕ ⊎ Trace) (count : ℕ) → Shown what (outcome.Done count) posts atoms starts → Parts what posts atoms count (done_line starts)
  done_parts (inl number) count s = let y : ◌≡◌ {A = ℕ} 0 3 = ap (λ (a : Answer). a.kind) s in absurd (omega arith)
  done_parts (inr t) count s = run_parts t (outcome.Done count) s count done ((kind_done (outcome.Done count) t s.answer).0 refl) (posts_made (outcome.Done count) t s.answer)

  pub emptied_parts : (what : ℕ ⊎ Trace) (count : ℕ) → Shown what (outcome.Emptied count) posts atoms starts → Parts what posts atoms count emptied_line
  emptied_parts (inl number) count s = let y : ◌≡◌ {A = ℕ} 2 3 = ap (λ (a : Answer). a.kind) s in absurd (omega arith)
  emptied_parts (inr t) count s = run_parts t (outcome.Emptied count) s count emptied ((kind_emptied (outcome.Emptied count) t s.answer).0 refl) (posts_made (outcome.Emptied count) t s.answer)

  -- An overload: its reason too, and where its words stand.
  pub record OverloadParts (what : ℕ ⊎ Trace) (count first many : ℕ) : Type 0 where
    pub reason : List Atom
    pub parts : Parts what posts atoms count (overload_lines reason)
    pub words : take (3 * many) (drop (3 * first) atoms) ≡ atom_words reason

  pub overload_parts : (what : ℕ ⊎ Trace) (count first many : ℕ) → Shown what (outcome.Overload count first many) posts atoms starts → OverloadParts what count first many
  overload_parts (inl number) count first many s = let y : ◌≡◌ {A = ℕ} 1 3 = ap (λ (a : Answer). a.kind) s in absurd (omega arith)
  overload_parts (inr t) count first many s =
      let o = kind_overload (outcome.Overload count first many) t s.answer refl in
      let f : first ≡ length (reasons t.posts) = o.first in
      let m : many ≡ length o.reason = o.count in
      let n = ap (λ (x : End). length (end_reason x)) o.ended in
      record {
        reason = o.reason;
        parts = run_parts t (outcome.Overload count first many) s count (overload o.reason) o.ended (posts_made (outcome.Overload count first many) t s.answer);
        words = (λ i. take (3 * (m ∙ sym n) i) (drop (3 * f i) atoms)) ∙ s.end_words ∙ ap (λ (x : End). atom_words (end_reason x)) o.ended;
      }
