-- What the mirrored pass leaves, by its definition.
use Rattle.std.specs.Prelude.{◌≡◌, Bool, List, ℕ, ◌≤◌, ℤ, length, take}
use Rattle.integers.specs.Answers.{refused_by}
use Rattle.scheduling.specs.Words.{atom_words}
use Rattle.runs.specs.Traces.{Trace}
use Rattle.runs.specs.Words.{post_words, atoms_in, posts_after, atoms_after}
use Rattle.runs.specs.Mirrored.{mirrored_pass}
use Rattle.records.specs.declared.record.DisjunctivePropagator.{DisjunctivePropagator}
use Rattle.records.specs.Refusals.{run_number}
use Rattle.runs.specs.declared.outcome.Outcome.{Outcome}
use Rattle.runs.specs.Outcomes.{outcome_numbers}
use Rattle.runs.specs.EndNumbers.{trace_numbers}

module _ (before : DisjunctivePropagator) (es ls : List ℤ) where
  -- the pass on the record's tasks, in the caller's time
  abbrev pub mirrored_of : Trace
  mirrored_of = mirrored_pass (take before.count before.durations) es ls

  -- An accepted pass leaves that trace: its answer, the latest starts, and the words of its posts and reasons over what stood in the lent slices, which have
  -- room for them.
  pub record LeftMirrored (posts atoms : List ℤ) (r : Outcome) (ls' posts' atoms' : List ℤ) : Type 0 where
    pub answer : outcome_numbers r ≡ trace_numbers mirrored_of
    pub starts : ls' ≡ mirrored_of.starts
    pub post_words_are : posts' ≡ posts_after posts mirrored_of
    pub atom_words_are : atoms' ≡ atoms_after atoms mirrored_of
    pub posts_fit : length (post_words 0 mirrored_of.posts) ≤ length posts
    pub atoms_fit : length (atom_words (atoms_in mirrored_of)) ≤ length atoms

  -- A refused pass leaves everything unchanged.
  pub record KeptMirrored (number : ℕ) (posts atoms : List ℤ) (r : Outcome) (ls' posts' atoms' : List ℤ) : Type 0 where
    pub answer : outcome_numbers r ≡ refused_by number
    pub starts : ls' ≡ ls
    pub post_words_are : posts' ≡ posts
    pub atom_words_are : atoms' ≡ atoms

-- A mirrored pass on ranges whose bars fit if `bars`: the first test of a run that fails on the caller's own numbers refuses it, and nothing changes;
-- else it leaves the trace.
pub record RanMirrored (before : DisjunctivePropagator) (es ls : List ℤ) (bars : Bool) (posts atoms : List ℤ) (r : Outcome)
    (ls' posts' atoms' : List ℤ) : Type 0 where
  pub refused : (run_number before es ls bars (length posts) (length atoms) ≡ 0 → ⊥)
      → KeptMirrored before es ls (run_number before es ls bars (length posts) (length atoms)) posts atoms r ls' posts' atoms'
  pub accepted : run_number before es ls bars (length posts) (length atoms) ≡ 0 → LeftMirrored before es ls posts atoms r ls' posts' atoms'
