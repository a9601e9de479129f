-- What a run leaves, by the run's definition.
use Rattle.std.specs.Prelude.{◌≡◌, Bool, List, ℕ, ◌-◌, ◌*◌, ◌≤◌, ◌<◌, ℤ, pos, length, get_or, take, ◌≤ℤ◌}
use Rattle.integers.specs.Answers.{refused_by}
use Rattle.integers.specs.Limits.{MIRRORED}
use Rattle.integers.specs.Moments.{Above}
use Rattle.runs.specs.Traces.{Trace}
use Rattle.runs.specs.Runs.{propagate}
use Rattle.scheduling.specs.Words.{atom_words}
use Rattle.runs.specs.Words.{post_words, atoms_in, posts_after, atoms_after}
use Rattle.records.specs.declared.record.DisjunctivePropagator.{DisjunctivePropagator}
use Rattle.records.specs.Records.{Lawful}
use Rattle.records.specs.Refusals.{CountsFit, RangesFit, WordsFit, run_number}
use Rattle.runs.specs.declared.outcome.Outcome.{Outcome}
use Rattle.runs.specs.Outcomes.{outcome_numbers}
use Rattle.runs.specs.EndNumbers.{trace_numbers}
use Rattle.propagator.specs.declared.disjunctive_propagator.Run.{Run}

-- What the core of a run takes for given: what an accepted run does, but that starts may lie as far out as in mirrored time, so that it serves both.
pub record Runnable (before : DisjunctivePropagator) (es ls : List ℤ) (post_count count_of_atoms : ℕ) : Type 0 where
  pub lawful : Lawful before
  pub counts : CountsFit before.count es ls
  pub from : (k : ℕ) → k < before.count → Above MIRRORED (get_or es k (pos 0))
  pub to : (k : ℕ) → k < before.count → get_or ls k (pos 0) ≤ℤ pos MIRRORED
  pub ranges : RangesFit es ls
  pub words : WordsFit before.count post_count count_of_atoms

module _ (before : DisjunctivePropagator) (es ls : List ℤ) where
  -- the run on a record's tasks
  abbrev pub trace_of : Trace
  trace_of = propagate (take before.count before.durations) es ls

  -- An accepted run leaves that trace: its answer, its leaf changes, the earliest starts, the words of its posts and reasons over what stood in the lent
  -- slices, which have room for them.
  pub record RunLeft (posts atoms : List ℤ) (r : Outcome) (changed : ℕ) (es' posts' atoms' : List ℤ) : Type 0 where
    pub answer : outcome_numbers r ≡ trace_numbers trace_of
    pub changes : changed ≡ trace_of.changes
    pub changes_most : changed ≤ 4 * before.count - 3
    pub starts : es' ≡ trace_of.starts
    pub post_words_are : posts' ≡ posts_after posts trace_of
    pub atom_words_are : atoms' ≡ atoms_after atoms trace_of
    pub posts_fit : length (post_words 0 trace_of.posts) ≤ length posts
    pub atoms_fit : length (atom_words (atoms_in trace_of)) ≤ length atoms

  -- A refused run leaves everything as it was, and counts no leaf change.
  pub record RunRefused (number : ℕ) (posts atoms : List ℤ) (r : Outcome) (changed : ℕ) (es' posts' atoms' : List ℤ) : Type 0 where
    pub answer : outcome_numbers r ≡ refused_by number
    pub changes : changed ≡ 0
    pub starts : es' ≡ es
    pub post_words_are : posts' ≡ posts
    pub atom_words_are : atoms' ≡ atoms

-- A run hands back the record that it was lent, and is told whether the bars of its ranges fit. The first test that fails refuses it, and nothing changes; else
-- it leaves the trace.
pub record Ran (before : DisjunctivePropagator) (es ls : List ℤ) (bars : Bool) (posts atoms : List ℤ) (r : Run)
    (es' posts' atoms' : List ℤ) : Type 0 where
  pub keeps : r.«record» ≡ before
  pub refused : (run_number before es ls bars (length posts) (length atoms) ≡ 0 → ⊥)
      → RunRefused before es ls (run_number before es ls bars (length posts) (length atoms)) posts atoms r.outcome r.changes es' posts' atoms'
  pub accepted : run_number before es ls bars (length posts) (length atoms) ≡ 0
      → RunLeft before es ls posts atoms r.outcome r.changes es' posts' atoms'
