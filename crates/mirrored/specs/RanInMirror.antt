-- The run of the mirrored pass in mirrored time, and what it leaves.
use Rattle.std.specs.Prelude.{◌≡◌, List, ℤ, take}
use Rattle.runs.specs.Traces.{Trace}
use Rattle.runs.specs.Words.{posts_after, atoms_after}
use Rattle.runs.specs.Mirrored.{starts_mirrored, mirrored_run}
use Rattle.records.specs.declared.record.DisjunctivePropagator.{DisjunctivePropagator}
use Rattle.runs.specs.declared.outcome.Outcome.{Outcome}
use Rattle.runs.specs.Outcomes.{outcome_numbers}
use Rattle.runs.specs.EndNumbers.{trace_numbers}

module _ (before : DisjunctivePropagator) (es ls : List ℤ) where
  -- the run in mirrored time, on the record's tasks
  abbrev pub in_mirror : Trace
  in_mirror = mirrored_run (take before.count before.durations) es ls

  -- It was run: its answer and its words, and in the caller's time the latest starts.
  pub record RanInMirror (posts atoms : List ℤ) (r : Outcome) (ls' posts' atoms' : List ℤ) : Type 0 where
    pub answer : outcome_numbers r ≡ trace_numbers in_mirror
    pub starts : ls' ≡ starts_mirrored (take before.count before.durations) in_mirror.starts
    pub post_words_are : posts' ≡ posts_after posts in_mirror
    pub atom_words_are : atoms' ≡ atoms_after atoms in_mirror
