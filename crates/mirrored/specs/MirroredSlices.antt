-- What the functions of the mirrored pass require and ensure of slices: starts in mirrored time, and a run's words there mirrored back.
use Rattle.std.specs.Prelude.{◌≡◌, List, ◌++◌, ℕ, ◌≤◌, ◌<◌, ℤ, pos, nat_abs, length, get_or, ◌≤ℤ◌}
use Rattle.std.specs.Int.{w32}
use Rattle.std.proofs.Common.{SFits}
use Rattle.integers.specs.Limits.{TASKS, ATOMS}
use Rattle.scheduling.specs.Scheduling.{Atom, Every}
use Rattle.scheduling.specs.Words.{atom_words}
use Rattle.scheduling.specs.MirroredTime.{start_mirrored}
use Rattle.runs.specs.Traces.{Post, Trace}
use Rattle.runs.specs.Words.{post_words, reasons, posts_after, atoms_after, atoms_in}
use Rattle.runs.specs.Mirrored.{mirror_trace}
use Rattle.runs.specs.Demand.{consequent_of, no_post, post}
use Rattle.runs.specs.MirroredWords.{Near, posts_to, atoms_to}
use Rattle.runs.specs.declared.outcome.Outcome.{Outcome}
use Rattle.runs.specs.Outcomes.{outcome_numbers}
use Rattle.runs.specs.EndNumbers.{trace_numbers}

-- The starts have a place each, and mirrored they are i32s.
pub record StartsMirrorable (out starts : List ℤ) (durations : List ℕ) : Type 0 where
  pub places : length out ≡ length starts
  pub few : length starts ≤ TASKS
  pub long : length durations ≡ TASKS
  pub fits : (k : ℕ) → k < length starts → SFits w32 (start_mirrored (get_or durations k 0) (get_or starts k (pos 0)))

-- the start that stands at `at`, mirrored by the duration of the task that the word at `of` names
abbrev pub mirrored_word : List ℤ → ℕ → ℕ → List ℕ → ℤ
mirrored_word words of at durations = start_mirrored (get_or durations (nat_abs (get_or words of (pos 0))) 0) (get_or words at (pos 0))

-- Both words are there, the first is a task, and the mirrored start is an i32.
pub record WordMirrorable (words : List ℤ) (of at : ℕ) (durations : List ℕ) : Type 0 where
  pub of_inside : of < length words
  pub at_inside : at < length words
  pub natural : pos 0 ≤ℤ get_or words of (pos 0)
  pub known : nat_abs (get_or words of (pos 0)) < TASKS
  pub fits : SFits w32 (mirrored_word words of at durations)

-- The durations ds stand at the front of the array.
pub record Durations (ds array : List ℕ) : Type 0 where
  pub few : length ds ≤ TASKS
  pub same : (k : ℕ) → k < length ds → get_or array k 0 ≡ get_or ds k 0

-- The words of `count` posts of a run in mirrored time, and after them any.
pub record PostsMirrorable (words : List ℤ) (count : ℕ) (array : List ℕ) : Type 0 where
  pub ds : List ℕ
  pub posts : List Post
  pub tail : List ℤ
  pub durations : Durations ds array
  pub words_are : words ≡ post_words 0 posts ++ tail
  pub number : length posts ≡ count
  pub few : count ≤ TASKS
  pub near : (j : ℕ) → j < count → Near ds (consequent_of (get_or posts j no_post))

-- They are mirrored, whatever posts they are.
abbrev pub PostsMirrored : List ℤ → ℕ → List ℕ → List ℤ → Type 0
PostsMirrored words count array words' = (h : PostsMirrorable words count array) → words' ≡ post_words 0 (posts_to h.ds count h.posts) ++ h.tail

-- The words of `count` atoms of a run in mirrored time, and after them any.
pub record AtomsMirrorable (words : List ℤ) (count : ℕ) (array : List ℕ) : Type 0 where
  pub ds : List ℕ
  pub atoms : List Atom
  pub tail : List ℤ
  pub durations : Durations ds array
  pub words_are : words ≡ atom_words atoms ++ tail
  pub number : length atoms ≡ count
  pub few : count ≤ ATOMS
  pub near : Every (Near ds) atoms

-- They are mirrored, whatever atoms they are.
abbrev pub AtomsMirrored : List ℤ → ℕ → List ℕ → List ℤ → Type 0
AtomsMirrored words count array words' = (h : AtomsMirrorable words count array) → words' ≡ atom_words (atoms_to h.ds count h.atoms) ++ h.tail

-- The words of a run's `count` posts, and after them any.
pub record ReasonsCountable (words : List ℤ) (count : ℕ) : Type 0 where
  pub posts : List Post
  pub tail : List ℤ
  pub words_are : words ≡ post_words 0 posts ++ tail
  pub number : length posts ≡ count
  pub few : count ≤ TASKS
  pub small : length (reasons posts) ≤ ATOMS

-- A run's answer, and the words of its posts over what stood in the slice.
pub record AtomsCountable (r : Outcome) (words : List ℤ) : Type 0 where
  pub trace : Trace
  pub old : List ℤ
  pub answer : outcome_numbers r ≡ trace_numbers trace
  pub words_are : words ≡ posts_after old trace
  pub few : length trace.posts ≤ TASKS
  pub small : length (atoms_in trace) ≤ ATOMS

-- A run in mirrored time: its answer and its words over what stood in the slices; all its numbers are near.
pub record WordsMirrorable (r : Outcome) (posts atoms : List ℤ) (array : List ℕ) : Type 0 where
  pub ds : List ℕ
  pub trace : Trace
  pub old_posts : List ℤ
  pub old_atoms : List ℤ
  pub durations : Durations ds array
  pub answer : outcome_numbers r ≡ trace_numbers trace
  pub post_words_are : posts ≡ posts_after old_posts trace
  pub atom_words_are : atoms ≡ atoms_after old_atoms trace
  pub posts_near : (j : ℕ) → j < length trace.posts → Near ds (consequent_of (post trace j))
  pub atoms_near : Every (Near ds) (atoms_in trace)
  pub few : length trace.posts ≤ TASKS
  pub small : length (atoms_in trace) ≤ ATOMS

-- Mirrored, its words are those of the mirrored trace.
pub record WordsMirrored {r : Outcome} {posts atoms : List ℤ} {array : List ℕ} (e : WordsMirrorable r posts atoms array) (posts' atoms' : List ℤ)
    : Type 0 where
  pub post_words_are : posts' ≡ posts_after e.old_posts (mirror_trace e.ds e.trace)
  pub atom_words_are : atoms' ≡ atoms_after e.old_atoms (mirror_trace e.ds e.trace)
