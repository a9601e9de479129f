-- What the slices hold when a run is printed from them.
use Rattle.std.specs.Prelude.{◌≡◌, List, ◌⊎◌, ℕ, ◌+◌, ◌*◌, ◌≤◌, ◌<◌, ℤ, pos, length, get_or, take, drop}
use Rattle.std.proofs.Common.{inl, inr}
use Rattle.integers.specs.Answers.{refused_by}
use Rattle.integers.specs.Limits.{TASKS, ATOMS}
use Rattle.scheduling.specs.Words.{atom_words}
use Rattle.runs.specs.Traces.{Post, Trace}
use Rattle.runs.specs.Demand.{no_post}
use Rattle.runs.specs.Words.{reasons, end_reason}
use Rattle.post_words.specs.Posts.{word_of_task, bound_of, reason_words}
use Rattle.runs.specs.declared.outcome.Outcome.{Outcome}
use Rattle.runs.specs.Outcomes.{outcome_numbers}
use Rattle.runs.specs.EndNumbers.{trace_numbers}

-- bytes for TASKS posts of at most 44, ATOMS atoms of at most 33, and a last line of at most 581
abbrev pub ROOM : ℕ
ROOM = 160000

-- n tasks can be planned with slices for the posts and the reasons of any run.
pub record Plannable (n : ℕ) (posts atoms : List ℤ) : Type 0 where
  pub few : n ≤ TASKS
  pub post_room : length posts ≡ 4 * TASKS
  pub atom_room : length atoms ≡ 3 * ATOMS

-- Post j: the two words that are printed, and the stretch of its reason.
pub record PostHeld (posts atoms : List ℤ) (count j : ℕ) (p : Post) : Type 0 where
  pub task : word_of_task posts j ≡ pos p.task
  pub bound : bound_of posts j ≡ p.bound
  pub reason : reason_words posts atoms count j ≡ atom_words p.reason

-- The slices hold the posts ps.
pub record PostsHeld (ps : List Post) (posts atoms : List ℤ) (count : ℕ) : Type 0 where
  pub many : count ≡ length ps
  pub inside : 4 * count ≤ length posts
  pub each : (j : ℕ) → j < count → PostHeld posts atoms count j (get_or ps j no_post)

-- They do, and the buffer has room for their lines: 44 bytes for each post, and 33 for each atom.
pub record Posts (posts atoms : List ℤ) (count room : ℕ) : Type 0 where
  pub list : List Post
  pub holds : PostsHeld list posts atoms count
  pub fits : 44 * length list + 33 * length (reasons list) ≤ room

-- The outcome and the slices show the run with trace t, which is not longer than any run of TASKS tasks.
pub record ShowsRun (t : Trace) (r : Outcome) (posts atoms starts : List ℤ) : Type 0 where
  pub answer : outcome_numbers r ≡ trace_numbers t
  pub starts_are : starts ≡ t.starts
  pub holds : PostsHeld t.posts posts atoms (length t.posts)
  pub end_inside : 3 * length (reasons t.posts) + 3 * length (end_reason t.end) ≤ length atoms
  pub end_words : take (3 * length (end_reason t.end)) (drop (3 * length (reasons t.posts)) atoms) ≡ atom_words (end_reason t.end)
  pub few_posts : length t.posts ≤ TASKS
  pub few_atoms : length (reasons t.posts) + length (end_reason t.end) ≤ ATOMS
  pub few_starts : length t.starts ≤ TASKS

-- A number that refused a run, or a run.
abbrev pub Shown : ℕ ⊎ Trace → Outcome → List ℤ → List ℤ → List ℤ → Type 0
Shown (inl number) r posts atoms starts = outcome_numbers r ≡ refused_by number
Shown (inr t) r posts atoms starts = ShowsRun t r posts atoms starts

-- One of them is shown, and the buffer has room for it.
pub record Printable (r : Outcome) (posts atoms starts : List ℤ) (room : ℕ) : Type 0 where
  pub what : ℕ ⊎ Trace
  pub shows : Shown what r posts atoms starts
  pub fits : ROOM ≤ room
