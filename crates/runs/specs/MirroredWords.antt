-- The words of a run in mirrored time while they are mirrored in place: the limits of their numbers, and the first posts and atoms mirrored.
use Rattle.std.specs.Prelude.{List, ℕ, ◌<◌, pos, ◌+ℤ◌, length, get_or, ◌≤ℤ◌}
use Rattle.integers.specs.FilledLists.{filled}
use Rattle.integers.specs.Limits.{MIRRORED}
use Rattle.integers.specs.Moments.{Above}
use Rattle.scheduling.specs.Scheduling.{Atom}
use Rattle.scheduling.specs.Words.{no_atom}
use Rattle.scheduling.specs.MirroredTime.{mirror_atom}
use Rattle.runs.specs.Traces.{Post}
use Rattle.runs.specs.Demand.{no_post}
use Rattle.runs.specs.Mirrored.{duration_in, mirror_post}

module _ (ds : List ℕ) where
  -- An atom of a mirrored run: ≥ or ≤ on a task that lasts as ds says. A start at its value is at or after −MIRRORED, and ends by MIRRORED.
  pub record Near (a : Atom) : Type 0 where
    pub task : a.variable < length ds
    pub kind : a.kind < 2
    pub low : Above MIRRORED a.value
    pub high : (a.value +ℤ pos (duration_in ds a.variable)) ≤ℤ pos MIRRORED

  -- the first i posts and atoms are mirrored, the others not yet
  abbrev pub posts_to : ℕ → List Post → List Post
  posts_to i ps = filled (λ k. mirror_post ds (get_or ps k no_post)) i ps

  abbrev pub atoms_to : ℕ → List Atom → List Atom
  atoms_to i xs = filled (λ k. mirror_atom (duration_in ds) (get_or xs k no_atom)) i xs
