-- What the writing of atoms is given, and what it leaves in the slice.
use Rattle.std.specs.Prelude.{List, [], ℕ, ◌+◌, ◌*◌, ◌≤◌, ◌<◌, length, get_or}
use Rattle.integers.specs.Limits.{TASKS}
use Rattle.scheduling.specs.Scheduling.{natural, Tasks}
use Rattle.explanations.specs.Walks.{Each}

-- the tasks of two lists: of a task the explanations read no more than these
abbrev pub starting : List ℕ → List ℕ → Tasks natural
starting es ds = record { count = 0; earliest = λ k. get_or es k 0; latest = λ _. 0; duration = λ k. get_or ds k 0 }

-- where starts play no part
abbrev pub lasting : List ℕ → Tasks natural
lasting ds = starting [] ds

-- k is a task that lasts no longer than `high`
pub record Ends (ds : List ℕ) (high k : ℕ) : Type 0 where
  pub task : k < TASKS
  pub duration : k < length ds
  pub short : get_or ds k 0 ≤ high

-- Tasks ks that can end by `high`, and room for their atoms from the k-th on, in a slice of `size` words.
pub record Writable (size k : ℕ) (ks ds : List ℕ) (high : ℕ) : Type 0 where
  pub ends : Each (Ends ds high) ks
  pub room : 3 * k + 6 * length ks ≤ size
