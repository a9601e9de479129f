-- What a run leaves: its posts with their reasons, how it ended, the earliest starts, and how many leaf changes it made.
use Rattle.std.specs.Prelude.{List, ℕ, ℤ}
use Rattle.scheduling.specs.Scheduling.{Atom}

-- task ≥ bound, for a reason
pub record Post : Type 0 where
  pub task : ℕ
  pub bound : ℤ
  pub reason : List Atom

-- how a run ended: done, on a set that overloads its span, or on a post above its task's latest start, the last of the posts
pub data End : Type 0 where
  done : End
  overload : List Atom → End
  emptied : End

pub record Trace : Type 0 where
  pub posts : List Post
  pub end : End
  pub starts : List ℤ
  pub changes : ℕ
