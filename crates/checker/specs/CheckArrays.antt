-- What the code of a check holds: the bounds of its tasks in arrays, and the words of its consequent.
use Rattle.std.specs.Prelude.{◌≡◌, true, List, ℕ, ◌≤◌, ℤ, length}
use Rattle.std.proofs.Math.Option.{Option}
use Rattle.checking.specs.Atoms.{right_words}
use Rattle.records.specs.Records.{duration_at}
use Rattle.checking.specs.declared.start_bounds.Bounds.{Bounds}
use Rattle.checker.specs.Formulas.{bounded, tasks}
use Rattle.checker.specs.BoundArrays.{Bounding}

-- the bounds are those of a check's n tasks, and the durations are theirs
pub record Judgeable (ds : List ℤ) (lower upper : ℕ → Option ℤ) (n : ℕ) (b : Bounds) (durations : List ℕ) : Type 0 where
  pub count : length ds ≡ n
  pub bounding : Bounding (tasks (length ds) (duration_at ds) lower upper) (bounded (length ds) (duration_at ds) lower upper) n b durations

-- the words of a consequent that 6 lets pass
pub record Consequent (words : List ℤ) : Type 0 where
  pub short : length words ≤ 3
  pub right : right_words words ≡ true
