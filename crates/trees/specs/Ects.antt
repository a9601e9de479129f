-- The ect of a set of tasks as an answer: a moment, or none where the set has no task.
use Rattle.std.specs.Prelude.{Bool, false, ℕ, zero, suc, max, ltb, None, Some}
use Rattle.std.specs.Prelude as code
use Rattle.std.proofs.Math.Option.{Option, some, none}

-- the answer's moment: from the code's type to that of the definitions
abbrev pub moment_of : code.Option ℕ → Option ℕ
moment_of None = none
moment_of (Some m) = some m

-- the ect that a node's word codes: a task lasts 1 or more, so that 0 is no task's completion and codes none
unfoldable pub decoded : ℕ → Option ℕ
decoded zero = none
decoded (suc m) = some (suc m)

-- an ect is past a moment; that of no task is past none
abbrev pub exceeds : Option ℕ → ℕ → Bool
exceeds none m = false
exceeds (some v) m = ltb m v

-- a start, raised to an ect; that of no task raises nothing
abbrev pub raised_to : ℕ → Option ℕ → ℕ
raised_to start none = start
raised_to start (some v) = max start v
