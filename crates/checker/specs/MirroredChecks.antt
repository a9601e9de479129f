-- The check of a reason of latest starts: the formula is judged in mirrored time, everything else in the caller's.
use Rattle.std.specs.Prelude.{List, ℕ, ℤ}
use Rattle.std.proofs.Math.Option.{Option, some, none}
use Rattle.integers.specs.Tests.{refusal}
use Rattle.scheduling.specs.Scheduling.{Atom}
use Rattle.scheduling.specs.MirroredTime.{mirror_atom}
use Rattle.checking.specs.declared.variable_state.VariableState.{VariableState}
use Rattle.checking.specs.Bounds.{lower_in, upper_in}
use Rattle.records.specs.Records.{duration_at, creation_tests}
use Rattle.checker.specs.StartBounds.{mirror_bound}
use Rattle.checker.specs.declared.checker.Verdict.{Verdict}
use Rattle.checker.specs.declared.checker.Direction.{Direction}
use Rattle.checker.specs.declared.checker.Direction.TheVariants.{Forward, Mirrored}
use Rattle.checker.specs.Checks.{judged_by, check_after}

-- a consequent mirrored, where there is one
abbrev pub mirror_if_any : (ℕ → ℕ) → Option Atom → Option Atom
mirror_if_any duration none = none
mirror_if_any duration (some a) = some (mirror_atom duration a)

-- the bounds of task k's start in the caller's time, or in mirrored time, where lower and upper change places
abbrev pub lower_as : Direction → List ℤ → VariableState → ℕ → Option ℤ
lower_as Forward ds s k = lower_in s k
lower_as Mirrored ds s k = mirror_bound (duration_at ds k) (upper_in s k)

abbrev pub upper_as : Direction → List ℤ → VariableState → ℕ → Option ℤ
upper_as Forward ds s k = upper_in s k
upper_as Mirrored ds s k = mirror_bound (duration_at ds k) (lower_in s k)

-- a check in either time
abbrev pub judged_as : Direction → List ℤ → VariableState → Option Atom → Verdict
judged_as direction ds s = judged_by ds (lower_as direction ds s) (upper_as direction ds s)

abbrev pub check_towards : Direction → List ℤ → List ℤ → List ℤ → Verdict
check_towards direction ds premises consequent = check_after (judged_as direction ds) (refusal (creation_tests ds)) premises consequent

-- the answer: 1, 2, 5, 7, 6 on the caller's own values; then 21 or a contradiction, atom by atom; then 8; then the formula in mirrored time
unfoldable pub check_mirrored_of : List ℤ → List ℤ → List ℤ → Verdict
check_mirrored_of = check_towards Mirrored
