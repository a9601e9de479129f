-- The scanner has gone over some bytes, those that were taken from the input so far.
use mathlib.Core.List.{List, foldl}
use Rattle.std.proofs.Common.{◌≡◌, ℕ}
use Rattle.std.specs.Io.KnownBytes.{Consumes}
use Rattle.text.specs.Scanner.{at_start, step_of}
use Rattle.plan_cli.proofs.stdin.read_numbers.Given as goal

abbrev pub invariant-loop : goal.invariant-loop
invariant-loop g l = (bytes : List ℕ) × (l.scanner ≡ foldl step_of at_start bytes) × Consumes (g.R.Read.remaining l.fn.input) (g.R.Read.remaining l.input) bytes
