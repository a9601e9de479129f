-- The invariant: what is gathered is 0 where each place before this one holds 0.
use mathlib.Core.Path.{◌≡◌}
use lib.Dec.{eqb}
use Rattle.integers.specs.Tests.{all_below}
use Rattle.records.specs.Records.{holds_zero}
use Rattle.records.proofs.record.all_zero.Given as goal

abbrev pub invariant-loop-x : goal.invariant-loop-x
invariant-loop-x l = eqb l.used 0 ≡ all_below (holds_zero l.places) l.x-index
