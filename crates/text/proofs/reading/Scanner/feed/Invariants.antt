-- The invariant: to go on from here over the bytes that are left is to go over all of them from the first.
use mathlib.Core.List.{foldl}
use mathlib.Core.Path.{◌≡◌}
use lib.ListN.{drop}
use Rattle.text.specs.Scanner.{step_of}
use Rattle.text.proofs.reading.Scanner.feed.Given as goal

abbrev pub invariant-loop-byte : goal.invariant-loop-byte
invariant-loop-byte l = foldl step_of l.scanner (drop l.byte-index l.bytes) ≡ foldl step_of l.initial.scanner l.bytes
