-- The invariant: no raised start below i is past its latest start.
use Rattle.precedences.specs.PassArrays.{NonePast}
use Rattle.precedences.proofs.pass.first_past.Given as goal

abbrev pub invariant-loop-i : goal.invariant-loop-i
invariant-loop-i l = NonePast l.starts l.m.lst l.i
