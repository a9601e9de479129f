-- The tasks that a reason names.
use Rattle.std.specs.Prelude.{List, map}
use Rattle.integers.specs.Orders.{has}
use Rattle.scheduling.specs.Scheduling.{TaskSet, Atom}

-- the variables of its atoms
abbrev pub named : List Atom → TaskSet
named reason k = has (map (λ (a : Atom). a.variable) reason) k
