-- The limits of the port, all in one place; src/limits.rt has those that code reads, under the same names.
use Rattle.std.specs.Prelude.{ℕ, ◌+◌}

-- tasks of a record, and variables of a state
abbrev pub TASKS : ℕ
TASKS = 48

-- a tree over TASKS tasks: its nodes, those that are not leaves, and its words, four or two for each node
abbrev pub NODES : ℕ
NODES = 127

abbrev pub INNER : ℕ
INNER = 63

abbrev pub TREEWORDS : ℕ
TREEWORDS = 508

abbrev pub THETAWORDS : ℕ
THETAWORDS = 254

-- atoms of the reasons of a run: two for each pair of tasks
abbrev pub ATOMS : ℕ
ATOMS = 4608

abbrev pub VARIABLES : ℕ
VARIABLES = 64

-- starts are from −START to START, and durations sum to at most DURATIONS
abbrev pub START : ℕ
START = 400000000

abbrev pub DURATIONS : ℕ
DURATIONS = 400000000

-- in mirrored time, such starts are from −MIRRORED to MIRRORED
abbrev pub MIRRORED : ℕ
MIRRORED = START + DURATIONS

-- due moments are from −DUE to DUE
abbrev pub DUE : ℕ
DUE = 400000000

-- an atom's value is from −VALUE to VALUE
abbrev pub VALUE : ℕ
VALUE = 900000000

-- premises of a check, and holes of a domain
abbrev pub PREMISES : ℕ
PREMISES = 512

abbrev pub HOLES : ℕ
HOLES = 16

-- barred starts of a range
abbrev pub BARS : ℕ
BARS = 16

-- a moment in a question is from −MOMENT to MOMENT, and a length of time from 1 to LENGTH
abbrev pub MOMENT : ℕ
MOMENT = 400000000

abbrev pub LENGTH : ℕ
LENGTH = 400000000

-- the largest i32 and the largest u32
abbrev pub I32MAX : ℕ
I32MAX = 2147483647

abbrev pub U32MAX : ℕ
U32MAX = 4294967295
