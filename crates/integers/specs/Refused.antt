-- The numbers that refuse a call, each under one name; src/refused.rt has the same reasons and numbers.
use Rattle.std.specs.Prelude.{ℕ, Result, Ok, Err}
use Rattle.integers.specs.declared.refused.Refusal.{Refusal}
use Rattle.integers.specs.declared.refused.Refusal.TheVariants as refusal

-- no tasks, or more than TASKS
abbrev pub TASK_COUNT : ℕ
TASK_COUNT = 1

-- a duration below 1
abbrev pub DURATION : ℕ
DURATION = 2

-- a start beyond START
abbrev pub START : ℕ
START = 3

-- an earliest start above the latest
abbrev pub CROSSED : ℕ
CROSSED = 4

-- durations that sum to more than DURATIONS
abbrev pub DURATION_SUM : ℕ
DURATION_SUM = 5

-- words that are no atoms
abbrev pub ATOMS : ℕ
ATOMS = 6

-- more premises than PREMISES
abbrev pub PREMISES : ℕ
PREMISES = 7

-- a consequent on no task, or on one without finite bounds
abbrev pub CONSEQUENT : ℕ
CONSEQUENT = 8

-- too few words for posts or atoms
abbrev pub ROOM : ℕ
ROOM = 9

-- another number of ranges than tasks
abbrev pub RANGE_COUNT : ℕ
RANGE_COUNT = 10

-- a post that is not there
abbrev pub POST : ℕ
POST = 11

-- a task to take off that is not there
abbrev pub REMOVED : ℕ
REMOVED = 12

-- barred starts that do not fit their range
abbrev pub BARS : ℕ
BARS = 13

-- a schedule that is not fixed, or overlaps
abbrev pub SCHEDULE : ℕ
SCHEDULE = 14

-- too few bytes for a page
abbrev pub PAGE_ROOM : ℕ
PAGE_ROOM = 15

-- too few words for a reason
abbrev pub REASON_ROOM : ℕ
REASON_ROOM = 16

-- a task that is not there
abbrev pub TASK : ℕ
TASK = 17

-- a moment beyond MOMENT, or a duration below 1 or above LENGTH
abbrev pub QUESTION : ℕ
QUESTION = 18

-- a due moment beyond DUE, or another number of them than tasks
abbrev pub DUE : ℕ
DUE = 19

-- a record that no call makes
abbrev pub RECORD : ℕ
RECORD = 20

-- a hole more than HOLES
abbrev pub HOLES : ℕ
HOLES = 21

-- a variable state that no call makes
abbrev pub STATE : ℕ
STATE = 22

-- a length of time below 1 or above LENGTH
abbrev pub LENGTH : ℕ
LENGTH = 23

-- the number of a reason
abbrev pub number_of : Refusal → ℕ
number_of refusal.TaskCount = TASK_COUNT
number_of refusal.Duration = DURATION
number_of refusal.Start = START
number_of refusal.Crossed = CROSSED
number_of refusal.DurationSum = DURATION_SUM
number_of refusal.Atoms = ATOMS
number_of refusal.Premises = PREMISES
number_of refusal.Consequent = CONSEQUENT
number_of refusal.Room = ROOM
number_of refusal.RangeCount = RANGE_COUNT
number_of refusal.Post = POST
number_of refusal.Removed = REMOVED
number_of refusal.Bars = BARS
number_of refusal.Schedule = SCHEDULE
number_of refusal.PageRoom = PAGE_ROOM
number_of refusal.ReasonRoom = REASON_ROOM
number_of refusal.Task = TASK
number_of refusal.Question = QUESTION
number_of refusal.Due = DUE
number_of refusal.Record = RECORD
number_of refusal.Holes = HOLES
number_of refusal.State = STATE
number_of refusal.Length = LENGTH

-- the number that refused a call; 0 where none did
abbrev pub number_in : {A : Type 0} → Result A Refusal → ℕ
number_in (Ok value) = 0
number_in (Err why) = number_of why
