-- `run_in_mirror`: the ranges are mirrored, the core runs, and what it left of the earliest starts is mirrored back.
use mathlib.Core.Path.{◌≡◌, ◌∙◌}
use mathlib.Core.List.{List, ◌++◌}
use Prim.Native.Nat.{ℕ}
use native.Mathlib.Omega.{arith}
use borrow.Author.Rules.{rules}
use lib.IntN.{ℤ, pos}
use lib.ListN.{length, take, drop, replicate, length-replicate}
use lib.Seq.{length-take-le}
use Rattle.integers.specs.Limits.{TASKS}
use Rattle.runs.specs.Mirrored.{starts_mirrored}
use Rattle.mirrored.proofs.MirroredEnds.{Fronted, fronted, latest_mirrorable, earliest_mirrorable, runnable_at, left_mirrorable, ran_in_mirror}
use Rattle.mirrored.proofs.mirrored_propagator.run_in_mirror.Goals.{After-run_accepted-finished, After-mirror_starts-2, Start}
use Rattle.mirrored.proofs.mirrored_propagator.run_in_mirror.Goals as goal

-- the durations have TASKS places
long : (s : Start) → length s.args.«record».now.durations ≡ TASKS
long s = search rules

-- an array as it is made
abbrev zeros : List ℤ
zeros = replicate TASKS (pos 0)

whole_front : (s : Start) → length (take s.args.«record».now.count zeros) ≡ s.args.«record».now.count
whole_front s = length-take-le s.args.«record».now.count zeros (omega (arith, length-replicate TASKS (pos 0), s.requires.lawful.few))

abbrev n : After-mirror_starts-2 → ℕ
n c = c.args.«record».now.count

abbrev from : After-mirror_starts-2 → List ℤ
from c = c.mirror_starts.new.out ++ drop (n c) zeros

abbrev to : After-mirror_starts-2 → List ℤ
to c = c.mirror_starts-2.new.out ++ drop (n c) zeros

-- the arrays' fronts are the mirrored starts
from_made : (c : After-mirror_starts-2) → Fronted (n c) c.mirror_starts.new.out (from c)
from_made c = fronted (n c) c.mirror_starts.new.out zeros c.requires.lawful.few (length-replicate TASKS (pos 0)) c.mirror_starts.auto.out

to_made : (c : After-mirror_starts-2) → Fronted (n c) c.mirror_starts-2.new.out (to c)
to_made c = fronted (n c) c.mirror_starts-2.new.out zeros c.requires.lawful.few (length-replicate TASKS (pos 0)) c.mirror_starts-2.auto.out

from_is : (c : After-mirror_starts-2) → take (n c) (from c) ≡ starts_mirrored (take (length c.args.latest.now) c.args.«record».now.durations) c.args.latest.now
from_is c = (from_made c).front ∙ c.mirror_starts.ensures

to_is : (c : After-mirror_starts-2) → take (n c) (to c) ≡ starts_mirrored (take (length c.args.earliest.now) c.args.«record».now.durations) c.args.earliest.now
to_is c = (to_made c).front ∙ c.mirror_starts-2.ensures

abbrev left : After-run_accepted-finished → List ℤ
left c = c.run_accepted-finished.new.earliest

left_made : (c : After-run_accepted-finished) → let i = (goal.at.After-run_accepted-finished c).After-mirror_starts-2 in Fronted (n i) (left c) (left c ++ drop (n i) (from i))
left_made c =
    let i = (goal.at.After-run_accepted-finished c).After-mirror_starts-2 in
    fronted (n i) (left c) (from i) c.requires.lawful.few (from_made i).long c.run_accepted-finished.auto.earliest

pub run_accepted-finished-requires : goal.run_accepted-finished-requires
run_accepted-finished-requires c =
    let past = goal.at.run_accepted-finished-requires c in
    runnable_at c.requires (long past.Start) (from_is past.After-mirror_starts-2) (to_is past.After-mirror_starts-2)

pub mirror_starts-requires-3 : goal.mirror_starts-requires-3
mirror_starts-requires-3 c =
    let past = goal.at.mirror_starts-requires-3 c in
    rw (left_made past.After-run_accepted-finished).front
    (left_mirrorable c.requires (long past.Start) (from_is past.After-mirror_starts-2) (to_is past.After-mirror_starts-2)
    c.run_accepted-finished.ensures c.args.latest.now c.requires.counts.latest)

pub returns : goal.returns
returns c =
    let past = goal.at.returns c in
    ran_in_mirror c.requires (long past.Start) (from_is past.After-mirror_starts-2) (to_is past.After-mirror_starts-2) c.run_accepted-finished.ensures
    (rw (left_made past.After-run_accepted-finished).front at c.mirror_starts-3.ensures)

pub mirror_starts-requires : goal.mirror_starts-requires
mirror_starts-requires c = latest_mirrorable c.requires (long (goal.at.mirror_starts-requires c).Start) _ (whole_front (goal.at.mirror_starts-requires c).Start)

pub mirror_starts-requires-2 : goal.mirror_starts-requires-2
mirror_starts-requires-2 c = earliest_mirrorable c.requires (long (goal.at.mirror_starts-requires-2 c).Start) _ (whole_front (goal.at.mirror_starts-requires-2 c).Start)
