use mathlib.Core.Path.{◌∙◌}
use Prim.Native.Nat.{◌<◌}
use native.Mathlib.Omega.{arith}
use lib.ListN.{get_or, take}
use Rattle.integers.specs.Limits.{TASKS}
use Rattle.chosen_sets.proofs.Recurrence.{none_done, task_known, next_fits, one_done, all_done}
use Rattle.chosen_sets.proofs.theta_ect.Goals.{In-loop-i}
use Rattle.chosen_sets.proofs.theta_ect.Goals as goal

task : (c : In-loop-i) → get_or (take c.args.n c.sort_numbers.new.order) c.loop-i.i-index 0 < TASKS
task c = task_known c.requires.2 c.sort_numbers.ensures c.loop-i.i-index c.loop-i-test.true

pub completed-ect-requires : goal.completed-ect-requires
completed-ect-requires c =
    let (J, Ω, h) = c.requires in
    next_fits h c.sort_numbers.ensures c.loop-i.i-index c.loop-i-test.true _ (c.loop-i.invariant J Ω h)

pub loop-i-init : goal.loop-i-init
loop-i-init c J Ω h = none_done J Ω

pub loop-i-preserved : goal.loop-i-preserved
loop-i-preserved c J Ω h =
    one_done h c.sort_numbers.ensures c.loop-i.i-index c.loop-i-test.true _ _ (c.loop-i.invariant J Ω h) c.completed-ect.ensures

pub returns : goal.returns
returns c J Ω h = c.decoded.ensures ∙ all_done h c.sort_numbers.ensures c.loop-i.i-index _ (omega arith) (c.loop-i.invariant J Ω h)

pub bounds-chosen-i : goal.bounds-chosen-i
bounds-chosen-i c = task (goal.at.bounds-chosen-i c).In-loop-i

pub offset_bounds-est-i : goal.offset_bounds-est-i
offset_bounds-est-i c = omega (arith, task (goal.at.offset_bounds-est-i c).In-loop-i)

pub bounds-est-i : goal.bounds-est-i
bounds-est-i c = task (goal.at.bounds-est-i c).In-loop-i

pub offset_bounds-durations-i : goal.offset_bounds-durations-i
offset_bounds-durations-i c = omega (arith, task (goal.at.offset_bounds-durations-i c).In-loop-i)

pub bounds-durations-i : goal.bounds-durations-i
bounds-durations-i c = task (goal.at.bounds-durations-i c).In-loop-i
