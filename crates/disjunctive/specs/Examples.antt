-- The definitions at small lists and numbers.
use Rattle.std.specs.Prelude.{List, [], ◌∷◌, ◌≡◌, refl, ℤ, pos, Some}
use Rattle.integers.specs.FilledLists.{filled}
use Rattle.integers.specs.Orders.{sort, insert, index, numbers, has}
use Rattle.scheduling.specs.Scheduling.{total, processing}
use Rattle.scheduling.specs.Ects.{ect_after}
use Rattle.trees.specs.Ects.{decoded}
use Rattle.trees.specs.Leaves.{root, responsible, theta}
use Rattle.trees.specs.Nodes.{join_of, is_empty}
use Rattle.trees.specs.Descents.{gray, tested, descent_by_p, descent_by_ect}
use Rattle.trees.specs.Searches.{step_p, step_ect, search_p, search_ect, theta_of}
use Rattle.trees.specs.Shapes.{width, height_from, node_over}
use Rattle.runs.specs.Traces.{emptied}
use Rattle.runs.specs.Runs.{propagate, run, outer, inner, conflict, propagation, bounds, within, tabulate}
use Rattle.records.specs.declared.record.DisjunctivePropagator.{DisjunctivePropagator}
use Rattle.records.specs.Records.{new_record, moments_in}
use Rattle.overload_test.specs.ReadTasks.{answer_from, answer_of}
use Rattle.propagator.specs.Ran.{trace_of}

-- the overload test says yes where the run meets an emptied range before the overload
three : DisjunctivePropagator
three = new_record (pos 3 ∷ pos 3 ∷ pos 3 ∷ [])

earliest : List ℤ
earliest = pos 0 ∷ pos 1 ∷ pos 1 ∷ []

latest : List ℤ
latest = pos 6 ∷ pos 1 ∷ pos 1 ∷ []

emptied_first : ((trace_of three earliest latest).end ≡ emptied) × (answer_of (moments_in three earliest latest) ≡ Some 2)
unfolding three earliest latest filled sort insert index numbers has total processing ect_after root responsible theta join_of is_empty gray tested descent_by_p
    descent_by_ect step_p step_ect search_p search_ect theta_of width height_from node_over propagate run outer inner decoded conflict propagation bounds within tabulate
    answer_from
emptied_first = (refl, refl)
