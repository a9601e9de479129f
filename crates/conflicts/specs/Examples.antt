-- The definitions at the paper's instances and at small tasks.
use Rattle.std.specs.Prelude.{◌≡◌, refl, true, List, [], ◌∷◌, map, ℕ, pos}
use Rattle.integers.specs.FilledLists.{filled}
use Rattle.integers.specs.Orders.{sort, insert, index, numbers, has}
use Rattle.scheduling.specs.Scheduling.{total, processing}
use Rattle.scheduling.specs.Ects.{ect_after}
use Rattle.trees.specs.Ects.{decoded}
use Rattle.trees.specs.Leaves.{root, responsible, theta}
use Rattle.trees.specs.Nodes.{join_of, is_empty}
use Rattle.trees.specs.Descents.{gray, tested, descent_by_p, descent_by_ect}
use Rattle.trees.specs.Searches.{step_p, step_ect, search_p, search_ect, theta_of}
use Rattle.trees.specs.Shapes.{width, height_from, node_over}
use Rattle.runs.specs.Runs.{propagate, run, outer, inner, conflict, propagation, bounds, within, tabulate}
use Rattle.records.specs.Records.{new_record}
use Rattle.overload_test.specs.ReadTasks.{answer_from}
use Rattle.conflicts.specs.declared.answer.Found.TheVariants.{NothingFound, Overload, Late}
use Rattle.conflicts.specs.declared.answer.Conflict.{Conflict}
use Rattle.conflicts.specs.Answers.{flags_of, without_work, without_conflict}
use Rattle.conflicts.specs.Suffixes.{first_place}
use Rattle.conflicts.specs.Spans.{span_below}
use Rattle.conflicts.specs.ConflictOf.{conflict_of}

-- earliest and latest start and duration of each task
abbrev shown : List (ℕ × ℕ × ℕ) → Conflict
shown ts = conflict_of (new_record (map (λ (t : ℕ × ℕ × ℕ). pos t.2) ts)) (map (λ (t : ℕ × ℕ × ℕ). pos t.0) ts)
    (map (λ (t : ℕ × ℕ × ℕ). pos t.1) ts)

-- B: both tasks have the 6 units from 0 to 6, and take 8
instance_B : shown ((0, 2, 4) ∷ (1, 2, 4) ∷ []) ≡ record {
  found = Overload;
  set = record { tasks = flags_of 2 (λ _. true); est = pos 0; p = 8 };
  lct = pos 6;
  excess = 2;
  before = without_work;
}
unfolding filled sort insert index numbers has total processing ect_after answer_from first_place span_below
instance_B = refl

-- D: the task that starts at 0 is read too, and is not in the suffix
instance_D : shown ((0, 13, 1) ∷ (10, 11, 3) ∷ (10, 11, 3) ∷ []) ≡ record {
  found = Overload;
  set = record { tasks = flags_of 3 (has (1 ∷ 2 ∷ [])); est = pos 10; p = 6 };
  lct = pos 14;
  excess = 2;
  before = without_work;
}
unfolding filled sort insert index numbers has total processing ect_after answer_from first_place span_below
instance_D = refl

-- C: nothing overloads, and nothing is late
instance_C : shown ((0, 4, 4) ∷ (1, 4, 4) ∷ []) ≡ without_conflict NothingFound
unfolding propagate run outer inner decoded conflict propagation bounds within tabulate height_from sort insert index numbers width root responsible theta
    join_of is_empty gray tested descent_by_p descent_by_ect step_p step_ect search_p search_ect theta_of node_over filled has total processing ect_after answer_from first_place
    span_below
instance_C = refl

-- E: with task 1, which ends by 6, task 0 takes 8 units from 0 on; so it comes after, at 6 or later, and its latest start is 5
instance_E : shown ((0, 5, 3) ∷ (1, 1, 5) ∷ []) ≡ record {
  found = Late 0 (pos 5) (pos 6);
  set = record { tasks = flags_of 2 (λ _. true); est = pos 0; p = 8 };
  lct = pos 6;
  excess = 2;
  before = record { tasks = flags_of 2 (has (1 ∷ [])); est = pos 1; p = 5 };
}
unfolding propagate run outer inner decoded conflict propagation bounds within tabulate height_from sort insert index numbers width root responsible theta
    join_of is_empty gray tested descent_by_p descent_by_ect step_p step_ect search_p search_ect theta_of node_over filled has total processing ect_after answer_from first_place
    span_below
instance_E = refl
