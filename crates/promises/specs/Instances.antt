-- The starred instances of the paper, as one table with one theorem: the runs of `runs` on a fresh record, a variable state and checks from the empty one.
use Rattle.std.specs.Prelude.{◌≡◌, refl, List, [], ◌∷◌, ◌++◌, map, ℕ, ℤ, pos, Ok}
use Rattle.std.proofs.Math.Option.{Option, some, none}
use Rattle.integers.specs.FilledLists.{filled}
use Rattle.integers.specs.Orders.{sort, insert, index, numbers}
use Rattle.integers.specs.Tests.{all_below, refusal}
use Rattle.scheduling.specs.Scheduling.{Atom, total, processing}
use Rattle.scheduling.specs.Ects.{ect_after}
use Rattle.scheduling.specs.Words.{atom_words}
use Rattle.trees.specs.Ects.{decoded}
use Rattle.trees.specs.Leaves.{root, responsible, theta}
use Rattle.trees.specs.Nodes.{join_of, is_empty}
use Rattle.trees.specs.Descents.{gray, tested, descent_by_p, descent_by_ect}
use Rattle.trees.specs.Searches.{step_p, step_ect, search_p, search_ect, theta_of}
use Rattle.trees.specs.Shapes.{width, height_from, node_over}
use Rattle.holes.specs.Holes.{kept, inserted, first_at_or_after, last_at_or_before, zeros}
use Rattle.integers.specs.WholeNumbers.{has}
use Rattle.checking.specs.Atoms.{atoms_of, right_atom, right_words, right_lists}
use Rattle.checking.specs.declared.int_ext.IntExt.TheVariants.{Int}
use Rattle.checking.specs.Domains.{accepted_domain, ascend, tightened_lower, tightened_upper, less_lower, less_upper, hole_added, without, crowded, settled}
use Rattle.checking.specs.Domains.{reduced}
use Rattle.checking.specs.States.{empty_state, accepted, stepped, applied_to, bound_of, lower_of, apply_all, prepared}
use Rattle.runs.specs.Instances.{Input, Instance, at_least, A, five, paper}
use Rattle.runs.specs.Traces.{Trace}
use Rattle.runs.specs.Runs.{propagate, run, outer, inner, conflict, propagation, bounds, within, tabulate}
use Rattle.records.specs.Records.{created}
use Rattle.checker.specs.declared.checker.Verdict.{Verdict}
use Rattle.checker.specs.declared.checker.Verdict.TheVariants.{Passed, NotPassed}
use Rattle.checker.specs.Formulas.{any, lowest, highest, overloaded, implied}
use Rattle.checker.specs.Checks.{check_of, consequent_words}
use Rattle.propagator.specs.Ran.{trace_of}

-- the durations of tasks, as creation and a check take them
abbrev durations : Input → List ℤ
durations ts = map (λ (t : ℕ × ℕ × ℕ). pos t.2) ts

-- A run on a fresh record leaves a trace: its posts with their reasons, how it ended, the starts and the leaf changes. Atoms leave a variable a least value. A
-- check of
-- durations, premises and a consequent or none has an answer.
pub data Starred : Type 0 where
  runs : Instance → Starred
  leaves : List Atom → ℕ → ℕ → Starred
  checks : List ℤ → List Atom → Option Atom → Verdict → Starred

abbrev left : Input → Trace
left ts = trace_of (created (durations ts)).«record» (map (λ (t : ℕ × ℕ × ℕ). pos t.0) ts) (map (λ (t : ℕ × ℕ × ℕ). pos t.1) ts)

abbrev Holds : Starred → Type 0
Holds (runs i) = left i.tasks ≡ i.leaves
Holds (leaves atoms x least) = bound_of lower_of (apply_all atoms empty_state).state (pos x) ≡ Ok (Int (pos least))
Holds (checks ds premises consequent answer) = check_of ds (atom_words premises) (consequent_words consequent) ≡ answer

abbrev AllHold : List Starred → Type 0
AllHold [] = Unit {0}
AllHold (i ∷ rest) = Holds i × AllHold rest

-- A to G, and H, I and L
abbrev pub starred : List Starred
starred = map runs paper ++
    (leaves (record { variable = 0; kind = 3; value = pos 5 } ∷ at_least 0 5 ∷ []) 0 6
    ∷ checks (durations A) [] none NotPassed
    ∷ checks (durations A) five (some (at_least 2 9)) Passed
    ∷ checks (durations A) five (some (at_least 2 10)) NotPassed
    ∷ [])

-- Every one of them holds.
pub starred_hold : AllHold starred
unfolding filled sort insert index numbers all_below refusal total processing atom_words ect_after root responsible theta join_of is_empty gray tested descent_by_p
    descent_by_ect step_p step_ect search_p search_ect theta_of width height_from node_over decoded atoms_of right_atom right_words right_lists accepted_domain ascend
    tightened_lower tightened_upper less_lower less_upper hole_added without crowded settled reduced has kept inserted first_at_or_after last_at_or_before zeros accepted stepped
    applied_to bound_of apply_all prepared propagate run outer inner conflict propagation bounds within tabulate any lowest highest overloaded implied check_of
starred_hold =
    (refl, (refl, (refl, (refl, (refl, (refl, (refl, (refl, (refl, (refl, (refl, tt)))))))))))
