-- A mirrored pass whose reason the check does not pass, and the mirrored check does: durations 1 2 1 in −4..−3, −8..−6, −5..−5.
use Rattle.std.specs.Prelude.{◌≡◌, refl, List, [], ◌∷◌, ℕ, ℤ, pos, negsuc}
use Rattle.std.proofs.Math.Option.{some}
use Rattle.integers.specs.FilledLists.{filled}
use Rattle.integers.specs.Orders.{sort, insert, index, numbers}
use Rattle.integers.specs.Tests.{all_below, refusal}
use Rattle.scheduling.specs.Scheduling.{Atom, total, processing}
use Rattle.scheduling.specs.Ects.{ect_after}
use Rattle.scheduling.specs.Words.{atom_words}
use Rattle.trees.specs.Ects.{decoded}
use Rattle.trees.specs.Leaves.{root, responsible, theta}
use Rattle.trees.specs.Nodes.{join_of, is_empty}
use Rattle.trees.specs.Descents.{gray, tested, descent_by_p, descent_by_ect}
use Rattle.trees.specs.Searches.{step_p, step_ect, search_p, search_ect, theta_of}
use Rattle.trees.specs.Shapes.{width, height_from, node_over}
use Rattle.holes.specs.Holes.{kept, inserted, first_at_or_after, last_at_or_before, zeros}
use Rattle.integers.specs.WholeNumbers.{has}
use Rattle.checking.specs.Atoms.{atoms_of, right_atom, right_words, right_lists}
use Rattle.checking.specs.Domains.{accepted_domain, ascend, tightened_lower, tightened_upper, less_lower, less_upper, hole_added, without, crowded, settled}
use Rattle.checking.specs.Domains.{reduced}
use Rattle.checking.specs.States.{accepted, stepped, bound_of, apply_all, prepared}
use Rattle.runs.specs.Mirrored.{mirrored_pass}
use Rattle.runs.specs.Runs.{propagate, run, outer, inner, conflict, propagation, bounds, within, tabulate}
use Rattle.checker.specs.declared.checker.Verdict.TheVariants.{Passed, NotPassed}
use Rattle.checker.specs.Checks.{check_of, consequent_words}
use Rattle.checker.specs.Formulas.{any, lowest, highest, overloaded, implied}
use Rattle.checker.specs.MirroredChecks.{check_mirrored_of}

-- x ≥ −v, x ≤ −v
abbrev at_least : ℕ → ℕ → Atom
at_least x v = record { variable = x; kind = 0; value = negsuc v }

abbrev at_most : ℕ → ℕ → Atom
at_most x v = record { variable = x; kind = 1; value = negsuc v }

-- 0 ≤ −3, 0 ≥ −5, 2 ≤ −5, 2 ≥ −5, 1 ≤ −4, and so 1 ≤ −7
abbrev reason : List Atom
reason = at_most 0 2 ∷ at_least 0 4 ∷ at_most 2 4 ∷ at_least 2 4 ∷ at_most 1 3 ∷ []

abbrev durations : List ℤ
durations = pos 1 ∷ pos 2 ∷ pos 1 ∷ []

posted : (mirrored_pass (1 ∷ 2 ∷ 1 ∷ []) (negsuc 3 ∷ negsuc 7 ∷ negsuc 4 ∷ [])
    (negsuc 2 ∷ negsuc 5 ∷ negsuc 4 ∷ [])).posts ≡ record { task = 1; bound = negsuc 6; reason = reason } ∷ []
unfolding propagate run outer inner decoded conflict propagation bounds within tabulate height_from sort insert index numbers width root responsible theta join_of
    is_empty gray tested descent_by_p descent_by_ect step_p step_ect search_p search_ect theta_of node_over
posted = refl

not_passed : check_of durations (atom_words reason) (consequent_words (some (at_most 1 6))) ≡ NotPassed
unfolding filled sort insert index numbers all_below refusal total processing atom_words ect_after atoms_of right_atom right_words right_lists accepted_domain ascend
    tightened_lower tightened_upper less_lower less_upper hole_added without crowded settled reduced has kept inserted first_at_or_after last_at_or_before zeros accepted stepped
    bound_of apply_all prepared any lowest highest overloaded implied check_of
not_passed = refl

passed : check_mirrored_of durations (atom_words reason) (consequent_words (some (at_most 1 6))) ≡ Passed
unfolding filled sort insert index numbers all_below refusal total processing atom_words ect_after atoms_of right_atom right_words right_lists accepted_domain ascend
    tightened_lower tightened_upper less_lower less_upper hole_added without crowded settled reduced has kept inserted first_at_or_after last_at_or_before zeros accepted stepped
    bound_of apply_all prepared any lowest highest overloaded implied check_mirrored_of
passed = refl
