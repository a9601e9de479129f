-- The order of the tests of a query.
use Rattle.std.specs.Prelude.{◌≡◌, refl, List, [], ◌∷◌, ℤ, pos}
use Rattle.integers.specs.Answers.{answered, refused_by}
use Rattle.integers.specs.Tests.{refusal}
use Rattle.holes.specs.Holes.{kept, inserted, first_at_or_after, last_at_or_before}
use Rattle.integers.specs.WholeNumbers.{has}
use Rattle.checking.specs.Atoms.{atoms_of, right_atom, right_words, right_lists}
use Rattle.checking.specs.Domains.{crowded, without, less_lower, less_upper, hole_added, tightened_lower, tightened_upper, settled, reduced}
use Rattle.checking.specs.States.{stepped, apply_all, prepared}
use Rattle.answers.specs.SourceAnswers.{state_answer}
use Rattle.reedgrit.specs.States.{truth_stepped, lower_after}

-- 0 ≠ v for v from 1 to 17: seventeen holes
abbrev holes : List ℤ
holes =
    pos 0 ∷ pos 3 ∷ pos 1 ∷ pos 0 ∷ pos 3 ∷ pos 2 ∷ pos 0 ∷ pos 3 ∷ pos 3 ∷ pos 0 ∷ pos 3 ∷ pos 4 ∷ pos 0 ∷ pos 3 ∷ pos 5
    ∷ pos 0 ∷ pos 3 ∷ pos 6 ∷ pos 0 ∷ pos 3 ∷ pos 7 ∷ pos 0 ∷ pos 3 ∷ pos 8 ∷ pos 0 ∷ pos 3 ∷ pos 9
    ∷ pos 0 ∷ pos 3 ∷ pos 10 ∷ pos 0 ∷ pos 3 ∷ pos 11 ∷ pos 0 ∷ pos 3 ∷ pos 12 ∷ pos 0 ∷ pos 3 ∷ pos 13
    ∷ pos 0 ∷ pos 3 ∷ pos 14 ∷ pos 0 ∷ pos 3 ∷ pos 15 ∷ pos 0 ∷ pos 3 ∷ pos 16 ∷ pos 0 ∷ pos 3 ∷ pos 17 ∷ []

-- 0 ≥ 1, 0 ≤ 0
abbrev crossed : List ℤ
crossed = pos 0 ∷ pos 0 ∷ pos 1 ∷ pos 0 ∷ pos 1 ∷ pos 0 ∷ []

-- of variable 1 nothing can be asked: the premises lead to no state
twenty_one : truth_stepped holes (pos 1) (pos 0) (pos 0) ≡ state_answer (refused_by 21)
unfolding refusal right_atom right_words right_lists atoms_of prepared apply_all stepped reduced settled crowded without less_lower less_upper hole_added
    tightened_lower tightened_upper has kept inserted
twenty_one = refl

contradicted : lower_after crossed (pos 1) ≡ state_answer (answered 2 (pos 0 ∷ []))
unfolding refusal right_atom right_words right_lists atoms_of prepared apply_all stepped reduced settled tightened_lower tightened_upper kept first_at_or_after last_at_or_before
contradicted = refl

-- variable 64 is unknown: 6 comes before 21, and before a contradiction
six_before_holes : truth_stepped holes (pos 64) (pos 0) (pos 0) ≡ state_answer (refused_by 6)
unfolding refusal right_atom right_words
six_before_holes = refl

six_before_crossed : lower_after crossed (pos 64) ≡ state_answer (refused_by 6)
unfolding refusal right_atom right_words
six_before_crossed = refl
