-- The definitions at three tasks of durations 4, 5 and 3: what passes, what does not, and where no formula is reached.
use Rattle.std.specs.Prelude.{◌≡◌, refl, List, [], ◌∷◌, ℤ, pos}
use Rattle.integers.specs.Answers.{answered, refused_by}
use Rattle.integers.specs.Orders.{sort, insert, numbers}
use Rattle.integers.specs.Tests.{all_below, refusal}
use Rattle.scheduling.specs.Ects.{ect_after}
use Rattle.scheduling.specs.Scheduling.{total, processing}
use Rattle.holes.specs.Holes.{kept, first_at_or_after, last_at_or_before, zeros}
use Rattle.checking.specs.Atoms.{atoms_of, right_atom, right_words, right_lists}
use Rattle.checking.specs.Domains.{accepted_domain, ascend, tightened_lower, tightened_upper, settled, reduced}
use Rattle.checking.specs.States.{accepted, stepped, bound_of, apply_all, prepared}
use Rattle.checker.specs.Formulas.{any, lowest, highest, implied}
use Rattle.checker.specs.Checks.{check_of}
use Rattle.checker.specs.Verdicts.{numbers_of_verdict}

abbrev durations : List ℤ
durations = pos 4 ∷ pos 5 ∷ pos 3 ∷ []

-- tasks 0 and 1 start from 0 on, 0 ≤ 7 and 1 ≤ 6; and 2 ≥ 0
abbrev premises : List ℤ
premises = pos 0 ∷ pos 0 ∷ pos 0 ∷ pos 0 ∷ pos 1 ∷ pos 7 ∷ pos 1 ∷ pos 0 ∷ pos 0 ∷ pos 1 ∷ pos 1 ∷ pos 6 ∷ pos 2 ∷ pos 0 ∷ pos 0
    ∷ []

-- Both end before task 2, at 9 or later: 2 ≥ 9 passes, and 2 ≥ 10 does not.
passed : numbers_of_verdict (check_of durations premises (pos 2 ∷ pos 0 ∷ pos 9 ∷ [])) ≡ answered 0 []
unfolding sort insert numbers all_below refusal total processing ect_after atoms_of right_atom right_words right_lists accepted_domain ascend tightened_lower
    tightened_upper settled reduced kept first_at_or_after last_at_or_before zeros accepted stepped bound_of apply_all prepared any lowest highest implied check_of
passed = refl

not_passed : numbers_of_verdict (check_of durations premises (pos 2 ∷ pos 0 ∷ pos 10 ∷ [])) ≡ answered 1 []
unfolding sort insert numbers all_below refusal total processing ect_after atoms_of right_atom right_words right_lists accepted_domain ascend tightened_lower
    tightened_upper settled reduced kept first_at_or_after last_at_or_before zeros accepted stepped bound_of apply_all prepared any lowest highest implied check_of
not_passed = refl

-- 2 ≥ 0 is a premise, so that its negation leaves 2 no value.
contradiction : numbers_of_verdict (check_of durations premises (pos 2 ∷ pos 0 ∷ pos 0 ∷ [])) ≡ answered 2 (pos 2 ∷ [])
unfolding all_below refusal total atoms_of right_atom right_words right_lists tightened_lower tightened_upper settled reduced kept first_at_or_after last_at_or_before stepped apply_all
    prepared check_of
contradiction = refl

-- The negated 2 ≤ 9 leaves 2 no greatest value.
unbounded : numbers_of_verdict (check_of durations premises (pos 2 ∷ pos 1 ∷ pos 9 ∷ [])) ≡ refused_by 8
unfolding all_below refusal total atoms_of right_atom right_words right_lists accepted_domain ascend tightened_lower tightened_upper settled reduced kept first_at_or_after
    last_at_or_before zeros accepted stepped bound_of apply_all prepared check_of
unbounded = refl
