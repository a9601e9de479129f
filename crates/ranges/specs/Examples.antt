-- The definitions at small ranges.
use Rattle.std.specs.Prelude.{◌≡◌, refl, true, false, [], ◌∷◌, ℕ, pos}
use Rattle.integers.specs.WholeNumbers.{has}
use Rattle.ranges.specs.declared.range.Range.{Range}
use Rattle.ranges.specs.Bars.{ascends, bars_are_fit}
use Rattle.ranges.specs.Moves.{moved_onward, start_stored, moved_backward, latest_stored}

-- 0 to 20, with so many of 9, 10, 12 barred
barred : ℕ → Range
barred count = record { earliest = pos 0; latest = pos 20; count = count; barred = pos 9 ∷ pos 10 ∷ pos 12 ∷ [] }

-- two adjacent bars are passed, and not a third that is apart
two_passed : start_stored (barred 3) (pos 9) ≡ pos 11
unfolding barred start_stored moved_onward
two_passed = refl

-- a place past the count is not read
not_counted : start_stored (barred 1) (pos 10) ≡ pos 10
unfolding barred start_stored moved_onward
not_counted = refl

-- back before two
two_before : latest_stored (barred 3) (pos 10) ≡ pos 8
unfolding barred latest_stored moved_backward
two_before = refl

-- a start that is not moved stays
stays : start_stored (barred 3) (pos 0) ≡ pos 0
unfolding barred start_stored moved_onward
stays = refl

-- also where it is barred, in a range whose bars do not fit
stays_barred : start_stored (record { earliest = pos 9; latest = pos 20; count = 1; barred = pos 9 ∷ [] }) (pos 9) ≡ pos 9
unfolding start_stored moved_onward
stays_barred = refl

fits : bars_are_fit (barred 3) ≡ true
unfolding barred bars_are_fit ascends has
fits = refl

-- one more than there is room for; the same twice; the latest start barred
too_many : bars_are_fit (barred 17) ≡ false
unfolding barred bars_are_fit ascends has
too_many = refl

twice : bars_are_fit (record { earliest = pos 0; latest = pos 20; count = 2; barred = pos 9 ∷ pos 9 ∷ [] }) ≡ false
unfolding bars_are_fit ascends has
twice = refl

latest_barred : bars_are_fit (record { earliest = pos 0; latest = pos 9; count = 1; barred = pos 9 ∷ [] }) ≡ false
unfolding bars_are_fit ascends has
latest_barred = refl
