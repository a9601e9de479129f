-- The definitions at small lists and numbers.
use Rattle.std.specs.Prelude.{[], ◌∷◌, ◌≡◌, refl, ℤ, pos, negsuc, take}
use Rattle.ranges.specs.declared.range.Range.{Range}
use Rattle.ranges.specs.TakenApart.{taken, padded, starts_taken}

range : ℤ → ℤ → Range
range e l = record { earliest = e; latest = l; count = 0; barred = [] }

forty_eight : taken 48 ≡ 48
unfolding taken
forty_eight = refl

forty_nine : taken 49 ≡ 0
unfolding taken
forty_nine = refl

-- two ranges, taken apart
first_places : take 3 (starts_taken (range (negsuc 6) (pos 6) ∷ range (pos 1) (pos 5) ∷ [])).earliest ≡ negsuc 6 ∷ pos 1 ∷ pos 0 ∷ []
unfolding taken padded starts_taken range
first_places = refl
