-- The definitions at small texts.
use Rattle.std.specs.Prelude.{◌≡◌, refl, [], ◌∷◌, pos, negsuc}
use Rattle.std.proofs.Math.Option.{none, some}
use Rattle.integers.specs.Texts.{bytes_of}
use Rattle.text.specs.Numbers.{space, pieces, filled, tokens, digit, digits, value, ranged, unsigned, number_of, before, numbers, numbers_in}

-- leading zeros and white space are read over
two_numbers : numbers_in (bytes_of " -07 12\n") ≡ some (negsuc 6 ∷ pos 12 ∷ [])
unfolding bytes_of space pieces filled tokens digit digits value ranged unsigned number_of before numbers numbers_in
two_numbers = refl

-- white space alone has no number
no_numbers : numbers_in (bytes_of " \t\n") ≡ some []
unfolding bytes_of space pieces filled tokens numbers numbers_in
no_numbers = refl

minus_zero : number_of (bytes_of "-0") ≡ some (pos 0)
unfolding bytes_of digit digits value ranged unsigned number_of
minus_zero = refl

-- no plus sign, no minus sign alone, and none after the digits
plus_five : number_of (bytes_of "+5") ≡ none
unfolding bytes_of digit digits value ranged unsigned number_of
plus_five = refl

minus_alone : number_of (bytes_of "-") ≡ none
unfolding bytes_of digit digits value ranged unsigned number_of
minus_alone = refl

minus_behind : number_of (bytes_of "5-") ≡ none
unfolding bytes_of digit digits value ranged unsigned number_of
minus_behind = refl

-- one past the greatest i32, and the least
one_too_large : number_of (bytes_of "2147483648") ≡ none
unfolding bytes_of digit digits value ranged unsigned number_of
one_too_large = refl

least_read : number_of (bytes_of "-2147483648") ≡ some (negsuc 2147483647)
unfolding bytes_of digit digits value ranged unsigned number_of
least_read = refl
