-- Numbers in text: words separated by white space, each a decimal number that fits an i32. A byte is the number of its ASCII code: 45 is the minus sign, and
-- 48 to 57 are the digits.
use Rattle.std.specs.Prelude.{Bool, true, false, ◌&&◌, ◌||◌, List, [], ◌∷◌, ◌++◌, ℕ, ◌+◌, ◌-◌, ◌*◌, leb, eqb, ℤ, pos, neg_ℤ}
use Rattle.std.proofs.Math.Option.{Option, none, some}
use Rattle.integers.specs.Limits.{I32MAX}
use Rattle.integers.specs.Moments.{zero_at}

-- white space: a space, and the codes 9 to 13 (tab, line feed, vertical tab, form feed, carriage return)
unfoldable pub space : ℕ → Bool
space b = eqb b 32 || (leb 9 b && leb b 13)

-- the pieces between white space, empty ones too, where w has been read of the first
unfoldable pub pieces : List ℕ → List ℕ → List (List ℕ)
pieces w [] = w ∷ []
pieces w (b ∷ bs) = elim (space b) [ true ↦ w ∷ pieces [] bs | false ↦ pieces (w ++ b ∷ []) bs ]

-- without the empty ones
unfoldable pub filled : List (List ℕ) → List (List ℕ)
filled [] = []
filled ([] ∷ ws) = filled ws
filled ((b ∷ w) ∷ ws) = (b ∷ w) ∷ filled ws

-- the words: the longest runs of bytes that are no white space
unfoldable pub tokens : List ℕ → List (List ℕ)
tokens bs = filled (pieces [] bs)

-- a digit, 0 to 9
unfoldable pub digit : ℕ → Bool
digit b = leb 48 b && leb b 57

-- every byte is one
unfoldable pub digits : List ℕ → Bool
digits [] = true
digits (b ∷ bs) = digit b && digits bs

-- the value of digits after those of n
unfoldable pub value : ℕ → List ℕ → ℕ
value n [] = n
value n (b ∷ bs) = value (n * 10 + (b - 48)) bs

-- a magnitude and its sign: the number, where an i32 holds it
unfoldable pub ranged : Bool → ℕ → Option ℤ
ranged true n = elim (leb n zero_at) [ true ↦ some (neg_ℤ (pos n)) | false ↦ none ]
ranged false n = elim (leb n I32MAX) [ true ↦ some (pos n) | false ↦ none ]

-- one digit or more, and the sign that stood before them
unfoldable pub unsigned : Bool → List ℕ → Option ℤ
unsigned negative [] = none
unsigned negative (b ∷ bs) = elim (digits (b ∷ bs)) [ true ↦ ranged negative (value 0 (b ∷ bs)) | false ↦ none ]

-- the number that a word writes: -?[0-9]+ within an i32
unfoldable pub number_of : List ℕ → Option ℤ
number_of [] = none
number_of (b ∷ bs) = elim (eqb b 45) [ true ↦ unsigned true bs | false ↦ unsigned false (b ∷ bs) ]

-- a number before others
unfoldable pub before : Option ℤ → Option (List ℤ) → Option (List ℤ)
before (some x) (some xs) = some (x ∷ xs)
before (some x) none = none
before none xs = none

-- the numbers of words, where each word is one
unfoldable pub numbers : List (List ℕ) → Option (List ℤ)
numbers [] = some []
numbers (w ∷ ws) = before (number_of w) (numbers ws)

-- the numbers of a text, where it has no other words
unfoldable pub numbers_in : List ℕ → Option (List ℤ)
numbers_in bs = numbers (tokens bs)
