-- The scanner: what each byte makes of its state, and the state's meaning.
use Rattle.std.specs.Prelude.{Bool, true, false, List, ℕ, ◌+◌, ◌-◌, ◌*◌, min, eqb, ℤ, pos, length, take, set, replicate}
use Rattle.std.proofs.Math.Option.{Option, none, some}
use Rattle.integers.specs.Limits.{TASKS}
use Rattle.integers.specs.Moments.{zero_at}
use Rattle.integers.specs.Words.{overwritten}
use Rattle.text.specs.Numbers.{space, digit, ranged}
use Rattle.text.specs.declared.reading.Word.{Word}
use Rattle.text.specs.declared.reading.Word.TheVariants as word
use Rattle.text.specs.declared.reading.Reading.{Reading}
use Rattle.text.specs.declared.reading.Reading.TheVariants as reading
use Rattle.text.specs.declared.reading.Numbers.{Numbers}
use Rattle.text.specs.declared.reading.Scanner.{Scanner}

-- ---- a word
-- the least magnitude that no i32 has
abbrev pub BEYOND : ℕ
BEYOND = zero_at + 1

-- a digit after a magnitude, which stops at BEYOND
unfoldable pub digit_after : Bool → ℕ → ℕ → Word
digit_after negative n b = elim (digit b) [ true ↦ word.Digits negative (min (n * 10 + (b - 48)) BEYOND) | false ↦ word.Wrong ]

-- a byte more
unfoldable pub next_of : Word → ℕ → Word
next_of word.Empty b = elim (eqb b 45) [ true ↦ word.Minus | false ↦ digit_after false 0 b ]
next_of word.Minus b = digit_after true 0 b
next_of (word.Digits negative n) b = digit_after negative n b
next_of word.Wrong b = word.Wrong

-- a word that has ended and may be no number
unfoldable pub given : Option ℤ → Reading
given none = reading.Wrong
given (some x) = reading.Number x

-- the word ends here
unfoldable pub reading_of : Word → Reading
reading_of word.Empty = reading.Nothing
reading_of word.Minus = reading.Wrong
reading_of (word.Digits negative n) = given (ranged negative n)
reading_of word.Wrong = reading.Wrong

-- ---- the numbers of the words that have ended
-- how many numbers are kept: a count of tasks, and three numbers for each task
abbrev pub KEPT : ℕ
KEPT = 1 + 3 * TASKS

-- as many zeros
abbrev pub zeros : List ℤ
zeros = replicate KEPT (pos 0)

-- the largest usize, where the count stops
abbrev pub MOST : ℕ
MOST = 18446744073709551615

-- no word yet
abbrev pub no_numbers : Numbers
no_numbers = record { valid = true; count = 0; kept = zeros }

-- some word is no number
abbrev pub not_numbers : Numbers
not_numbers = record { valid = false; count = 0; kept = zeros }

-- one number more: past the end of `kept` it is only counted (`set` changes nothing there)
unfoldable pub with_number : Numbers → ℤ → Numbers
with_number ns x = elim ns.valid [
  | true ↦ record { valid = true; count = min (ns.count + 1) MOST; kept = set ns.kept ns.count x }
  | false ↦ ns
]

-- what a word was, added
unfoldable pub reading_added : Numbers → Reading → Numbers
reading_added ns reading.Nothing = ns
reading_added ns (reading.Number x) = with_number ns x
reading_added ns reading.Wrong = not_numbers

-- ---- the scanner
-- nothing read yet
abbrev pub at_start : Scanner
at_start = record { numbers = no_numbers; word = word.Empty }

-- the numbers where the input ends here
abbrev pub end_of : Scanner → Numbers
end_of s = reading_added s.numbers (reading_of s.word)

-- white space ends the word, and any other byte belongs to it
unfoldable pub step_of : Scanner → ℕ → Scanner
step_of s b = elim (space b) [
  | true ↦ record { numbers = end_of s; word = word.Empty }
  | false ↦ record { numbers = s.numbers; word = next_of s.word b }
]

-- ---- what the scanner has to find: how many numbers there are, and the first of them with zeros after
abbrev pub gathered : Option (List ℤ) → Numbers
gathered none = not_numbers
gathered (some xs) = record { valid = true; count = min (length xs) MOST; kept = overwritten zeros (take KEPT xs) }
