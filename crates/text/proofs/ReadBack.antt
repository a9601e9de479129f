-- Numbers that are written one after the other, with white space after each, are read back.
use mathlib.Core.Path.{◌≡◌, refl, sym, ap, ◌∙◌}
use mathlib.Core.Bool.{true, false}
use mathlib.Core.List.{List, [], ◌∷◌, ◌++◌, append-nil, append_assoc}
use mathlib.Core.Option.{Option, some}
use Prim.Native.Nat.{ℕ, suc, ◌<◌}
use native.Mathlib.Omega.{arith}
use lib.Dec.{eqb, leb}
use lib.IntN.{ℤ, pos, negsuc}
use lib.ListN.{length}
use lib.Signed.{◌≤ℤ◌}
use borrow.Author.Tests.{ne_eqb, lt-leb}
use Rattle.integers.proofs.Bools.{and_true, and_right, or_no}
use Rattle.text.specs.DecimalText.{natural, decimal}
use Rattle.text.specs.Numbers.{space, pieces, filled, tokens, digit, digits, before, numbers, numbers_in}
use Rattle.text.proofs.Bytes.{digit_range}
use Rattle.text.proofs.RoundTrip.{natural_reads, round_trip}
use Rattle.text.proofs.Tokens.{piece_end, piece_on}

-- A word: one byte or more, and none of them is white space.
abbrev NoSpace : List ℕ → Type 0
NoSpace [] = Unit {0}
NoSpace (b ∷ bs) = (space b ≡ false) × NoSpace bs

record IsWord (bs : List ℕ) : Type 0 where
  some_byte : 0 < length bs
  no_space : NoSpace bs

-- ---- a decimal is one
high_byte : (b : ℕ) → 32 < b → space b ≡ false
unfolding space
high_byte b h = or_no (eqb b 32) _ (ne_eqb b 32 (λ e. omega arith)) (and_right (leb 9 b) (leb b 13) (lt-leb b 13 (omega arith)))

digits_bare : (bs : List ℕ) → digits bs ≡ true → NoSpace bs
unfolding digits
digits_bare [] h = tt
digits_bare (b ∷ bs) h = let r = and_true (digit b) (digits bs) h in (high_byte b (omega (arith, (digit_range b r.0).0)), digits_bare bs r.1)

natural_word : (n : ℕ) → IsWord (natural n)
natural_word n = let r = natural_reads n in record { some_byte = r.some_digit; no_space = digits_bare (natural n) r.only_digits }

decimal_word : (z : ℤ) → IsWord (decimal z)
unfolding decimal
decimal_word (pos n) = natural_word n
decimal_word (negsuc n) = record { some_byte = omega arith; no_space = (high_byte 45 (omega arith), (natural_word (suc n)).no_space) }

-- ---- the word before white space is the first of the text
piece_word : (w v : List ℕ) (b : ℕ) (bs : List ℕ) → NoSpace v → space b ≡ true → pieces w (v ++ b ∷ bs) ≡ (w ++ v) ∷ pieces [] bs
piece_word w [] b bs n h = piece_end w b bs h ∙ ap (λ (l : List ℕ). l ∷ pieces [] bs) (sym (append-nil w))
piece_word w (c ∷ v) b bs n h = piece_on w c (v ++ b ∷ bs) n.0 ∙ piece_word (w ++ c ∷ []) v b bs n.1 h ∙ ap (λ (l : List ℕ). l ∷ pieces [] bs) (append_assoc w (c ∷ []) v)

tokens_word : (v : List ℕ) (b : ℕ) (bs : List ℕ) → IsWord v → space b ≡ true → tokens (v ++ b ∷ bs) ≡ v ∷ tokens bs
unfolding tokens filled
tokens_word [] b bs w h = absurd (omega (arith, w.some_byte))
tokens_word (c ∷ v) b bs w h = ap filled (piece_word [] (c ∷ v) b bs w.no_space h)

pub no_numbers : numbers_in [] ≡ some []
unfolding numbers_in tokens pieces filled numbers
no_numbers = refl

-- A number that is written before white space is read before the numbers after it.
pub number_back : (z : ℤ) (b : ℕ) (bs : List ℕ) (xs : List ℤ) → negsuc 2147483647 ≤ℤ z → z ≤ℤ pos 2147483647 → space b ≡ true → numbers_in bs ≡ some xs → numbers_in (decimal z ++ b ∷ bs) ≡ some (z ∷ xs)
unfolding numbers_in numbers before
number_back z b bs xs low high h e =
    ap numbers (tokens_word (decimal z) b bs (decimal_word z) h) ∙ ap (λ (o : Option ℤ). before o (numbers (tokens bs))) (round_trip z low high) ∙ ap (before (some z)) e
