-- A word read byte by byte is the number that `number_of` says.
use mathlib.Core.Path.{◌≡◌, refl, sym, ap, ◌∙◌}
use mathlib.Core.Bool.{Bool, true, false}
use mathlib.Core.Logic.{◌⊎◌, inl, inr}
use mathlib.Core.List.{List, [], ◌∷◌, foldl}
use mathlib.Core.Option.{none}
use Prim.Native.Nat.{ℕ, ◌+◌, ◌-◌, ◌*◌, ◌≤◌, ◌<◌, min}
use native.Mathlib.Omega.{arith}
use native.Mathlib.Decide.{dec_le}
use lib.Dec.{eqb}
use lib.ListN.{length}
use Rattle.integers.proofs.Bools.{bool, clash, and_true, and_false}
use Rattle.text.specs.Numbers.{digit, digits, value, ranged, unsigned, number_of}
use Rattle.text.specs.Scanner.{BEYOND, digit_after, next_of, given, reading_of}
use Rattle.text.specs.declared.reading.Word.TheVariants.{Empty, Digits, Wrong}
use Rattle.text.proofs.Bytes.{after_digit, after_other, negative_over, positive_over}

-- ---- a magnitude that stops at the bound gives the same numbers
large : (n : ℕ) (bs : List ℕ) → BEYOND ≤ n → BEYOND ≤ value n bs
unfolding value
large n [] h = h
large n (b ∷ bs) h = large (n * 10 + (b - 48)) bs (omega arith)

capped : (n : ℕ) (bs : List ℕ) → min (value (min n BEYOND) bs) BEYOND ≡ min (value n bs) BEYOND
capped n bs = elim (dec_le n BEYOND) [
  | yes h ↦ (let z : min n BEYOND ≡ n = omega arith in rw z)
  | no h ↦ (let a = large n bs (omega arith) in let b = large (min n BEYOND) bs (omega arith) in omega arith)
]

ranged_over : (negative : Bool) (n : ℕ) → BEYOND ≤ n → ranged negative n ≡ none
ranged_over true n h = negative_over n (omega arith)
ranged_over false n h = positive_over n (omega arith)

ranged_capped : (negative : Bool) (n : ℕ) → ranged negative (min n BEYOND) ≡ ranged negative n
ranged_capped negative n = elim (dec_le n BEYOND) [
  | yes h ↦ (let z : min n BEYOND ≡ n = omega arith in rw z)
  | no h ↦ ranged_over negative (min n BEYOND) (omega arith) ∙ sym (ranged_over negative n (omega arith))
]

-- ---- byte after byte
wrong_word : (bs : List ℕ) → foldl next_of Wrong bs ≡ Wrong
unfolding next_of
wrong_word [] = refl
wrong_word (b ∷ bs) = wrong_word bs

module _ (negative : Bool) where
  next_digit : (n b : ℕ) → next_of (Digits negative n) b ≡ digit_after negative n b
  unfolding next_of
  next_digit n b = refl

  digits_word : (n : ℕ) (bs : List ℕ) → n ≤ BEYOND → digits bs ≡ true → foldl next_of (Digits negative n) bs ≡ Digits negative (min (value n bs) BEYOND)
  unfolding digits value
  digits_word n [] h t = ap (Digits negative) (omega arith)
  digits_word n (b ∷ bs) h t =
      let r = and_true (digit b) (digits bs) t in
      let m = n * 10 + (b - 48) in
      rw (next_digit n b, after_digit negative n b r.0) (digits_word (min m BEYOND) bs (omega arith) r.1 ∙ ap (Digits negative) (capped m bs))

  other_word : (n : ℕ) (bs : List ℕ) → n ≤ BEYOND → digits bs ≡ false → foldl next_of (Digits negative n) bs ≡ Wrong
  unfolding digits
  other_word n [] h t = clash refl t
  other_word n (b ∷ bs) h t = by (λ u. other_word (min (n * 10 + (b - 48)) BEYOND) bs (omega arith) u) (bool (digit b))
    where
      by : (digits bs ≡ false → foldl next_of (Digits negative (min (n * 10 + (b - 48)) BEYOND)) bs ≡ Wrong) → (digit b ≡ true) ⊎ (digit b ≡ false)
          → foldl next_of (next_of (Digits negative n) b) bs ≡ Wrong
      by ih (inl d) = rw (next_digit n b, after_digit negative n b d) (elim (and_false (digit b) (digits bs) t) [ inl e ↦ clash d e | inr e ↦ ih e ])
      by ih (inr d) = rw (next_digit n b, after_other negative n b d) (wrong_word bs)

  -- digits after a sign or after nothing
  unsigned_word : (b : ℕ) (bs : List ℕ) → reading_of (foldl next_of (Digits negative 0) (b ∷ bs)) ≡ given (unsigned negative (b ∷ bs))
  unfolding reading_of unsigned given
  unsigned_word b bs = by (bool (digits (b ∷ bs)))
    where
      by : (digits (b ∷ bs) ≡ true) ⊎ (digits (b ∷ bs) ≡ false) → reading_of (foldl next_of (Digits negative 0) (b ∷ bs)) ≡ given (unsigned negative (b ∷ bs))
      by (inl t) = rw (digits_word 0 (b ∷ bs) (omega arith) t, t, unsigned) (ap given (ranged_capped negative (value 0 (b ∷ bs))))
      by (inr t) = rw (other_word 0 (b ∷ bs) (omega arith) t, t, unsigned)

-- the whole word
word_number : (b : ℕ) (bs : List ℕ) → reading_of (foldl next_of Empty (b ∷ bs)) ≡ given (number_of (b ∷ bs))
unfolding next_of number_of unsigned reading_of given
word_number b bs = by bs (bool (eqb b 45))
  where
    by : (cs : List ℕ) → (eqb b 45 ≡ true) ⊎ (eqb b 45 ≡ false) → reading_of (foldl next_of (next_of Empty b) cs) ≡ given (number_of (b ∷ cs))
    by [] (inl t) = rw (t, next_of, number_of)
    by (c ∷ cs) (inl t) = rw (t, next_of, number_of) (unsigned_word true c cs)
    by cs (inr t) = rw (t, next_of, number_of) (unsigned_word false b cs)

pub word_reading : (bs : List ℕ) → 0 < length bs → reading_of (foldl next_of Empty bs) ≡ given (number_of bs)
word_reading [] h = absurd (omega arith)
word_reading (b ∷ bs) h = word_number b bs
