-- The numbers that the scanner ends with are those of the whole text.
use mathlib.Core.Path.{◌≡◌, refl, sym, ap, ◌∙◌}
use mathlib.Core.Bool.{true, false}
use mathlib.Core.Logic.{◌⊎◌, inl, inr}
use mathlib.Core.List.{List, [], ◌∷◌, ◌++◌, append_assoc, append-nil, foldl, foldl-append}
use mathlib.Core.Option.{Option, none, some}
use Prim.Native.Nat.{ℕ, ◌+◌, ◌-◌, ◌≤◌, ◌<◌, min}
use native.Mathlib.Omega.{arith}
use native.Mathlib.Nat.{zero-add}
use native.Mathlib.Decide.{dec_lt}
use lib.IntN.{ℤ, pos}
use lib.ListN.{get_or-append, get_or-eq_default, get_or-replicate, length, take, drop, set, get_or, length-append, length-take, length-drop}
use lib.Seq.{get_or-append-add, get_or-drop, get_or-take, sets, set_out, take_all, take-append-le, length-take-le}
use Rattle.integers.specs.Words.{overwritten}
use Rattle.integers.proofs.Words.{sets_append, overwrites}
use Rattle.integers.proofs.Bools.{bool}
use Rattle.text.specs.Numbers.{space, pieces, filled, tokens, number_of, before, numbers, numbers_in}
use Rattle.text.specs.Scanner.{KEPT, zeros, MOST, next_of, given, reading_of, not_numbers, with_number, reading_added, at_start, end_of, step_of, gathered}
use Rattle.text.specs.declared.reading.Numbers.{Numbers}
use Rattle.text.specs.declared.reading.Word.TheVariants.{Empty}
use Rattle.text.proofs.ScannerSteps.{step_space, step_other}
use Rattle.text.proofs.Tokens.{piece_end, piece_on}
use Rattle.text.proofs.ReadWords.{word_reading}

-- ---- a number more at the end, and the first n kept over what stood there
module _ {A : Type 0} (z xs : List A) (x : A) where
  one_longer : length (xs ++ x ∷ []) ≡ length xs + 1
  one_longer = length-append xs (x ∷ [])

  keeps : (n : ℕ) → length z ≡ n → length xs < n → set (overwritten z (take n xs)) (length xs) x ≡ overwritten z (take n (xs ++ x ∷ []))
  keeps n len h =
      let e = one_longer in
      rw (take_all n xs (omega arith), take_all n (xs ++ x ∷ []) (omega arith))
      (ap (λ (l : List A). set l (length xs) x) (sym (overwrites z xs (omega arith)))
      ∙ ap (λ (k : ℕ). set (sets z 0 xs) k x) (sym (zero-add (length xs)))
      ∙ sym (sets_append xs (x ∷ []) z 0)
      ∙ overwrites z (xs ++ x ∷ []) (omega arith))

  overflows : (n k : ℕ) → length z ≡ n → n ≤ length xs → n ≤ k → set (overwritten z (take n xs)) k x ≡ overwritten z (take n (xs ++ x ∷ []))
  overflows n k len h j =
      let l = length-take-le n xs h in
      rw (take-append-le n xs (x ∷ []) h) (set_out (overwritten z (take n xs)) k x (simp (length-append, length-drop) (omega arith)))

valid_same : (c d : ℕ) (k l : List ℤ) → c ≡ d → k ≡ l → ◌≡◌ {A = Numbers} (record { valid = true; count = c; kept = k }) (record { valid = true; count = d; kept = l })
valid_same c d k l p q = rw (p, q)

-- the scanner's step on a number
more : (xs : List ℤ) (x : ℤ) → with_number (gathered (some xs)) x ≡ gathered (some (xs ++ x ∷ []))
unfolding with_number
more xs x =
    let e = one_longer zeros xs x in
    valid_same _ _ _ _ (omega arith) (elim (dec_lt (length xs) KEPT) [
      | yes h ↦ (let at : min (length xs) MOST ≡ length xs = omega arith in rw at (keeps zeros xs x KEPT refl h))
      | no h ↦ overflows zeros xs x KEPT (min (length xs) MOST) refl (omega arith) (omega arith)
    ])

-- ---- all words one after the other
-- the words' numbers added to those before them
over : Numbers → List (List ℕ) → Numbers
over ns [] = ns
over ns (w ∷ ws) = over (reading_added ns (given (number_of w))) ws

-- numbers after others
behind : List ℤ → Option (List ℤ) → Option (List ℤ)
behind xs none = none
behind xs (some ys) = some (xs ++ ys)

-- no word mends what is invalid
over_invalid : (ws : List (List ℕ)) → over not_numbers ws ≡ not_numbers
unfolding over reading_added with_number given
over_invalid [] = refl
over_invalid (w ∷ ws) = ap (λ (ns : Numbers). over ns ws) (stays (number_of w)) ∙ over_invalid ws
  where
    stays : (o : Option ℤ) → reading_added not_numbers (given o) ≡ not_numbers
    stays none = refl
    stays (some x) = refl

over_all : (xs : List ℤ) (ws : List (List ℕ)) → over (gathered (some xs)) ws ≡ gathered (behind xs (numbers ws))
unfolding over numbers behind before reading_added given
over_all xs [] = ap (λ (l : List ℤ). gathered (some l)) (sym (append-nil xs))
over_all xs (w ∷ ws) = by (number_of w) (λ x. over_all (xs ++ x ∷ []) ws)
  where
    joined : (x : ℤ) (o : Option (List ℤ)) → behind (xs ++ x ∷ []) o ≡ behind xs (before (some x) o)
    joined x none = refl
    joined x (some ys) = ap some (append_assoc xs (x ∷ []) ys)

    by : (o : Option ℤ) → ((x : ℤ) → over (gathered (some (xs ++ x ∷ []))) ws ≡ gathered (behind (xs ++ x ∷ []) (numbers ws)))
        → over (reading_added (gathered (some xs)) (given o)) ws ≡ gathered (behind xs (before o (numbers ws)))
    by none ih = over_invalid ws
    by (some x) ih = ap (λ (ns : Numbers). over ns ws) (more xs x) ∙ ih x ∙ ap gathered (joined x (numbers ws))

-- ---- the scanner goes over all words
word_end : (ns : Numbers) (w : List ℕ) (ws : List (List ℕ)) → over (reading_added ns (reading_of (foldl next_of Empty w))) (filled ws) ≡ over ns (filled (w ∷ ws))
unfolding over filled reading_added reading_of
word_end ns [] ws = refl
word_end ns (b ∷ w) ws = ap (λ r. over (reading_added ns r) (filled ws)) (word_reading (b ∷ w) (omega arith))

scans : (ns : Numbers) (w bs : List ℕ) → end_of (foldl step_of (record { numbers = ns; word = foldl next_of Empty w }) bs) ≡ over ns (filled (pieces w bs))
unfolding pieces filled over
scans ns w [] = word_end ns w []
scans ns w (b ∷ bs) = by (bool (space b)) (scans (reading_added ns (reading_of (foldl next_of Empty w))) [] bs) (scans ns (w ++ b ∷ []) bs)
  where
    by : (space b ≡ true) ⊎ (space b ≡ false)
        → end_of (foldl step_of (record { numbers = reading_added ns (reading_of (foldl next_of Empty w)); word = Empty }) bs) ≡ over (reading_added ns (reading_of (foldl next_of Empty w)))
        (filled (pieces [] bs))
        → end_of (foldl step_of (record { numbers = ns; word = foldl next_of Empty (w ++ b ∷ []) }) bs) ≡ over ns (filled (pieces (w ++ b ∷ []) bs))
        → end_of (foldl step_of (step_of (record { numbers = ns; word = foldl next_of Empty w }) b) bs) ≡ over ns (filled (pieces w (b ∷ bs)))
    by (inl t) ends on = rw (step_space (record { numbers = ns; word = foldl next_of Empty w }) b t, piece_end w b bs t) (ends ∙ word_end ns w (pieces [] bs))
    by (inr t) ends on = rw (step_other (record { numbers = ns; word = foldl next_of Empty w }) b t, piece_on w b bs t, sym (foldl-append next_of Empty w (b ∷ []))) on

-- The scanner that was fed a text from the start ends with the text's numbers.
pub scanned : (bs : List ℕ) → end_of (foldl step_of at_start bs) ≡ gathered (numbers_in bs)
unfolding numbers_in tokens behind
scanned bs = scans (gathered (some [])) [] bs ∙ over_all [] (tokens bs) ∙ ap gathered (whole (numbers (tokens bs)))
  where
    whole : (o : Option (List ℤ)) → behind [] o ≡ o
    whole none = refl
    whole (some xs) = refl

-- ---- what a text's numbers give the places after what was written are unchanged
past : {A : Type 0} (z ws : List A) (k : ℕ) (d : A) → length ws ≤ k → get_or (overwritten z ws) k d ≡ get_or z k d
past z ws k d h =
    let e : k ≡ length ws + (k - length ws) = omega arith in
    ap (λ (j : ℕ). get_or (overwritten z ws) j d) e ∙ get_or-append-add ws (drop (length ws) z) (k - length ws) d ∙ get_or-drop (length ws) z (k - length ws) d ∙ ap (λ (j : ℕ). get_or z j d) (sym e)

-- each at its place, and zeros after the last
pub kept_at : (xs : List ℤ) (k : ℕ) → k < KEPT → get_or (gathered (some xs)).kept k (pos 0) ≡ get_or xs k (pos 0)
kept_at xs k h = elim (dec_lt k (length (take KEPT xs))) [
  | yes q ↦ get_or-append (take KEPT xs) (drop (length (take KEPT xs)) zeros) (pos 0) k q ∙ get_or-take KEPT xs k (pos 0) h
  | no q ↦ (let m = length-take KEPT xs in past zeros (take KEPT xs) k (pos 0) (omega arith) ∙ get_or-replicate KEPT k (pos 0) (pos 0) h ∙ sym (get_or-eq_default xs (pos 0) (omega arith)))
]
