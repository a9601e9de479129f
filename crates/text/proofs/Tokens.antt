-- A run of white space, or of other bytes, and what the next byte makes of a word.
use mathlib.Core.Path.{◌≡◌, sym}
use mathlib.Core.Bool.{Bool, true, false, beq}
use mathlib.Core.List.{List, [], ◌∷◌, ◌++◌}
use Prim.Native.Nat.{ℕ, suc, ◌+◌, ◌≤◌, ◌<◌}
use native.Mathlib.Numerals.{add-one}
use lib.ListN.{length, get_or, drop, drop_of_length-le}
use lib.Seq.{drop-cons}
use Rattle.text.specs.Numbers.{space, pieces}
use Rattle.text.specs.Words.{run_length}

-- ---- the run from a place of a slice on
module _ (white : Bool) (bs : List ℕ) (i : ℕ) where
  pub run_none : length bs ≤ i → run_length white (drop i bs) ≡ 0
  unfolding run_length
  run_none h = rw (drop_of_length-le bs h)

  pub run_ends : i < length bs → beq (space (get_or bs i 0)) white ≡ false → run_length white (drop i bs) ≡ 0
  unfolding run_length
  run_ends h d = rw (drop-cons bs i 0 h, d, run_length)

  pub run_more : i < length bs → beq (space (get_or bs i 0)) white ≡ true → run_length white (drop i bs) ≡ run_length white (drop (i + 1) bs) + 1
  unfolding run_length
  run_more h d = rw (add-one i, drop-cons bs i 0 h, d, run_length) (sym (add-one (run_length white (drop (suc i) bs))))

-- ---- the words
pub piece_end : (w : List ℕ) (b : ℕ) (bs : List ℕ) → space b ≡ true → pieces w (b ∷ bs) ≡ w ∷ pieces [] bs
unfolding pieces
piece_end w b bs h = rw (h, pieces)

pub piece_on : (w : List ℕ) (b : ℕ) (bs : List ℕ) → space b ≡ false → pieces w (b ∷ bs) ≡ pieces (w ++ b ∷ []) bs
unfolding pieces
piece_on w b bs h = rw (h, pieces)
