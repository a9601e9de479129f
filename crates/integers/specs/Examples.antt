-- The definitions at small lists and numbers.
use Rattle.std.specs.Prelude.{◌≡◌, refl, Bool, [], ◌∷◌, ℕ, ◌/◌, leb, negsuc}
use Rattle.integers.specs.Limits.{TASKS, VARIABLES, START, DURATIONS, DUE, VALUE, PREMISES, HOLES, BARS, MOMENT, LENGTH}
use Rattle.integers.specs.Moments.{moment, instant, zero_at}
use Rattle.integers.specs.Orders.{insert, sort, index}
use Rattle.integers.specs.Texts.{bytes_of}
use Rattle.integers.specs.Words.{overwritten}

-- sorted by tens; 12 and 11 stay as they stood
tens : ℕ → ℕ → Bool
tens a b = leb (a / 10) (b / 10)

sorted_by_tens : sort tens (12 ∷ 25 ∷ 11 ∷ 3 ∷ []) ≡ 3 ∷ 12 ∷ 11 ∷ 25 ∷ []
unfolding sort insert tens
sorted_by_tens = refl

place_of_eleven : index (3 ∷ 12 ∷ 11 ∷ 25 ∷ []) 11 ≡ 2
unfolding index
place_of_eleven = refl

-- the least i32 has the moment 0
least_moment : moment zero_at (negsuc 2147483647) ≡ 0
least_moment = refl

instant_of_zero : instant zero_at 0 ≡ negsuc 2147483647
instant_of_zero = refl

front_overwritten : overwritten {A = ℕ} (1 ∷ 2 ∷ 3 ∷ []) (7 ∷ 8 ∷ []) ≡ 7 ∷ 8 ∷ 3 ∷ []
front_overwritten = refl

-- the limits are the papers' numbers
paper_limits : (TASKS ≡ 48) × (START ≡ 400000000) × (DURATIONS ≡ 400000000) × (VARIABLES ≡ 64) × (VALUE ≡ 900000000)
    × (PREMISES ≡ 512) × (HOLES ≡ 16)
paper_limits = (refl, refl, refl, refl, refl, refl, refl)

added_limits : (BARS ≡ 16) × (DUE ≡ 400000000) × (MOMENT ≡ 400000000) × (LENGTH ≡ 400000000)
added_limits = (refl, refl, refl, refl)

-- characters are their codes in ASCII, a line feed 10 among them
text_bytes : bytes_of "NR 0-9\n" ≡ 78 ∷ 82 ∷ 32 ∷ 48 ∷ 45 ∷ 57 ∷ 10 ∷ []
unfolding bytes_of
text_bytes = refl
