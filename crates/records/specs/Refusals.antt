-- What refuses a run: the tests in their order, and what an accepted run may take for given.
use Rattle.std.specs.Prelude.{◌≡◌, Bool, ◌&&◌, List, [], ◌∷◌, ◌++◌, ℕ, ◌*◌, ◌≤◌, ◌<◌, leb, eqb, ℤ, pos, neg_ℤ, ◌≤ℤ◌, length, get_or}
use Rattle.std.specs.Int.Signed.{le_z}
use Rattle.integers.specs.Refused as refused
use Rattle.integers.specs.Limits.{START}
use Rattle.integers.specs.Tests.{Test, test, all_below, refusal}
use Rattle.records.specs.declared.record.DisjunctivePropagator.{DisjunctivePropagator}
use Rattle.records.specs.Records.{lawful_record, Lawful}

-- the number at k is from low to high
abbrev pub within_at : ℤ → ℤ → List ℤ → ℕ → Bool
within_at low high xs k = le_z low (get_or xs k (pos 0)) && le_z (get_or xs k (pos 0)) high

-- task k's start is from −START to START
abbrev pub start_fits_at : List ℤ → ℕ → Bool
start_fits_at xs k = within_at (neg_ℤ (pos START)) (pos START) xs k

-- task k's earliest start is not above its latest
abbrev pub range_fits_at : List ℤ → List ℤ → ℕ → Bool
range_fits_at es ls k = le_z (get_or es k (pos 0)) (get_or ls k (pos 0))

-- What every call refuses of a record and its ranges; one on a fixed schedule reads no more of them.
-- 20: a record that is not lawful; 10: a count of starts that differs from n; 3: a start out of the limits; 4: earliest above latest
abbrev pub range_tests : DisjunctivePropagator → List ℤ → List ℤ → List Test
range_tests r es ls =
    test refused.RECORD (lawful_record r)
    ∷ test refused.RANGE_COUNT (eqb (length es) r.count && eqb (length ls) r.count)
    ∷ test refused.START (all_below (start_fits_at es) (length es) && all_below (start_fits_at ls) (length ls))
    ∷ test refused.CROSSED (all_below (range_fits_at es ls) (length es))
    ∷ []

abbrev pub range_number : DisjunctivePropagator → List ℤ → List ℤ → ℕ
range_number r es ls = refusal (range_tests r es ls)

-- What a call on ranges refuses of a record and its ranges.
-- 20, 10, 3 and 4, and then 13: bars that do not fit; whoever holds them has tried it
abbrev pub input_tests : DisjunctivePropagator → List ℤ → List ℤ → Bool → List Test
input_tests r es ls bars = range_tests r es ls ++ (test refused.BARS bars ∷ [])

abbrev pub input_number : DisjunctivePropagator → List ℤ → List ℤ → Bool → ℕ
input_number r es ls bars = refusal (input_tests r es ls bars)

-- those, and then 9: post words below 4n or atom words below 6n²
abbrev pub run_tests : DisjunctivePropagator → List ℤ → List ℤ → Bool → ℕ → ℕ → List Test
run_tests r es ls bars post_words atom_words =
    input_tests r es ls bars ++ (test refused.ROOM (leb (4 * r.count) post_words && leb (6 * (r.count * r.count)) atom_words) ∷ [])

abbrev pub run_number : DisjunctivePropagator → List ℤ → List ℤ → Bool → ℕ → ℕ → ℕ
run_number r es ls bars post_words atom_words = refusal (run_tests r es ls bars post_words atom_words)

-- The same tests as facts, one record for each number.
pub record StartFits (z : ℤ) : Type 0 where
  pub low : neg_ℤ (pos START) ≤ℤ z
  pub high : z ≤ℤ pos START

pub record CountsFit (n : ℕ) (es ls : List ℤ) : Type 0 where
  pub earliest : length es ≡ n
  pub latest : length ls ≡ n

pub record StartsFit (es ls : List ℤ) : Type 0 where
  pub earliest : (k : ℕ) → k < length es → StartFits (get_or es k (pos 0))
  pub latest : (k : ℕ) → k < length ls → StartFits (get_or ls k (pos 0))

abbrev pub RangesFit : List ℤ → List ℤ → Type 0
RangesFit es ls = (k : ℕ) → k < length es → get_or es k (pos 0) ≤ℤ get_or ls k (pos 0)

pub record WordsFit (n post_words atom_words : ℕ) : Type 0 where
  pub posts : 4 * n ≤ post_words
  pub atoms : 6 * (n * n) ≤ atom_words

-- What holds of a record and its ranges where nothing is refused of them.
pub record AcceptedInput (r : DisjunctivePropagator) (es ls : List ℤ) : Type 0 where
  pub lawful : Lawful r
  pub counts : CountsFit r.count es ls
  pub starts : StartsFit es ls
  pub ranges : RangesFit es ls

-- What holds of an accepted run.
pub record AcceptedRun (r : DisjunctivePropagator) (es ls : List ℤ) (post_words atom_words : ℕ) : Type 0 where
  pub lawful : Lawful r
  pub counts : CountsFit r.count es ls
  pub starts : StartsFit es ls
  pub ranges : RangesFit es ls
  pub words : WordsFit r.count post_words atom_words
