-- Posts and atoms as words, and the post reader: what belongs to a post of a run, read from its words alone.
use Rattle.std.specs.Prelude.{true, false, List, [], ◌∷◌, ℕ, ◌+◌, ◌*◌, ◌^◌, ◌≤◌, ◌<◌, leb, ltb, eqb, ℤ, pos, nat_abs, ◌≤ℤ◌, length, get_or, take, drop}
use Rattle.std.specs.Int.Signed.{le_z}
use Rattle.integers.specs.Refused as refused
use Rattle.integers.specs.Limits.{TASKS}
use Rattle.integers.specs.Tests.{Test, test, refusal}

-- A post is four words: task, bound, first atom's index, atom count.
abbrev pub task_place : ℕ → ℕ
task_place j = 4 * j

abbrev pub bound_at : ℕ → ℕ
bound_at j = 4 * j + 1

-- An atom is three words: variable, kind, value.
abbrev pub variable_place : ℕ → ℕ
variable_place k = 3 * k

abbrev pub kind_at : ℕ → ℕ
kind_at k = 3 * k + 1

abbrev pub value_at : ℕ → ℕ
value_at k = 3 * k + 2

-- n atoms as words
abbrev pub words_of : ℕ → ℕ
words_of n = 3 * n

abbrev pub word_of_task : List ℤ → ℕ → ℤ
word_of_task posts index = get_or posts (task_place index) (pos 0)

abbrev pub task_of : List ℤ → ℕ → ℕ
task_of posts index = nat_abs (word_of_task posts index)

abbrev pub bound_of : List ℤ → ℕ → ℤ
bound_of posts index = get_or posts (bound_at index) (pos 0)

abbrev pub first_atom_of : List ℤ → ℕ → ℤ
first_atom_of posts index = get_or posts (4 * index + 2) (pos 0)

abbrev pub count_of_atoms : List ℤ → ℕ → ℤ
count_of_atoms posts index = get_or posts (4 * index + 3) (pos 0)

-- the stretch is words 3f to 3(f + c): its start and its length
abbrev pub stretch_start : List ℤ → ℕ → ℕ
stretch_start posts index = words_of (nat_abs (first_atom_of posts index))

abbrev pub stretch_length : List ℤ → ℕ → ℕ
stretch_length posts index = words_of (nat_abs (count_of_atoms posts index))

-- Room for the j-th post in a slice of `size` words, and numbers that are words.
pub record PostFits (size j i from atoms : ℕ) : Type 0 where
  pub room : 4 * j + 4 ≤ size
  pub task : i < TASKS
  pub first : from < 2 ^ 31
  pub count : atoms < 2 ^ 31

-- 11: an index that is not below the post count, or a post or a stretch that is not inside its slice
abbrev pub post_tests : List ℤ → List ℤ → ℕ → ℕ → List Test
post_tests posts atoms count index =
    test refused.POST (ltb index count)
    ∷ test refused.POST (leb (4 * index + 4) (length posts))
    ∷ test refused.POST (le_z (pos 0) (first_atom_of posts index))
    ∷ test refused.POST (le_z (pos 0) (count_of_atoms posts index))
    ∷ test refused.POST (leb (stretch_start posts index + stretch_length posts index) (length atoms))
    ∷ []

abbrev pub number_of_post : List ℤ → List ℤ → ℕ → ℕ → ℕ
number_of_post posts atoms count index = refusal (post_tests posts atoms count index)

-- the words of the stretch; none where the number is 11
unfoldable pub reason_words : List ℤ → List ℤ → ℕ → ℕ → List ℤ
reason_words posts atoms count index =
    elim (eqb (number_of_post posts atoms count index) 0) [
      | true ↦ take (stretch_length posts index) (drop (stretch_start posts index) atoms)
      | false ↦ []
    ]

-- A post that the reader accepts.
pub record Readable (posts atoms : List ℤ) (count index : ℕ) : Type 0 where
  pub counted : index < count
  pub inside : 4 * index + 4 ≤ length posts
  pub from : pos 0 ≤ℤ first_atom_of posts index
  pub many : pos 0 ≤ℤ count_of_atoms posts index
  pub stretch : stretch_start posts index + stretch_length posts index ≤ length atoms
