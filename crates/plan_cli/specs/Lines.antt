-- The lines that a run prints, as bytes in ASCII.
use Rattle.std.specs.Prelude.{true, false, List, [], ◌∷◌, ◌++◌, ℕ, ℤ, pos}
use Rattle.std.specs.Int.Signed.{le_z}
use Rattle.integers.specs.Texts.{bytes_of}
use Rattle.scheduling.specs.Scheduling.{Atom}
use Rattle.text.specs.DecimalText.{natural, decimal}

abbrev pub newline : List ℕ
newline = bytes_of "\n"

abbrev pub space : List ℕ
space = bytes_of " "

-- the words at the front of a line
abbrev pub post_word : List ℕ
post_word = bytes_of "post "

abbrev pub why_word : List ℕ
why_word = bytes_of "why "

abbrev pub done_word : List ℕ
done_word = bytes_of "done"

abbrev pub refused_word : List ℕ
refused_word = bytes_of "refused "

-- the lines of one word
abbrev pub overload_line : List ℕ
overload_line = bytes_of "overload\n"

abbrev pub emptied_line : List ℕ
emptied_line = bytes_of "emptied\n"

-- kind 0 is ≥, and kind 1 is ≤: reasons have no other
unfoldable pub sign : ℤ → List ℕ
sign kind = elim (le_z kind (pos 0)) [ true ↦ bytes_of " >= " | false ↦ bytes_of " <= " ]

-- the line of a post, by its task and its bound, and that of an atom, by its variable, kind and value
unfoldable pub post_line : ℤ → ℤ → List ℕ
post_line task bound = post_word ++ decimal task ++ space ++ decimal bound ++ newline

unfoldable pub why_line : ℤ → ℤ → ℤ → List ℕ
why_line variable kind value = why_word ++ decimal variable ++ sign kind ++ decimal value ++ newline

-- the bytes of each, one after the other
unfoldable pub lines : {A : Type 0} → (A → List ℕ) → List A → List ℕ
lines f [] = []
lines f (x ∷ xs) = f x ++ lines f xs

-- an atom of a reason, and a reason
abbrev pub why_of : Atom → List ℕ
why_of a = why_line (pos a.variable) (pos a.kind) a.value

abbrev pub why_lines : List Atom → List ℕ
why_lines = lines why_of

-- numbers, a space before each
abbrev pub spaced_one : ℤ → List ℕ
spaced_one x = space ++ decimal x

abbrev pub spaced : List ℤ → List ℕ
spaced = lines spaced_one

-- how a run ended: the earliest starts that it left, or the reason of an overload
unfoldable pub done_line : List ℤ → List ℕ
done_line starts = done_word ++ spaced starts ++ newline

unfoldable pub overload_lines : List Atom → List ℕ
overload_lines reason = why_lines reason ++ overload_line

-- the number that refused the input
unfoldable pub refused_line : ℕ → List ℕ
refused_line number = refused_word ++ natural number ++ newline
