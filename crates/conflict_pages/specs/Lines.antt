-- The bytes of a line of a conflict's page, and of its heading.
use Rattle.std.specs.Prelude.{Bool, true, false, List, ◌++◌, ℕ, ℤ, pos}
use Rattle.integers.specs.Texts.{bytes_of}
use Rattle.text.specs.DecimalText.{decimal}
use Rattle.pages.specs.Lines.{pad_left}

-- the bytes of a line, its line feed among them
abbrev pub LINE : ℕ
LINE = 43

-- a mark or none, and the line feed
abbrev pub line_end : Bool → List ℕ
line_end true = bytes_of " *\n"
line_end false = bytes_of "  \n"

-- four texts in their columns, 4, 12, 12 and 12 wide
unfoldable pub columns : List ℕ → List ℕ → List ℕ → List ℕ → List ℕ
columns number from until takes = pad_left 4 number ++ pad_left 12 from ++ pad_left 12 until ++ pad_left 12 takes

-- the names of the columns, right-aligned over them
abbrev pub heading : List ℕ
heading = bytes_of "  NR        FROM       UNTIL       TAKES  \n"

-- the line of a task by its number, its earliest start, its latest completion and its duration
abbrev pub line_of : ℕ → ℤ → ℤ → ℕ → Bool → List ℕ
line_of task from until takes marked = columns (decimal (pos task)) (decimal from) (decimal until) (decimal (pos takes)) ++ line_end marked
