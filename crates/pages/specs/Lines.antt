-- The bytes of a page: a heading, and a line for each task. In ASCII 32 is a space.
use Rattle.std.specs.Prelude.{List, ◌++◌, ℕ, ◌-◌, ℤ, length, replicate}
use Rattle.integers.specs.Texts.{bytes_of}
use Rattle.text.specs.DecimalText.{natural, decimal}

-- the bytes of a line, its line feed among them
abbrev pub LINE : ℕ
LINE = 31

abbrev pub spaces : ℕ → List ℕ
spaces n = replicate n 32

-- right-aligned: spaces before the text, up to the width
unfoldable pub pad_left : ℕ → List ℕ → List ℕ
pad_left width text = spaces (width - length text) ++ text

abbrev pub line_end : List ℕ
line_end = bytes_of "    \n"

-- three texts in their columns, 2, 11 and 11 wide
unfoldable pub columns : List ℕ → List ℕ → List ℕ → List ℕ
columns number start end = pad_left 2 number ++ spaces 1 ++ pad_left 11 start ++ spaces 1 ++ pad_left 11 end ++ line_end

-- the names of the columns, right-aligned over them
abbrev pub heading : List ℕ
heading = bytes_of "NR       START         END    \n"

-- the line of a task by its number, its start and its end
abbrev pub line_of : ℕ → ℤ → ℤ → List ℕ
line_of task start end = columns (natural task) (decimal start) (decimal end)
