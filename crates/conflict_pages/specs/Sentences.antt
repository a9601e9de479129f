-- The sentences of a conflict's page.
use Rattle.std.specs.Prelude.{List, ◌++◌, ℕ, ℤ, pos, ◌+ℤ◌, ◌-ℤ◌}
use Rattle.integers.specs.Texts.{bytes_of}
use Rattle.text.specs.DecimalText.{decimal}

-- a number, and words after it
unfoldable pub phrase : ℤ → List ℕ → List ℕ
phrase x words = decimal x ++ words

-- an overload: the span's length, and the work in it; by how much it exceeds
abbrev pub overload_sentences : ℤ → ℕ → ℤ → ℕ → List ℕ
overload_sentences est p lct excess =
    phrase (lct -ℤ est) (bytes_of " units from ")
    ++ phrase est (bytes_of " to ")
    ++ phrase lct (bytes_of ", and they take ")
    ++ phrase (pos p) (bytes_of "\n")
    ++ phrase (pos excess) (bytes_of " too many\n")

-- what a task does, and the sum that shows it
abbrev pub sum_sentence : ℕ → List ℕ → ℤ → ℕ → ℤ → List ℕ
sum_sentence task does est p past =
    decimal (pos task)
    ++ does
    ++ phrase est (bytes_of " + ")
    ++ phrase (pos p) (bytes_of " = ")
    ++ phrase (est +ℤ pos p) (bytes_of " is past ")
    ++ phrase past (bytes_of "\n")

-- a task comes after the others of a set, since est + p of the set is past their lct
abbrev pub comes_after : ℕ → ℤ → ℕ → ℤ → List ℕ
comes_after task est p lct = sum_sentence task (bytes_of " comes after the others: ") est p lct

-- so it starts after some of them, and that is past its latest start
abbrev pub starts_after : ℕ → ℤ → ℕ → ℤ → List ℕ
starts_after task est p latest = sum_sentence task (bytes_of " starts after those marked *: ") est p latest
