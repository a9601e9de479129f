-- What the program writes for an input: the whole promise.
use Rattle.std.specs.Prelude.{Option, None, Some, List, ℕ}
use Rattle.text.specs.Numbers.{numbers_in}
use Rattle.plan_cli.specs.Lines.{refused_line}
use Rattle.costliest_cli.specs.Asked.{asked_in}
use Rattle.costliest_cli.specs.Tasks.{instance_lines, costliest}

-- bytes for the line of a count, and TASKS lines of at most 63
abbrev pub ROOM : ℕ
ROOM = 4096

-- the costliest tasks of the size asked for; other input is refused
abbrev pub answer_lines : Option ℕ → List ℕ
answer_lines (Some n) = instance_lines (costliest n)
answer_lines None = refused_line 0

-- the bytes that are written for the bytes that are read
unfoldable pub written : List ℕ → List ℕ
written text = answer_lines (asked_in (numbers_in text))
