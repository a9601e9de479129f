-- What a program does to its input and its output.
use Rattle.std.specs.Prelude.{List, ℕ}
use Rattle.std.specs.declared.option.Option.{Option}
use Rattle.std.specs.Io.KnownBytes.{Appends, Consumes}

-- Some text was read from the input, and its answer, and no more, was written to the output. Where the bytes that the input has left are known, from
-- `unread` to `left`, the text is what it lost of them; where those that the output holds are known, from `before` to `after`, they grew by the answer.
pub record Answers (answer : List ℕ → List ℕ) (unread left before after : Option (List ℕ)) : Type 0 where
  pub text : List ℕ
  pub read : Consumes unread left text
  pub written : Appends before after (answer text)
