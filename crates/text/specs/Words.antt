-- Runs of a line: white space, and words.
use Rattle.std.specs.Prelude.{Bool, true, false, List, [], ◌∷◌, ℕ, suc}
use Rattle.std.specs.Bool.{beq}
use Rattle.text.specs.Numbers.{space}
use Rattle.text.specs.declared.words.Run.{Run}
use Rattle.text.specs.declared.words.Run.TheVariants.{Space, Word}

-- whether the bytes of a run are white space
abbrev pub white_run : Run → Bool
white_run Space = true
white_run Word = false

-- how many bytes from the front on are white space or, where `white` is false, are not
unfoldable pub run_length : Bool → List ℕ → ℕ
run_length white [] = 0
run_length white (b ∷ bs) = elim (beq (space b) white) [ true ↦ suc (run_length white bs) | false ↦ 0 ]
