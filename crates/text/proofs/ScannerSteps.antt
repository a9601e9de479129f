-- The cases of a step of the scanner.
use mathlib.Core.Path.{◌≡◌, ap}
use mathlib.Core.Bool.{Bool, true, false}
use Prim.Native.Nat.{ℕ, ◌+◌, min}
use lib.ListN.{set}
use lib.IntN.{ℤ}
use Rattle.text.specs.Numbers.{space}
use Rattle.text.specs.Scanner.{MOST, with_number, next_of, end_of, step_of}
use Rattle.text.specs.declared.reading.Word.TheVariants.{Empty}
use Rattle.text.specs.declared.reading.Numbers.{Numbers}
use Rattle.text.specs.declared.reading.Scanner.{Scanner}

pub number_in : (ns : Numbers) (x : ℤ) → ns.valid ≡ true → with_number ns x ≡ record { valid = true; count = min (ns.count + 1) MOST; kept = set ns.kept ns.count x }
unfolding with_number
number_in ns x h = rw (h, with_number)

pub number_out : (ns : Numbers) (x : ℤ) → ns.valid ≡ false → with_number ns x ≡ ns
unfolding with_number
number_out ns x h = rw (h, with_number) (ap (λ (v : Bool). record { valid = v; count = ns.count; kept = ns.kept }) h)

pub step_space : (s : Scanner) (b : ℕ) → space b ≡ true → step_of s b ≡ record { numbers = end_of s; word = Empty }
unfolding step_of
step_space s b h = rw (h, step_of)

pub step_other : (s : Scanner) (b : ℕ) → space b ≡ false → step_of s b ≡ record { numbers = s.numbers; word = next_of s.word b }
unfolding step_of
step_other s b h = rw (h, step_of)
