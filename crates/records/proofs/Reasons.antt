-- An answer is an error exactly where its number is not 0.
use mathlib.Core.Path.{◌≡◌, refl}
use mathlib.Core.Bool.{true, false}
use Rattle.std.specs.Prelude.{Result, Ok, Err}
use Rattle.std.specs.Result.{is_err}
use Rattle.integers.specs.declared.refused.Refusal.{Refusal}
use Rattle.integers.specs.Refused.{number_in}
use Rattle.integers.proofs.Bools.{clash}
use Rattle.integers.proofs.RefusalNumbers.{never_zero}

pub some_refused : {A : Type 0} (answer : Result A Refusal) → is_err answer ≡ true → number_in answer ≡ 0 → ⊥
some_refused (Ok value) h = clash h refl
some_refused (Err why) h = never_zero why

pub none_refused : {A : Type 0} (answer : Result A Refusal) → is_err answer ≡ false → number_in answer ≡ 0
none_refused (Ok value) h = refl
none_refused (Err why) h = clash refl h
