-- The size that an input asks for, by the tests of the code.
use mathlib.Core.Path.{◌≡◌, refl, ap, ◌∙◌}
use mathlib.Core.List.{List, [], ◌∷◌}
use mathlib.Core.Option.{Option, none, some}
use Prim.Native.Nat.{ℕ, ◌≤◌, ◌<◌}
use native.Mathlib.Omega.{arith}
use Rattle.std.specs.Prelude.{None, Some}
use lib.Dec.{leb}
use lib.IntN.{ℤ, pos, negsuc}
use borrow.Author.Tests.{le-leb, lt-leb}
use Rattle.integers.specs.Limits.{TASKS}
use Rattle.integers.proofs.Bools.{and_yes, and_left, and_right}
use Rattle.text.specs.Numbers.{numbers_in}
use Rattle.text.specs.Scanner.{gathered}
use Rattle.text.specs.declared.reading.Numbers.{Numbers}
use Rattle.plan_cli.specs.InputCount.{first_natural}
use Rattle.costliest_cli.specs.Asked.{asked_in}
use Rattle.costliest_cli.specs.Tasks.{instance_lines, costliest}
use Rattle.costliest_cli.specs.Written.{answer_lines, written}

-- no first number, no size
pub unasked : (xs : Option (List ℤ)) → None ≡ first_natural xs → None ≡ asked_in xs
unfolding first_natural asked_in
unasked none h = refl
unasked (some []) h = refl
unasked (some (negsuc m ∷ xs)) h = refl
unasked (some (pos m ∷ xs)) h = cc

module _ (n : ℕ) where
  pub low : (xs : Option (List ℤ)) → Some n ≡ first_natural xs → n ≡ 0 → None ≡ asked_in xs
  unfolding first_natural asked_in
  low none f v = refl
  low (some []) f v = refl
  low (some (negsuc m ∷ xs)) f v = refl
  low (some (pos m ∷ [])) f v = let q : n ≡ m = cc in rw (and_left (leb 1 m) (leb m TASKS) (lt-leb 1 m (omega arith)), asked_in)
  low (some (pos m ∷ x ∷ xs)) f v = refl

  pub high : (xs : Option (List ℤ)) → Some n ≡ first_natural xs → TASKS < n → None ≡ asked_in xs
  unfolding first_natural asked_in
  high none f v = refl
  high (some []) f v = refl
  high (some (negsuc m ∷ xs)) f v = refl
  high (some (pos m ∷ [])) f v = let q : n ≡ m = cc in rw (and_right (leb 1 m) (leb m TASKS) (lt-leb m TASKS (omega arith)), asked_in)
  high (some (pos m ∷ x ∷ xs)) f v = refl

module _ (ns : Numbers) where
  pub not_one : (xs : Option (List ℤ)) → ns ≡ gathered xs → (ns.count ≡ 1 → ⊥) → None ≡ asked_in xs
  unfolding asked_in
  not_one none h v = refl
  not_one (some []) h v = refl
  not_one (some (negsuc m ∷ xs)) h v = refl
  not_one (some (pos m ∷ [])) h v = absurd (v (ap (λ (m : Numbers). m.count) h))
  not_one (some (pos m ∷ x ∷ xs)) h v = refl

  pub right : (n : ℕ) (xs : Option (List ℤ)) → ns ≡ gathered xs → Some n ≡ first_natural xs → ns.count ≡ 1 → (n ≡ 0 → ⊥) → n ≤ TASKS → Some n ≡ asked_in xs
  unfolding first_natural asked_in
  right n none h f c a b = cc
  right n (some []) h f c a b = cc
  right n (some (negsuc m ∷ xs)) h f c a b = cc
  right n (some (pos m ∷ [])) h f c a b =
      let q : n ≡ m = cc in
      rw (and_yes (leb 1 m) (leb m TASKS) (le-leb 1 m (omega arith)) (le-leb m TASKS (omega arith)), asked_in) f
  right n (some (pos m ∷ x ∷ xs)) h f c a b = absurd (omega (arith, ap (λ (m : Numbers). m.count) h))

-- ---- what is written
pub asks : (n : ℕ) → 1 ≤ n → n ≤ TASKS → asked_in (some (pos n ∷ [])) ≡ Some n
unfolding asked_in
asks n a b = rw (and_yes (leb 1 n) (leb n TASKS) (le-leb 1 n a) (le-leb n TASKS b), asked_in)

-- An input that is one number from 1 to TASKS is answered by the costliest tasks of that count.
pub written_instance : (text : List ℕ) (n : ℕ) → numbers_in text ≡ some (pos n ∷ []) → 1 ≤ n → n ≤ TASKS → written text ≡ instance_lines (costliest n)
unfolding written
written_instance text n e a b = ap answer_lines (ap asked_in e ∙ asks n a b)
