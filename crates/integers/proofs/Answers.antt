-- Equal numbers have equal parts. Answers that can be read back from their numbers are equal where the numbers are.
use mathlib.Core.Path.{◌≡◌, sym, ap, ◌∙◌}
use Prim.Native.Nat.{ℕ}
use lib.IntN.{ℤ, pos}
use lib.ListN.{get_or}
use lib.Signed.{mag}
use Rattle.integers.specs.Answers.{Answer}

-- value n of an answer, and the same as a natural number
abbrev pub value_at : Answer → ℕ → ℤ
value_at a n = get_or a.values n (pos 0)

abbrev pub count_at : Answer → ℕ → ℕ
count_at a n = mag (value_at a n)

pub same_kind : {a b : Answer} → a ≡ b → a.kind ≡ b.kind
same_kind e = ap (λ (x : Answer). x.kind) e

pub same_count : {a b : Answer} → a ≡ b → (n : ℕ) → count_at a n ≡ count_at b n
same_count e n = ap (λ (x : Answer). count_at x n) e

pub told_apart : {A B : Type 0} (numbers : A → B) (back : B → A) → ((x : A) → back (numbers x) ≡ x) → (x y : A) → numbers x ≡ numbers y → x ≡ y
told_apart numbers back read x y e = sym (read x) ∙ ap back e ∙ read y
