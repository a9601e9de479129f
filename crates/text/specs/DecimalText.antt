-- Numbers as decimal text, and bytes put into a buffer.
use Rattle.std.specs.Prelude.{◌≡◌, true, false, List, [], ◌∷◌, ◌++◌, ℕ, zero, suc, ◌+◌, ◌/◌, ◌%◌, ltb, ℤ, pos, negsuc, length}
use Rattle.std.proofs.lemmas.List.Edits.{sets}

-- the digits of n: where n has more than one, those of a tenth of n, and then the last. k bounds the number of steps
unfoldable pub figures : ℕ → ℕ → List ℕ
figures zero n = (48 + n) ∷ []
figures (suc k) n = elim (ltb n 10) [ true ↦ (48 + n) ∷ [] | false ↦ figures k (n / 10) ++ (48 + n % 10) ∷ [] ]

-- all digits of n, the first of which is no 0 unless n is 0; n is bound enough
unfoldable pub natural : ℕ → List ℕ
natural n = figures n n

-- a whole number: a minus sign before the digits of one below zero
unfoldable pub decimal : ℤ → List ℕ
decimal (pos n) = natural n
decimal (negsuc n) = 45 ∷ natural (suc n)

-- `bytes` are in the buffer from `at` on, the rest is unchanged, and `next` is the place after them
pub record Puts (before after : List ℕ) (at : ℕ) (bytes : List ℕ) (next : ℕ) : Type 0 where
  pub text : after ≡ sets before at bytes
  pub end : next ≡ at + length bytes
