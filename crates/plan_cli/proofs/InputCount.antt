-- The count of an input.
use mathlib.Core.Path.{◌≡◌, refl, sym, ap, subst, ◌∙◌}
use mathlib.Core.Bool.{true, false}
use mathlib.Core.List.{List, [], ◌∷◌}
use mathlib.Core.Logic.{◌⊎◌, inl, inr}
use mathlib.Core.Option.{Option, none, some}
use Prim.Native.Nat.{ℕ, ◌+◌, ◌*◌, ◌<◌}
use native.Mathlib.Omega.{arith}
use Rattle.std.proofs.Common.{None, Some, Result, Ok, Err, OkIff, SFits}
use Rattle.std.specs.Int.{FitsUnsignedBits}
use Rattle.std.specs.Result.{result_ok}
use mir.Syntax.{w32}
use mir.Val.{to_z, of_z}
use lib.Dec.{eqb}
use lib.IntN.{ℤ, pos, negsuc, nat_abs}
use lib.Signed.{◌≤ℤ◌}
use lib.ListN.{length, get_or}
use borrow.Author.Tests.{eq-eqb, ne_eqb, eqb-true}
use Rattle.integers.proofs.Bools.{bool, clash}
use Rattle.integers.specs.Moments.{zero_at}
use Rattle.integers.proofs.Ints.{ints, up, dn}
use Rattle.text.specs.Scanner.{gathered}
use Rattle.text.specs.declared.reading.Numbers.{Numbers}
use Rattle.text.proofs.ScannedNumbers.{kept_at}
use Rattle.plan_cli.specs.InputCount.{first_natural, count_in}
use Rattle.post_words.proofs.TriedWords.{natural, negative}

non_negative : (n : ℕ) → pos 0 ≤ℤ pos n
unfolding up dn
non_negative n = omega ints

not_negative : (n : ℕ) → pos 0 ≤ℤ negsuc n → ⊥
unfolding up dn
not_negative n h = omega ints

-- a word as it comes back from its bits
abbrev again : ℤ → ℤ
again x = to_z w32 (of_z w32 x)

-- ---- the first number
module _ (ns : Numbers) where
  first_is : (x : ℤ) (xs : List ℤ) → ns ≡ gathered (some (x ∷ xs)) → get_or ns.kept 0 (pos 0) ≡ x
  first_is x xs h = ap (λ (m : Numbers). get_or m.kept 0 (pos 0)) h ∙ kept_at (x ∷ xs) 0 (omega arith)

  pub invalid : (xs : Option (List ℤ)) → ns ≡ gathered xs → ns.valid ≡ false → None ≡ first_natural xs
  unfolding first_natural
  invalid none h v = refl
  invalid (some xs) h v = clash (ap (λ (m : Numbers). m.valid) h) v

  pub nothing : (xs : Option (List ℤ)) → ns ≡ gathered xs → ns.count ≡ 0 → None ≡ first_natural xs
  unfolding first_natural
  nothing none h v = refl
  nothing (some []) h v = refl
  nothing (some (x ∷ xs)) h v = absurd (omega (arith, ap (λ (m : Numbers). m.count) h))

  -- what `usize::try_from` makes of it
  pub tried : {E : Type 0} (r : Result ℕ E) → SFits w32 (get_or ns.kept 0 (pos 0)) → OkIff r (FitsUnsignedBits 64 (again (get_or ns.kept 0 (pos 0)))) (nat_abs (again (get_or ns.kept 0 (pos 0))))
      → ns.valid ≡ true → (ns.count ≡ 0 → ⊥) → (xs : Option (List ℤ)) → ns ≡ gathered xs → result_ok r ≡ first_natural xs
  unfolding first_natural
  tried {E} r f i v c none h = clash v (ap (λ (m : Numbers). m.valid) h)
  tried {E} r f i v c (some []) h = absurd (c (ap (λ (m : Numbers). m.count) h))
  tried {E} (Ok m) f i v c (some (pos n ∷ xs)) h =
      let q = (natural {E = E} _ (Ok m) f i m refl).1 in
      let e : m ≡ n = q ∙ ap nat_abs (first_is (pos n) xs h) in
      ap Some e
  tried {E} (Ok m) f i v c (some (negsuc n ∷ xs)) h = absurd (not_negative n (subst (λ (x : ℤ). pos 0 ≤ℤ x) (first_is (negsuc n) xs h) (natural {E = E} _ (Ok m) f i m refl).0))
  tried {E} (Err w) f i v c (some (pos n ∷ xs)) h = absurd (negative {E = E} _ (Err w) f i refl (subst (λ (x : ℤ). pos 0 ≤ℤ x) (sym (first_is (pos n) xs h)) (non_negative n)))
  tried {E} (Err w) f i v c (some (negsuc n ∷ xs)) h = refl

-- ---- the count, by the first number
module _ (ns : Numbers) (n : ℕ) (few : n < zero_at) where
  pub other : (xs : Option (List ℤ)) → ns ≡ gathered xs → Some n ≡ first_natural xs → (ns.count ≡ 1 + 3 * n → ⊥) → None ≡ count_in xs
  unfolding first_natural count_in
  other none h f v = refl
  other (some []) h f v = refl
  other (some (negsuc m ∷ xs)) h f v = refl
  other (some (pos m ∷ xs)) h f v =
      let q : n ≡ m = cc in
      let k = ap (λ (m : Numbers). m.count) h in
      rw (ne_eqb (length xs) (3 * m) (λ z. v (omega arith)), count_in)

  pub right : (xs : Option (List ℤ)) → ns ≡ gathered xs → Some n ≡ first_natural xs → ns.count ≡ 1 + 3 * n → Some n ≡ count_in xs
  unfolding first_natural count_in
  right none h f v = cc
  right (some []) h f v = cc
  right (some (negsuc m ∷ xs)) h f v = cc
  right (some (pos m ∷ xs)) h f v =
      let q : n ≡ m = cc in
      let k = ap (λ (m : Numbers). m.count) h in
      rw (eq-eqb (length xs) (3 * m) (omega arith), count_in) f

-- no first number, no count
pub uncounted : (xs : Option (List ℤ)) → None ≡ first_natural xs → None ≡ count_in xs
unfolding first_natural count_in
uncounted none h = refl
uncounted (some []) h = refl
uncounted (some (negsuc m ∷ xs)) h = refl
uncounted (some (pos m ∷ xs)) h = cc

-- ---- what the count says of the input
-- A count of n, and n triples.
pub record CountedTriples (xs : Option (List ℤ)) (n : ℕ) : Type 0 where
  pub rest : List ℤ
  pub whole : xs ≡ some (pos n ∷ rest)
  pub long : length rest ≡ 3 * n

pub listed : (xs : Option (List ℤ)) (n : ℕ) → Some n ≡ count_in xs → CountedTriples xs n
unfolding count_in
listed none n h = cc
listed (some []) n h = cc
listed (some (negsuc m ∷ xs)) n h = cc
listed (some (pos m ∷ xs)) n h = by (bool (eqb (length xs) (3 * m)))
  where
    by : (eqb (length xs) (3 * m) ≡ true) ⊎ (eqb (length xs) (3 * m) ≡ false) → CountedTriples (some (pos m ∷ xs)) n
    by (inl z) =
        let e : Some n ≡ Some m = h ∙ rw (z, count_in) in
        let q : n ≡ m = cc in
        record { rest = xs; whole = ap (λ (k : ℕ). some (pos k ∷ xs)) (sym q); long = omega (arith, eqb-true (length xs) (3 * m) z) }
    by (inr z) = let e : Some n ≡ None = h ∙ rw (z, count_in) in cc
