-- The answer none or a moment: what a node's word codes, when an ect is past a moment, and a start raised to one.
use mathlib.Core.Path.{◌≡◌, refl, sym, ap, ◌∙◌}
use mathlib.Core.Bool.{Bool, true, false}
use mathlib.Core.Logic.{◌⊎◌, inl, inr}
use mathlib.Core.Option.{Option, some, none}
use Prim.Native.Nat.{ℕ, zero, suc, ◌≤◌, ◌<◌}
use native.Mathlib.Omega.{arith}
use native.Mathlib.Decide.{dec_le}
use lib.Dec.{ltb}
use borrow.Author.Tests.{ltb-true, ltb-false, lt-ltb, le-ltb}
use Rattle.integers.proofs.Bools.{bool, clash}
use Rattle.trees.specs.Ects.{decoded, exceeds, raised_to}

-- The coding -------------------------------------------------------------------------------------------------------------------

pub decoded_none : (v : ℕ) → v ≡ 0 → decoded v ≡ none
unfolding decoded
decoded_none v z = rw z refl

pub decoded_some : (v : ℕ) → 1 ≤ v → decoded v ≡ some v
unfolding decoded
decoded_some zero q = absurd (omega arith)
decoded_some (suc v) q = refl

-- a word is past the same moments as the ect that it codes
pub exceeds_decoded : (v m : ℕ) → exceeds (decoded v) m ≡ ltb m v
unfolding decoded
exceeds_decoded zero m = sym (le-ltb m 0 (omega arith))
exceeds_decoded (suc v) m = refl

-- Past a moment ----------------------------------------------------------------------------------------------------------------

abbrev is_some : Option ℕ → Bool
is_some none = false
is_some (some v) = true

abbrev the_moment : ℕ → Option ℕ → ℕ
the_moment v none = v
the_moment v (some w) = w

-- an answer is not both
pub some_or_none : {X : Type 0} {o : Option ℕ} {v : ℕ} → o ≡ some v → o ≡ none → X
some_or_none z y = clash (ap is_some (sym y ∙ z)) refl

pub one_moment : {o : Option ℕ} {v w : ℕ} → o ≡ some v → o ≡ some w → v ≡ w
one_moment {v = v} z y = ap (the_moment v) (sym z ∙ y)

-- the word of a moment is the moment
pub decoded_word : (w v : ℕ) → decoded w ≡ some v → w ≡ v
unfolding decoded
decoded_word zero v z = some_or_none z refl
decoded_word (suc w) v z = one_moment refl z

-- an ect past a moment is that of some task
pub exceeds_yes : (o : Option ℕ) (m : ℕ) → exceeds o m ≡ true → (v : ℕ) × (o ≡ some v) × (m < v)
exceeds_yes none m y = clash y refl
exceeds_yes (some v) m y = (v, refl, ltb-true m v y)

pub some_exceeds : (o : Option ℕ) (v m : ℕ) → o ≡ some v → m < v → exceeds o m ≡ true
some_exceeds o v m z q = rw z (lt-ltb m v q)

pub some_past : (o : Option ℕ) (v m : ℕ) → o ≡ some v → exceeds o m ≡ true → m < v
some_past o v m z y = ltb-true m v (ap (λ (u : Option ℕ). exceeds u m) (sym z) ∙ y)

pub some_within : (o : Option ℕ) (v m : ℕ) → o ≡ some v → exceeds o m ≡ false → v ≤ m
some_within o v m z y = elim (dec_le v m) [ yes q ↦ q | no q ↦ clash (some_exceeds o v m z (omega arith)) y ]

-- past a moment or not, and which it is where it is
pub past_or_not : (o : Option ℕ) (m : ℕ) → (exceeds o m ≡ false) ⊎ ((v : ℕ) × (o ≡ some v) × (ltb m v ≡ true))
past_or_not none m = inl refl
past_or_not (some v) m = elim (bool (ltb m v)) [ inl y ↦ inr (v, refl, y) | inr y ↦ inl y ]

-- Raising a start --------------------------------------------------------------------------------------------------------------

pub raised_from : (start : ℕ) (o : Option ℕ) → start ≤ raised_to start o
raised_from start none = omega arith
raised_from start (some v) = omega arith

pub raised_bound : (start : ℕ) (o : Option ℕ) (v : ℕ) → o ≡ some v → v ≤ raised_to start o
raised_bound start o v z = rw z (omega arith)

-- to the ect exactly where that is later
pub raised_up : (start : ℕ) (o : Option ℕ) (v : ℕ) → o ≡ some v → start < v → raised_to start o ≡ v
raised_up start o v z q = rw z (omega arith)

pub raised_not : (start : ℕ) (o : Option ℕ) → exceeds o start ≡ false → raised_to start o ≡ start
raised_not start none y = refl
raised_not start (some v) y = omega (arith, ltb-false start v y)

-- past a moment that the start is not past, exactly where the ect is
pub past_by_bound : (start m : ℕ) (o : Option ℕ) → start ≤ m → m < raised_to start o → exceeds o m ≡ true
past_by_bound start m none q r = absurd (omega arith)
past_by_bound start m (some v) q r = lt-ltb m v (omega arith)

pub within_bound : (start m : ℕ) (o : Option ℕ) → raised_to start o ≤ m → exceeds o m ≡ false
within_bound start m none r = refl
within_bound start m (some v) r = le-ltb m v (omega arith)

-- a raised start is not below the start
pub raised_least : (start : ℕ) (o : Option ℕ) → start ≤ raised_to start o
raised_least = raised_from

-- raised from 0, it is the word that codes the ect
pub raised_decoded : (v : ℕ) → raised_to 0 (decoded v) ≡ v
unfolding decoded
raised_decoded zero = refl
raised_decoded (suc v) = omega arith

-- raised at all, it is the ect
pub raised_some : (start b : ℕ) (o : Option ℕ) → b ≡ raised_to start o → start < b → o ≡ some b
raised_some start b none z q = absurd (omega arith)
raised_some start b (some v) z q = let w : v ≡ b = omega arith in ap some w
