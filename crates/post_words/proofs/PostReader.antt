-- The post reader's number, and the stretch that it goes with.
use mathlib.Core.Path.{◌≡◌, refl, ap, ap₂, ◌∙◌}
use mathlib.Core.Bool.{true, false}
use mathlib.Core.Logic.{◌↔◌, ◌⊎◌, inl, inr}
use mathlib.Core.List.{List, [], ◌∷◌}
use Prim.Native.Nat.{ℕ, ◌+◌, ◌*◌, ◌≤◌, ◌<◌}
use lib.Dec.{eqb}
use lib.IntN.{ℤ, pos, nat_abs}
use lib.ListN.{length, take, drop}
use borrow.Author.Tests.{ltb-true, leb-true, lt-ltb, le-leb, eq-eqb, ne_eqb}
use Rattle.integers.specs.Refused as refused
use Rattle.integers.specs.Tests.{Test, refusal, AllPassed}
use Rattle.integers.proofs.Bools.{bool}
use Rattle.integers.proofs.Ints.{ints, up, dn, le_z_true, le_le_z}
use Rattle.integers.proofs.Tests.{accepts, accepted, refusal_none, refusal_next, refusal_here}
use Rattle.post_words.specs.Posts.{first_atom_of, count_of_atoms, stretch_start, stretch_length, post_tests, number_of_post, reason_words, Readable}

-- every test of a list has the same number
abbrev AllNumbered : ℕ → List Test → Type 0
AllNumbered n [] = Unit {0}
AllNumbered n (t ∷ ts) = (t.number ≡ n) × AllNumbered n ts

-- which then refuses, if any does
one_number : (ts : List Test) (n : ℕ) → AllNumbered n ts → (refusal ts ≡ 0) ⊎ (refusal ts ≡ n)
one_number [] n h = inl refusal_none
one_number (t ∷ ts) n h = elim (bool t.passed) [
  | inl y ↦ rw (refusal_next t ts y) (one_number ts n h.1)
  | inr y ↦ inr (refusal_here t ts y ∙ h.0)
]

module _ (posts atoms : List ℤ) (count index : ℕ) where
  -- 0 is for the posts that can be read
  pub readable : number_of_post posts atoms count index ≡ 0 ↔ Readable posts atoms count index
  readable = (λ h. facts (accepted (post_tests posts atoms count index) refl h), λ r. accepts (post_tests posts atoms count index) (tests r))
    where
      facts : AllPassed (post_tests posts atoms count index) → Readable posts atoms count index
      facts (a, (b, (f, (c, (s, _))))) = record { counted = ltb-true _ _ a; inside = leb-true _ _ b; from = le_z_true _ _ f; many = le_z_true _ _ c; stretch = leb-true _ _ s }

      tests : Readable posts atoms count index → AllPassed (post_tests posts atoms count index)
      tests r = (lt-ltb _ _ r.counted, (le-leb _ _ r.inside, (le_le_z _ _ r.from, (le_le_z _ _ r.many, (le-leb _ _ r.stretch, tt)))))

  -- and 11 for the others
  pub refused_by_post : (Readable posts atoms count index → ⊥) → number_of_post posts atoms count index ≡ refused.POST
  refused_by_post h = elim (one_number (post_tests posts atoms count index) refused.POST (refl, (refl, (refl, (refl, (refl, tt)))))) [ inl z ↦ absurd (h (readable.0 z)) | inr e ↦ e ]

  -- the stretch of a post that can be read, and none of one that cannot
  pub reason_there : number_of_post posts atoms count index ≡ 0 → reason_words posts atoms count index ≡ take (stretch_length posts index) (drop (stretch_start posts index) atoms)
  unfolding reason_words
  reason_there h = let y : eqb (number_of_post posts atoms count index) 0 ≡ true = eq-eqb (number_of_post posts atoms count index) 0 h in rw (y, reason_words)

  pub reason_none : (number_of_post posts atoms count index ≡ 0 → ⊥) → reason_words posts atoms count index ≡ []
  unfolding reason_words
  reason_none h = let y : eqb (number_of_post posts atoms count index) 0 ≡ false = ne_eqb (number_of_post posts atoms count index) 0 h in rw (y, reason_words)

  -- a post whose words are a stretch inside the slices is read, and the stretch is given
  pub read_at : (f c : ℕ) → first_atom_of posts index ≡ pos f → count_of_atoms posts index ≡ pos c → index < count → 4 * index + 4 ≤ length posts → 3 * f + 3 * c ≤ length atoms
      → (number_of_post posts atoms count index ≡ 0) × (reason_words posts atoms count index ≡ take (3 * c) (drop (3 * f) atoms))
  unfolding up dn
  read_at f c first many counted inside stretch =
      let z : number_of_post posts atoms count index ≡ 0 =
      readable.1 (record { counted = counted; inside = inside; from = omega (ints, first); many = omega (ints, many); stretch = rw (first, many) stretch }) in
      (z, reason_there z ∙ ap₂ (λ (u v : ℕ). take (3 * u) (drop (3 * v) atoms)) (ap nat_abs many) (ap nat_abs first))
