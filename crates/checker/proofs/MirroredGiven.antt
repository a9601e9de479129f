-- Mirrored time and what a check takes for given: it is mirrored atom by atom, the negated consequent with the premises, and mirrored starts contradict where the starts do.
use mathlib.Core.Path.{◌≡◌, refl, sym, ap, subst, ◌∙◌}
use mathlib.Core.List.{List, [], ◌∷◌, ◌++◌, map-append}
use mathlib.Core.Logic.{inl, inr}
use mathlib.Core.Option.{Option, some, none}
use Prim.Native.Nat.{ℕ, zero, suc, ◌<◌}
use lib.IntN.{ℤ, pos, negsuc, ◌+ℤ◌}
use lib.Signed.{◌≤ℤ◌}
use Rattle.integers.proofs.Ints.{ints, up, dn, sumℤ}
use Rattle.scheduling.specs.Scheduling.{whole, Tasks, NoOverlap, Atom, Allows, Meets, Every, negation, negated_kind, negated_value, given, Unmet, Contradicts}
use Rattle.scheduling.specs.MirroredTime.{start_mirrored, mirror_kind, mirror_atom, mirror_atoms}
use Rattle.scheduling.proofs.MirroredTime.{at_mirror, start_twice, meets_mirrored}
use Rattle.checker.specs.MirroredChecks.{mirror_if_any}

-- Atoms ------------------------------------------------------------------------------------------------------------------------

negated_kind_is : (k : ℕ) → negated_kind (mirror_kind k) ≡ mirror_kind (negated_kind k)
negated_kind_is zero = refl
negated_kind_is (suc zero) = refl
negated_kind_is (suc (suc zero)) = refl
negated_kind_is (suc (suc (suc k))) = refl

negated_value_is : (p k : ℕ) (v : ℤ) → negated_value (mirror_kind k) (start_mirrored p v) ≡ start_mirrored p (negated_value k v)
unfolding up dn
negated_value_is p zero v = omega (ints, at_mirror p v, at_mirror p (v +ℤ negsuc 0), sumℤ (start_mirrored p v) (pos 1), sumℤ v (negsuc 0))
negated_value_is p (suc zero) v = omega (ints, at_mirror p v, at_mirror p (v +ℤ pos 1), sumℤ (start_mirrored p v) (negsuc 0), sumℤ v (pos 1))
negated_value_is p (suc (suc zero)) v = refl
negated_value_is p (suc (suc (suc k))) v = refl

module _ (d : ℕ → ℕ) where
  negation_mirrored : (a : Atom) → negation (mirror_atom d a) ≡ mirror_atom d (negation a)
  negation_mirrored a = λ i. record { variable = a.variable; kind = negated_kind_is a.kind i; value = negated_value_is (d a.variable) a.kind a.value i }

  -- what is given in mirrored time is what is given, mirrored
  pub given_mirrored : (premises : List Atom) (c : Option Atom) → given (mirror_atoms d premises) (mirror_if_any d c) ≡ mirror_atoms d (given premises c)
  given_mirrored premises none = refl
  given_mirrored premises (some a) = ap (λ (x : Atom). mirror_atoms d premises ++ (x ∷ [])) (negation_mirrored a) ∙ sym (map-append (mirror_atom d) premises (negation a ∷ []))

-- Contradictions ---------------------------------------------------------------------------------------------------------------

module _ (J : Tasks whole) (s : ℕ → ℤ) where
  abbrev d : ℕ → ℕ
  d = J.duration

  abbrev s' : ℕ → ℤ
  s' k = start_mirrored (d k) (s k)

  -- where j ends before k starts, k mirrored ends before j starts
  after : (j k : ℕ) → (s j +ℤ pos (d j)) ≤ℤ s k → (s' k +ℤ pos (d k)) ≤ℤ s' j
  unfolding up dn
  after j k y = omega (ints, at_mirror (d k) (s k), at_mirror (d j) (s j), sumℤ (s j) (pos (d j)), sumℤ (s' k) (pos (d k)))

  apart_mirrored : NoOverlap J s → NoOverlap J s'
  apart_mirrored h j k p q ne = elim (h j k p q ne) [ inl y ↦ inr (after j k y) | inr y ↦ inl (after k j y) ]

  meets_there : (a : Atom) → Meets s a → Meets s' (mirror_atom d a)
  meets_there a m = (meets_mirrored d s' a).0 (subst (Allows a) (sym (start_twice (d a.variable) (s a.variable))) m)

  premises_there : (premises : List Atom) → Every (λ a. a.variable < J.count → Meets s a) premises → Every (λ a. a.variable < J.count → Meets s' a) (mirror_atoms d premises)
  premises_there [] h = tt
  premises_there (a ∷ rest) h = (λ q. meets_there a (h.0 q), premises_there rest h.1)

  unmet_there : (c : Option Atom) → Unmet s c → Unmet s' (mirror_if_any d c)
  unmet_there none h = tt
  unmet_there (some a) h = λ m. h (subst (Allows a) (start_twice (d a.variable) (s a.variable)) ((meets_mirrored d s' a).1 m))

  pub contradicts_mirrored : (premises : List Atom) (c : Option Atom) → Contradicts J premises c s → Contradicts J (mirror_atoms d premises) (mirror_if_any d c) s'
  contradicts_mirrored premises c h = record {
    apart = apart_mirrored h.apart;
    premises_met = premises_there premises h.premises_met;
    consequent_not = unmet_there c h.consequent_not;
  }
