-- A whole number meets the negation of an atom exactly where it does not meet the atom.
use mathlib.Core.Logic.{inl, inr, ◌↔◌}
use Prim.Native.Nat.{ℕ, zero, suc}
use lib.IntN.{ℤ, pos, negsuc}
use Rattle.integers.proofs.Ints.{up, dn, ints, sumℤ, equalℤ, ≤ℤ-cases}
use Rattle.scheduling.specs.Scheduling.{Atom, Compares, Allows, negated_kind, negated_value, negation}

both : (kind : ℕ) (v z : ℤ) → Compares (negated_kind kind) (negated_value kind v) z → Compares kind v z → ⊥
unfolding up dn
both zero v z h k = omega (ints, sumℤ v (negsuc 0))
both (suc zero) v z h k = omega (ints, sumℤ v (pos 1))
both (suc (suc zero)) v z h k = h k
both (suc (suc (suc n))) v z h k = k h

either : (kind : ℕ) (v z : ℤ) → (Compares kind v z → ⊥) → Compares (negated_kind kind) (negated_value kind v) z
unfolding up dn
either zero v z h = elim (≤ℤ-cases v z) [ inl q ↦ absurd (h q) | inr q ↦ omega (ints, q, sumℤ v (negsuc 0)) ]
either (suc zero) v z h = elim (≤ℤ-cases z v) [ inl q ↦ absurd (h q) | inr q ↦ omega (ints, q, sumℤ v (pos 1)) ]
either (suc (suc zero)) v z h = h
either (suc (suc (suc n))) v z h = elim (equalℤ z v) [ inl q ↦ q | inr q ↦ absurd (h q) ]

pub negation_is : (a : Atom) (z : ℤ) → Allows (negation a) z ↔ (Allows a z → ⊥)
negation_is a z = (both a.kind a.value z, either a.kind a.value z)
