-- A domain and its parts.
use mathlib.Core.Path.{◌≡◌, refl, sym, ap, ◌∙◌, subst}
use mathlib.Core.Logic.{⊎_elim}
use mathlib.Core.Bool.{true}
use mathlib.Core.List.{List}
use Prim.Native.Nat.{ℕ, ◌+◌, ◌-◌, ◌≤◌}
use native.Mathlib.Omega.{arith}
use lib.IntN.{ℤ}
use lib.ListN.{length, take, drop, length-take, length-drop}
use lib.Seq.{length-take-le}
use Rattle.integers.specs.Limits.{HOLES}
use Rattle.holes.specs.Holes.{below, above, inserted, rank, padded}
use Rattle.integers.specs.WholeNumbers.{has}
use Rattle.holes.proofs.Ascending.{drop_rank, rank_le, take_rank, inserted_length, inserted_in, old_inserted, inserted_ascends, same_members}
use Rattle.holes.proofs.PaddedArrays.{padded_length}
use Rattle.checking.specs.declared.int_ext.IntExt.{IntExt}
use Rattle.checking.specs.declared.domain.Domain.{Domain}
use Rattle.checking.specs.Domains.{Tight, holes_of, domain_of}

-- a domain from equal parts
pub parts : (lower upper : IntExt) {h k : List ℤ} {m n : ℕ} → h ≡ k → m ≡ n
    → ◌≡◌ {A = Domain} (record { lower_bound = lower; upper_bound = upper; holes = h; count = m }) (record { lower_bound = lower; upper_bound = upper; holes = k; count = n })
parts lower upper p q = λ i. record { lower_bound = lower; upper_bound = upper; holes = p i; count = q i }

module _ (d : Domain) (t : Tight d) where
  short : length (holes_of d) ≤ HOLES
  short = simp length-take (omega (arith, t.few))

  pub size : length d.holes ≡ HOLES
  size = ap length t.unused ∙ padded_length (holes_of d) short

  pub used : length (holes_of d) ≡ d.count
  used = length-take-le d.count d.holes (omega (arith, t.few, size))

  -- a domain is made of its parts
  pub whole : domain_of d.lower_bound d.upper_bound (holes_of d) ≡ d
  whole = parts d.lower_bound d.upper_bound (sym t.unused) used

  -- the holes above b, and below b, as code cuts them off at the place of b, and how many they are
  module _ (b : ℤ) {p : ℕ} (place : p ≡ rank b (holes_of d)) where
    pub cut_above : (has (holes_of d) b ≡ true → ⊥) → (drop p (holes_of d) ≡ above b (holes_of d)) × (d.count - p ≡ length (above b (holes_of d)))
    cut_above free =
        let e = ap (λ (n : ℕ). drop n (holes_of d)) place ∙ drop_rank b (holes_of d) t.order free in
        (e, ap (λ (n : ℕ). n - p) (sym used) ∙ sym (length-drop p (holes_of d)) ∙ ap length e)

    pub cut_below : (take p (holes_of d) ≡ below b (holes_of d)) × (p ≡ length (below b (holes_of d)))
    cut_below =
        let e = ap (λ (n : ℕ). take n (holes_of d)) place ∙ take_rank b (holes_of d) t.order in
        (e, sym (length-take-le p (holes_of d) (omega (arith, place, rank_le b (holes_of d)))) ∙ ap length e)

  module _ (lower upper : IntExt) (b : ℤ) where
    pub put_in : (has (holes_of d) b ≡ true → ⊥)
        → ◌≡◌ {A = Domain} (record { lower_bound = lower; upper_bound = upper; holes = padded (inserted b (holes_of d)); count = d.count + 1 }) (domain_of lower upper (inserted b (holes_of d)))
    put_in new = parts lower upper refl (sym (inserted_length b (holes_of d) t.order new ∙ ap (λ (n : ℕ). n + 1) used))

  -- a hole that is there already
  pub put_again : (v : ℤ) → has (holes_of d) v ≡ true → domain_of d.lower_bound d.upper_bound (inserted v (holes_of d)) ≡ d
  put_again v old =
      ap (domain_of d.lower_bound d.upper_bound)
      (same_members (inserted v (holes_of d)) (holes_of d) (inserted_ascends v (holes_of d) t.order) t.order
      (λ x y. ⊎_elim (λ e. subst (λ (z : ℤ). has (holes_of d) z ≡ true) e old) (λ y. y) (inserted_in v (holes_of d) x y))
      (old_inserted v (holes_of d)))
      ∙ whole
