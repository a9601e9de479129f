-- Mirrored time and the bounds that atoms leave: mirrored atoms admit the mirrored values, and their bounds are the mirrored ones.
use mathlib.Core.Path.{◌≡◌, refl, sym, subst}
use mathlib.Core.List.{List, [], ◌∷◌}
use mathlib.Core.Logic.{◌↔◌}
use mathlib.Core.Option.{Option, some, none}
use Prim.Native.Nat.{ℕ, ◌+◌, ◌≤◌, ◌<◌}
use native.Mathlib.Omega.{arith}
use lib.IntN.{ℤ}
use Rattle.integers.specs.Limits.{DURATIONS, VALUE, HOLES}
use Rattle.integers.specs.Moments.{moment, Above, zero_at}
use Rattle.integers.proofs.Ints.{ints, up, dn}
use Rattle.integers.proofs.MomentSums.{above_show, at_moment}
use Rattle.scheduling.specs.Scheduling.{whole, Largest, Least, Atom, Allows, Admits}
use Rattle.scheduling.specs.MirroredTime.{start_mirrored, mirror_atoms}
use Rattle.scheduling.proofs.MirroredTime.{at_mirror, start_twice, start_falls, largest_least, least_largest, atoms_twice, meets_mirrored}
use Rattle.trees.specs.NodeBounds.{LATEST}
use Rattle.integers.specs.WholeNumbers.{Within}
use Rattle.checker.specs.StartBounds.{mirror_bound}
use Rattle.checker.proofs.Formulas.{Reads}

-- Atoms ------------------------------------------------------------------------------------------------------------------------

module _ (d : ℕ → ℕ) where
  admits→ : (atoms : List Atom) (k : ℕ) (z : ℤ) → Admits atoms k z → Admits (mirror_atoms d atoms) k (start_mirrored (d k) z)
  admits→ [] k z h = tt
  admits→ (a ∷ rest) k z h = (
    λ e. (meets_mirrored d (λ _. start_mirrored (d k) z) a).0 (subst (λ (j : ℕ). Allows a (start_mirrored (d j) (start_mirrored (d k) z))) (sym e) (subst (Allows a) (sym (start_twice (d k) z)) (h.0 e))),
    admits→ rest k z h.1,
  )

  admits← : (atoms : List Atom) (k : ℕ) (z : ℤ) → Admits (mirror_atoms d atoms) k z → Admits atoms k (start_mirrored (d k) z)
  admits← atoms k z h = subst (λ (l : List Atom). Admits l k (start_mirrored (d k) z)) (atoms_twice d atoms) (admits→ (mirror_atoms d atoms) k z h)

  -- The greatest value that the atoms admit is, mirrored, the least that the mirrored atoms admit, and the other way round.
  least_mirrored : (atoms : List Atom) (k : ℕ) (v : ℤ) → Largest whole (Admits atoms k) v ↔ Least whole (Admits (mirror_atoms d atoms) k) (start_mirrored (d k) v)
  least_mirrored atoms k = largest_least (start_mirrored (d k)) (start_twice (d k)) (start_falls (d k)) (Admits atoms k) (Admits (mirror_atoms d atoms) k) (admits→ atoms k) (admits← atoms k)

  greatest_mirrored : (atoms : List Atom) (k : ℕ) (v : ℤ) → Least whole (Admits atoms k) v ↔ Largest whole (Admits (mirror_atoms d atoms) k) (start_mirrored (d k) v)
  greatest_mirrored atoms k = least_largest (start_mirrored (d k)) (start_twice (d k)) (start_falls (d k)) (Admits (mirror_atoms d atoms) k) (Admits atoms k) (admits← atoms k) (admits→ atoms k)

-- Bounds -----------------------------------------------------------------------------------------------------------------------

-- a bound of an atom's value, past a chain of holes, and its mirrored one as a moment
pub record MirroredMoment (p : ℕ) (z : ℤ) : Type 0 where
  pub above : Above zero_at (start_mirrored p z)
  pub is : moment zero_at (start_mirrored p z) + (moment zero_at z + p) ≡ 4294967296
  pub fits : 1 ≤ p → moment zero_at (start_mirrored p z) ≤ LATEST

pub mirrored_moment_is : (p : ℕ) (z : ℤ) → p ≤ DURATIONS → Within (VALUE + 1 + HOLES) z → MirroredMoment p z
unfolding up dn
mirrored_moment_is p z h w =
    let here : Above zero_at z = above_show zero_at z (omega (ints, w.low)) in
    let there : Above zero_at (start_mirrored p z) = above_show zero_at (start_mirrored p z) (omega (ints, w.high, at_mirror p z)) in
    record {
      above = there;
      is = omega (ints, at_mirror p z, at_moment zero_at z here, at_moment zero_at (start_mirrored p z) there);
      fits = λ q. omega (ints, w.low, at_mirror p z, at_moment zero_at (start_mirrored p z) there);
    }

pub bound_some : (p : ℕ) (o : Option ℤ) (u : ℤ) → mirror_bound p o ≡ some u → (z : ℤ) × (o ≡ some z) × (start_mirrored p z ≡ u)
bound_some p none u e = absurd (let z : ◌≡◌ {A = ℕ} 0 1 = cc in omega arith)
bound_some p (some z) u e = (z, refl, cc)

bound_none : (p : ℕ) (o : Option ℤ) → mirror_bound p o ≡ none → o ≡ none
bound_none p none e = refl
bound_none p (some z) e = absurd (let z : ◌≡◌ {A = ℕ} 0 1 = cc in omega arith)

-- The bounds that the atoms leave are, mirrored, those that the mirrored atoms leave.
pub mirrored_reads : (n : ℕ) (d : ℕ → ℕ) (atoms : List Atom) (lower upper : ℕ → Option ℤ) → ((k : ℕ) → k < n → (1 ≤ d k) × (d k ≤ DURATIONS))
    → ((k : ℕ) → k < n → (z : ℤ) → upper k ≡ some z → Within (VALUE + 1 + HOLES) z) → Reads n atoms lower upper
    → Reads n (mirror_atoms d atoms) (λ k. mirror_bound (d k) (upper k)) (λ k. mirror_bound (d k) (lower k))
mirrored_reads n d atoms lower upper lasts near r = record {
  least = λ k q u e. let (z, o, same) = bound_some (d k) (upper k) u e in subst (Least whole (Admits (mirror_atoms d atoms) k)) same ((least_mirrored d atoms k z).0 (r.greatest k q z o));
  no_least = λ k q e u l. r.no_greatest k q (bound_none (d k) (upper k) e) (start_mirrored (d k) u)
      ((least_mirrored d atoms k (start_mirrored (d k) u)).1 (subst (Least whole (Admits (mirror_atoms d atoms) k)) (sym (start_twice (d k) u)) l));
  greatest = λ k q v e. let (z, o, same) = bound_some (d k) (lower k) v e in subst (Largest whole (Admits (mirror_atoms d atoms) k)) same ((greatest_mirrored d atoms k z).0 (r.least k q z o));
  no_greatest = λ k q e v l. r.no_least k q (bound_none (d k) (lower k) e) (start_mirrored (d k) v)
      ((greatest_mirrored d atoms k (start_mirrored (d k) v)).1 (subst (Largest whole (Admits (mirror_atoms d atoms) k)) (sym (start_twice (d k) v)) l));
  above = λ k q u e. let (z, o, same) = bound_some (d k) (upper k) u e in subst (Above zero_at) same (mirrored_moment_is (d k) z (lasts k q).1 (near k q z o)).above;
  fits = λ k q u e.
      let (z, o, same) = bound_some (d k) (upper k) u e in
      let m = mirrored_moment_is (d k) z (lasts k q).1 (near k q z o) in
      subst (λ (x : ℤ). moment zero_at x ≤ 4294967295) same (omega (arith, m.fits (lasts k q).0));
}
