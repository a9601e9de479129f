-- The places of an array of holes: the holes at the front, and 0 past them.
use mathlib.Core.Path.{◌≡◌, refl, sym, ap, ◌∙◌, subst}
use mathlib.Core.Bool.{true, ◌&&◌}
use mathlib.Core.List.{List, [], ◌∷◌, ◌++◌}
use Prim.Native.Nat.{ℕ, zero, suc, ◌+◌, ◌-◌, ◌≤◌, ◌<◌}
use native.Mathlib.Omega.{arith}
use native.Mathlib.Numerals.{add-one}
use lib.IntN.{ℤ, pos}
use lib.ListN.{length, get_or, set, take, drop, replicate, length-append, length-replicate}
use Rattle.std.proofs.lemmas.List.{drop-replicate, append_assoc}
use borrow.Rule.Slice.PartMut.{put_mid}
use lib.Seq.{set-append_seam, take-append-add, drop-append-add, drop-cons, take-append_seam}
use Rattle.integers.specs.Limits.{HOLES}
use Rattle.integers.proofs.Bools.{and_true}
use Rattle.holes.specs.Holes.{padded, zeros}
use Rattle.integers.specs.WholeNumbers.{eq_z}
use Rattle.integers.proofs.WholeNumbers.{eq_z_same}

pub padded_length : (l : List ℤ) → length l ≤ HOLES → length (padded l) ≡ HOLES
padded_length l fits = simp (length-append, length-replicate) (omega arith)

-- f, then x, then r, written over zeros
pub written : (f r : List ℤ) (x : ℤ) (p k : ℕ) → p ≡ length f → k ≡ length r → p + k < HOLES → put_mid (p + 1) k (set (f ++ drop p (replicate HOLES (pos 0))) p x) r ≡ padded (f ++ x ∷ r)
written f r x p k ef er room =
    let z : List ℤ = replicate (HOLES - p - 1) (pos 0) in
    let left : drop p (replicate HOLES (pos 0)) ≡ pos 0 ∷ z = drop-replicate p HOLES (pos 0) ∙ ap (λ (n : ℕ). replicate n (pos 0)) (less HOLES p (omega arith)) in
    let put : set (f ++ drop p (replicate HOLES (pos 0))) p x ≡ f ++ x ∷ z = rw left (subst (λ (n : ℕ). set (f ++ pos 0 ∷ z) n x ≡ f ++ x ∷ z) (sym ef) (set-append_seam f (pos 0) z x)) in
    let taken : take (p + 1) (f ++ x ∷ z) ≡ f ++ x ∷ [] = subst (λ (n : ℕ). take (n + 1) (f ++ x ∷ z) ≡ f ++ x ∷ []) (sym ef) (take-append-add f (x ∷ z) 1) in
    let dropped : drop (p + 1) (f ++ x ∷ z) ≡ z = subst (λ (n : ℕ). drop (n + 1) (f ++ x ∷ z) ≡ z) (sym ef) (drop-append-add f (x ∷ z) 1) in
    let size : length (f ++ x ∷ r) ≡ p + 1 + k = omega (arith, length-append f (x ∷ r)) in
    let rest : drop k z ≡ replicate (HOLES - (p + 1 + k)) (pos 0) = drop-replicate k (HOLES - p - 1) (pos 0) ∙ ap (λ (n : ℕ). replicate n (pos 0)) (omega arith) in
    rw (put, taken, dropped, rest, size) (simp append_assoc)
  where
    less : (n p : ℕ) → p < n → n - p ≡ suc (n - p - 1)
    less n p h = omega arith

pub front : (l : List ℤ) → take (length l) (padded l) ≡ l
front l = take-append_seam l (replicate (HOLES - length l) (pos 0))

-- ---- places that are all 0
pub zeros_on : (l : List ℤ) (i : ℕ) → i < length l → zeros (drop i l) ≡ eq_z (get_or l i (pos 0)) (pos 0) && zeros (drop (i + 1) l)
unfolding zeros
zeros_on l i h = rw add-one (ap zeros (drop-cons l i (pos 0) h))

pub zeros_end : zeros [] ≡ true
unfolding zeros
zeros_end = refl

pub zeros_are : (l : List ℤ) → zeros l ≡ true → l ≡ replicate (length l) (pos 0)
unfolding zeros
zeros_are [] y = refl
zeros_are (h ∷ l) y = let (p, q) = and_true (eq_z h (pos 0)) (zeros l) y in (λ i. eq_z_same h (pos 0) p i ∷ zeros_are l q i)

pub are_zeros : (n : ℕ) → zeros (replicate n (pos 0)) ≡ true
unfolding zeros
are_zeros zero = refl
are_zeros (suc n) = are_zeros n
