-- Tests of whole numbers, from what they test and back, and what a list of whole numbers has.
use mathlib.Core.Path.{◌≡◌, sym, ap, ◌∙◌, refl}
use mathlib.Core.Logic.{⊎_elim, ◌⊎◌, inl, inr}
use mathlib.Core.Bool.{true, false}
use lib.IntN.{ℤ, pos}
use lib.Signed.{le_z, lt_z, ◌≤ℤ◌, ◌<ℤ◌}
use Rattle.integers.proofs.Bools.{bool, clash, and_true, and_yes, or_true, or_right}
use Rattle.integers.proofs.Ints.{ints, le_le_z, up, dn, up_neg, dn_neg}
use Rattle.integers.specs.WholeNumbers.{eq_z, Within, has}
use Prim.Native.Nat.{ℕ, ◌≤◌}
use mathlib.Core.List.{List, [], ◌∷◌}

pub lt_le_z : (a b : ℤ) → b <ℤ a → le_z a b ≡ false
lt_le_z a b h = ⊎_elim (λ y. absurd (omega ints)) (λ n. n) (bool (le_z a b))

pub lt_lt_z : (a b : ℤ) → a <ℤ b → lt_z a b ≡ true
lt_lt_z a b h = ⊎_elim (λ y. y) (λ n. absurd (omega ints)) (bool (lt_z a b))

pub le_lt_z : (a b : ℤ) → b ≤ℤ a → lt_z a b ≡ false
le_lt_z a b h = ⊎_elim (λ y. absurd (omega ints)) (λ n. n) (bool (lt_z a b))

pub eq_z_same : (a b : ℤ) → eq_z a b ≡ true → a ≡ b
eq_z_same a b y = let (p, q) = and_true (le_z a b) (le_z b a) y in omega ints

pub eq_z_refl : (a : ℤ) → eq_z a a ≡ true
eq_z_refl a = let h : a ≤ℤ a = omega ints in and_yes (le_z a a) (le_z a a) (le_le_z a a h) (le_le_z a a h)

pub same_eq_z : {a b : ℤ} → a ≡ b → eq_z a b ≡ true
same_eq_z {a} {b} e = ap (eq_z a) (sym e) ∙ eq_z_refl a

pub other_eq_z : {a b : ℤ} → (a ≡ b → ⊥) → eq_z a b ≡ false
other_eq_z {a} {b} n = ⊎_elim (λ y. absurd (n (eq_z_same a b y))) (λ q. q) (bool (eq_z a b))

pub eq_z_other : {a b : ℤ} → eq_z a b ≡ false → a ≡ b → ⊥
eq_z_other n e = clash (same_eq_z e) n

pub wider : (m n : ℕ) (v : ℤ) → m ≤ n → Within m v → Within n v
unfolding up dn
wider m n v h w = record { low = omega (ints, w, up_neg (pos m), dn_neg (pos m), up_neg (pos n), dn_neg (pos n)); high = omega (ints, w) }

-- ---- membership
pub has_head : (h : ℤ) (hs : List ℤ) → has (h ∷ hs) h ≡ true
unfolding has
has_head h hs = rw (eq_z_refl h)

pub has_tail : (h : ℤ) (hs : List ℤ) (x : ℤ) → has hs x ≡ true → has (h ∷ hs) x ≡ true
unfolding has
has_tail h hs x y = or_right (eq_z h x) (has hs x) y

pub has_cases : (h : ℤ) (hs : List ℤ) (x : ℤ) → has (h ∷ hs) x ≡ true → (h ≡ x) ⊎ (has hs x ≡ true)
unfolding has
has_cases h hs x y = ⊎_elim (λ e. inl (eq_z_same h x e)) (λ t. inr t) (or_true (eq_z h x) (has hs x) y)

pub has_none : (x : ℤ) → has [] x ≡ true → ⊥
unfolding has
has_none x y = clash y refl

-- a test that cannot hold is false
pub not_has : (hs : List ℤ) (x : ℤ) → (has hs x ≡ true → ⊥) → has hs x ≡ false
not_has hs x n = ⊎_elim (λ y. absurd (n y)) (λ f. f) (bool (has hs x))
