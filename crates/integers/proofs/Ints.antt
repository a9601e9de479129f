-- Facts on ℤ as facts on ℕ, for `omega`. Each integer z is the difference `up z` − `dn z` of two naturals. An order, an equation or a sum of integers is a linear statement about those
-- naturals, whatever the range. `omega ints` reads and proves statements on ℤ by these laws.
use mathlib.Core.Path.{◌≡◌, refl, sym, ap, ◌∙◌, subst}
use mathlib.Core.Logic.{◌⊎◌, inl, inr, ⊎_elim}
use mathlib.Core.Bool.{Bool, true, false, not, cond}
use Prim.Native.Nat.{ℕ, zero, suc, ◌+◌, ◌-◌, ◌≤◌, ◌<◌, ◌^◌}
use native.Mathlib.Nat.{lt_of_not-le, le_of_suc-le-suc}
use native.Mathlib.Omega.{arith}
use lib.Dec.{T, ltb, leb→le, le→leb, ltb→lt, lt→ltb, nltb→le}
use lib.IntN.{ℤ, pos, negsuc, neg_ℤ, nat_abs, sub_ℕ, ◌+ℤ◌, ◌-ℤ◌}
use lib.Signed.{mag, le_z, lt_z, ◌≤ℤ◌, ◌<ℤ◌, pos-nat_abs, yes_non_neg}
use Rattle.integers.specs.Extremes.{pickℤ, maxℤ, minℤ}
use mir.Syntax.{Width}
use mir.Val.{SFits, to_z, of_z, hbits}
use mir.ValLaws.{to_z-of_z}

-- z is up z − dn z
unfoldable pub up : ℤ → ℕ
up (pos n) = n
up (negsuc n) = 0

unfoldable pub dn : ℤ → ℕ
dn (pos n) = 0
dn (negsuc n) = suc n

none : (n : ℕ) → suc n ≤ 0 → ⊥
none n h = omega arith

le_to : (a b : ℤ) → T (le_z a b) → up a + dn b ≤ up b + dn a
unfolding up dn
le_to (pos a) (pos b) t = omega (arith, leb→le a b t)
le_to (pos a) (negsuc b) t = absurd t
le_to (negsuc a) (pos b) t = omega arith
le_to (negsuc a) (negsuc b) t = omega (arith, leb→le b a t)

le_of : (a b : ℤ) → up a + dn b ≤ up b + dn a → T (le_z a b)
unfolding up dn
le_of (pos a) (pos b) h = le→leb a b (omega arith)
le_of (pos a) (negsuc b) h = let z : suc (a + b) ≤ 0 = omega arith in absurd (none (a + b) z)
le_of (negsuc a) (pos b) h = tt
le_of (negsuc a) (negsuc b) h = le→leb b a (omega arith)

lt_to : (a b : ℤ) → T (lt_z a b) → up a + dn b < up b + dn a
unfolding up dn
lt_to (pos a) (pos b) t = omega (arith, ltb→lt a b t)
lt_to (pos a) (negsuc b) t = absurd t
lt_to (negsuc a) (pos b) t = omega arith
lt_to (negsuc a) (negsuc b) t = omega (arith, ltb→lt b a t)

lt_of : (a b : ℤ) → up a + dn b < up b + dn a → T (lt_z a b)
unfolding up dn
lt_of (pos a) (pos b) h = lt→ltb a b (omega arith)
lt_of (pos a) (negsuc b) h = let z : suc (a + b) ≤ 0 = omega arith in absurd (none (a + b) z)
lt_of (negsuc a) (pos b) h = tt
lt_of (negsuc a) (negsuc b) h = lt→ltb b a (omega arith)

eq_of : (a b : ℤ) → up a + dn b ≡ up b + dn a → a ≡ b
unfolding up dn
eq_of (pos a) (pos b) h = ap pos (omega arith)
eq_of (pos a) (negsuc b) h = let z : suc (a + b) ≤ 0 = omega arith in absurd (none (a + b) z)
eq_of (negsuc a) (pos b) h = let z : suc (a + b) ≤ 0 = omega arith in absurd (none (a + b) z)
eq_of (negsuc a) (negsuc b) h = ap negsuc (omega arith)

-- ---- what is known of integers, read as facts on naturals
pub ≤ℤ-read : {a b : ℤ} → a ≤ℤ b → up a + dn b ≤ up b + dn a
≤ℤ-read {a} {b} h = le_to a b h.le

pub <ℤ-read : {a b : ℤ} → a <ℤ b → up a + dn b < up b + dn a
<ℤ-read {a} {b} h = lt_to a b h.lt

pub ≡ℤ-read : {a b : ℤ} → a ≡ b → up a + dn b ≡ up b + dn a
≡ℤ-read {a} {b} e = subst (λ (z : ℤ). up a + dn z ≡ up z + dn a) e refl

-- ---- what is to be shown of integers, from facts on naturals
pub ≤ℤ-show : {a b : ℤ} → up a + dn b ≤ up b + dn a → a ≤ℤ b
≤ℤ-show {a} {b} h = record { le = le_of a b h }

pub <ℤ-show : {a b : ℤ} → up a + dn b < up b + dn a → a <ℤ b
<ℤ-show {a} {b} h = record { lt = lt_of a b h }

pub ≡ℤ-show : {a b : ℤ} → up a + dn b ≡ up b + dn a → a ≡ b
≡ℤ-show {a} {b} h = eq_of a b h

-- ---- what a test of two signed numbers says in the branch that is taken
bool_T : {t : Bool} → t ≡ true → T t
bool_T e = subst T (sym e) tt

pub le_z_yes_read : (a b : ℤ) → le_z a b ≡ true → up a + dn b ≤ up b + dn a
le_z_yes_read a b e = le_to a b (bool_T e)

pub lt_z_yes_read : (a b : ℤ) → lt_z a b ≡ true → up a + dn b < up b + dn a
lt_z_yes_read a b e = lt_to a b (bool_T e)

pub le_z_no_read : (a b : ℤ) → le_z a b ≡ false → up b + dn a < up a + dn b
le_z_no_read a b e = lt_of_not-le (λ h. subst T e (le_of a b h))

pub lt_z_no_read : (a b : ℤ) → lt_z a b ≡ false → up b + dn a ≤ up a + dn b
lt_z_no_read a b e = le_of_suc-le-suc (lt_of_not-le (λ h. subst T e (lt_of a b h)))

-- ---- ranges: z is in a signed width's range
pub fits_up : {w : Width} {z : ℤ} → SFits w z → up z < 2 ^ hbits w
unfolding up
fits_up {w} {z = pos n} h = h.sfits
fits_up {w} {z = negsuc n} h = omega (arith, h.sfits)

pub fits_dn : {w : Width} {z : ℤ} → SFits w z → dn z ≤ 2 ^ hbits w
unfolding dn
fits_dn {w} {z = pos n} h = omega arith
fits_dn {w} {z = negsuc n} h = h.sfits

pub fits_show : (w : Width) (z : ℤ) → up z < 2 ^ hbits w + dn z → dn z ≤ 2 ^ hbits w + up z → SFits w z
unfolding up dn
fits_show w (pos n) h k = record { sfits = omega arith }
fits_show w (negsuc n) h k = record { sfits = omega arith }

-- the same as one entry of omega's list: `omega (ints, in_range h)`
pub record Range (w : Width) (z : ℤ) : Type 0 where
  pub below : up z < 2 ^ hbits w
  pub above : dn z ≤ 2 ^ hbits w

pub in_range : {w : Width} {z : ℤ} → SFits w z → Range w z
in_range h = record { below = fits_up h; above = fits_dn h }

pub ruleset ints = (arith, ≤ℤ-read, <ℤ-read, ≡ℤ-read, le_z_yes_read, lt_z_yes_read, le_z_no_read, lt_z_no_read, ≤ℤ-show, <ℤ-show, ≡ℤ-show)

-- ---- sums, differences, negation: facts to list, with the integers written out
sub_pick : (a b : ℕ) (c : Bool) → (T c → a < b) → (T (not c) → b ≤ a) → up (cond c (negsuc (b - suc a)) (pos (a - b))) + b ≡ a + dn (cond c (negsuc (b - suc a)) (pos (a - b)))
unfolding up dn
sub_pick a b true f g = let h = f tt in omega arith
sub_pick a b false f g = let h = g tt in omega arith

pub sub_law : (a b : ℕ) → up (sub_ℕ a b) + b ≡ a + dn (sub_ℕ a b)
sub_law a b = sub_pick a b (ltb a b) (ltb→lt a b) (nltb→le a b)

pub sumℤ : (a b : ℤ) → up (a +ℤ b) + (dn a + dn b) ≡ (up a + up b) + dn (a +ℤ b)
unfolding up dn
sumℤ (pos a) (pos b) = omega arith
sumℤ (pos a) (negsuc b) = omega (arith, sub_law a (suc b))
sumℤ (negsuc a) (pos b) = omega (arith, sub_law b (suc a))
sumℤ (negsuc a) (negsuc b) = omega arith

pub up_neg : (a : ℤ) → up (neg_ℤ a) ≡ dn a
unfolding up dn
up_neg (pos zero) = refl
up_neg (pos (suc n)) = refl
up_neg (negsuc n) = refl

pub dn_neg : (a : ℤ) → dn (neg_ℤ a) ≡ up a
unfolding up dn
dn_neg (pos zero) = refl
dn_neg (pos (suc n)) = refl
dn_neg (negsuc n) = refl

pub subℤ : (a b : ℤ) → up (a -ℤ b) + (dn a + up b) ≡ (up a + dn b) + dn (a -ℤ b)
subℤ a b = omega (arith, sumℤ a (neg_ℤ b), up_neg b, dn_neg b)

-- ---- a signed local holds bits: what the machine reads back from them is the number, where it fits. `omega (ints, back h)` reads this
pub back : {w : Width} {z : ℤ} → SFits w z → to_z w (of_z w z) ≡ z
back {w} {z} h = to_z-of_z w z h

-- the same from what a read of an element gives
pub back_of : (w : Width) (z : ℤ) → mag z < 2 ^ hbits w → to_z w (of_z w z) ≡ z
back_of w z h = to_z-of_z w z (record { sfits = h })

-- `==` on two signed numbers compares their bits
pub same_bits : (w : Width) {a b : ℤ} → SFits w a → SFits w b → of_z w a ≡ of_z w b → a ≡ b
same_bits w fa fb e = sym (back fa) ∙ ap (to_z w) e ∙ back fb

-- a number that is not negative, as its cast to an unsigned type reads it
pub nonneg_cast : (w : Width) {z : ℤ} → SFits w z → pos 0 ≤ℤ z → pos (nat_abs (to_z w (of_z w z))) ≡ z
nonneg_cast w {z} h k = ap (λ (x : ℤ). pos (nat_abs x)) (to_z-of_z w z h) ∙ pos-nat_abs z (yes_non_neg k)

-- what never happens
pub never {ℓ} : {X : Type ℓ} → false ≡ true → X
never e = absurd (subst T (sym e) tt)

-- ---- the larger and the smaller of two: entries of omega's list, one for each case of `maxℤ_is`
order : (a b : ℤ) (c : Bool) → le_z a b ≡ c → ((a ≤ℤ b) × (c ≡ true)) ⊎ ((b <ℤ a) × (c ≡ false))
order a b true e = inl (omega (arith, ≤ℤ-show, le_z_yes_read a b e), refl)
order a b false e = inr (omega (arith, <ℤ-show, le_z_no_read a b e), refl)

pub maxℤ_is : (a b : ℤ) → ((a ≤ℤ b) × (maxℤ a b ≡ b)) ⊎ ((b <ℤ a) × (maxℤ a b ≡ a))
unfolding maxℤ
maxℤ_is a b = ⊎_elim (λ h. inl (h.0, ap (λ (c : Bool). pickℤ c b a) h.1)) (λ h. inr (h.0, ap (λ (c : Bool). pickℤ c b a) h.1)) (order a b (le_z a b) refl)

pub minℤ_is : (a b : ℤ) → ((a ≤ℤ b) × (minℤ a b ≡ a)) ⊎ ((b <ℤ a) × (minℤ a b ≡ b))
unfolding minℤ
minℤ_is a b = ⊎_elim (λ h. inl (h.0, ap (λ (c : Bool). pickℤ c a b) h.1)) (λ h. inr (h.0, ap (λ (c : Bool). pickℤ c a b) h.1)) (order a b (le_z a b) refl)

-- two whole numbers in order, or not
pub ≤ℤ-cases : (a b : ℤ) → (a ≤ℤ b) ⊎ (b <ℤ a)
≤ℤ-cases a b = ⊎_elim (λ h. inl h.0) (λ h. inr h.0) (order a b (le_z a b) refl)

-- two whole numbers are equal or not
pub equalℤ : (a b : ℤ) → (a ≡ b) ⊎ (a ≡ b → ⊥)
equalℤ a b = ⊎_elim (λ h. ⊎_elim (λ k. inl (omega ints)) (λ k. inr (λ e. omega ints)) (≤ℤ-cases b a)) (λ h. inr (λ e. omega ints)) (≤ℤ-cases a b)

-- the order of whole numbers, and its test
pub le_z_true : (a b : ℤ) → le_z a b ≡ true → a ≤ℤ b
le_z_true a b h = omega ints

pub le_le_z : (a b : ℤ) → a ≤ℤ b → le_z a b ≡ true
le_le_z a b h = by (le_z a b) refl
  where
    by : (t : Bool) → le_z a b ≡ t → t ≡ true
    by true e = refl
    by false e = absurd (omega ints)
