-- Cases of a test, and of the numbers below a bound.
use mathlib.Core.Path.{◌≡◌, refl, sym, ◌∙◌}
use mathlib.Core.Bool.{Bool, true, false, cond, ◌||◌, ◌&&◌}
use mathlib.Core.Logic.{◌⊎◌, inl, inr}
use Prim.Native.Nat.{ℕ, suc, ◌≤◌, ◌<◌}
use native.Mathlib.Omega.{arith}
use native.Mathlib.Decide.{dec_lt}
use lib.Dec.{leb}
use borrow.Author.Tests.{le-leb, lt-leb}

pub bool : (b : Bool) → (b ≡ true) ⊎ (b ≡ false)
bool true = inl refl
bool false = inr refl

-- a test is not both
pub clash {ℓ} : {X : Type ℓ} {b : Bool} → b ≡ true → b ≡ false → X
clash p q = let z : ◌≡◌ {A = ℕ} 0 1 = cc in absurd (omega arith)

pub and_true : (a b : Bool) → a && b ≡ true → (a ≡ true) × (b ≡ true)
and_true true b y = (refl, y)
and_true false b y = clash y refl

pub and_false : (a b : Bool) → a && b ≡ false → (a ≡ false) ⊎ (b ≡ false)
and_false true b y = inr y
and_false false b y = inl refl

pub and_yes : (a b : Bool) → a ≡ true → b ≡ true → a && b ≡ true
and_yes a b p q = rw (p, q)

-- one side decides it
pub and_left : (a b : Bool) → a ≡ false → a && b ≡ false
and_left a b p = rw p

pub and_right : (a b : Bool) → b ≡ false → a && b ≡ false
and_right true b p = p
and_right false b p = refl

pub and_is : (a b : Bool) → a ≡ true → a && b ≡ b
and_is a b p = rw p

pub and_only : (a b : Bool) → b ≡ true → a && b ≡ a
and_only true b q = q
and_only false b q = refl

pub or_true : (a b : Bool) → a || b ≡ true → (a ≡ true) ⊎ (b ≡ true)
or_true true b h = inl refl
or_true false b h = inr h

pub or_false : (a b : Bool) → a || b ≡ false → (a ≡ false) × (b ≡ false)
or_false true b h = clash refl h
or_false false b h = (refl, h)

pub or_no : (a b : Bool) → a ≡ false → b ≡ false → a || b ≡ false
or_no a b p q = rw (p, q)

pub or_right : (a b : Bool) → b ≡ true → a || b ≡ true
or_right true b h = refl
or_right false b h = h

pub or_swap : (a b c : Bool) → a || (b || c) ≡ b || (a || c)
or_swap true true c = refl
or_swap true false c = refl
or_swap false b c = refl

-- tests that imply each other are equal
pub same_tests : (a b : Bool) → (a ≡ true → b ≡ true) → (b ≡ true → a ≡ true) → a ≡ b
same_tests true b f g = sym (f refl)
same_tests false b f g = elim (bool b) [ inl y ↦ g y ∙ sym y | inr y ↦ sym y ]

pub cond_most : (b : Bool) (d : ℕ) → cond b d 0 ≤ d
cond_most true d = omega arith
cond_most false d = omega arith

-- what holds below n and at n holds below suc n
pub below_suc : (P : ℕ → Type 0) (n : ℕ) → ((k : ℕ) → k < n → P k) → P n → (k : ℕ) → k < suc n → P k
below_suc P n lo hi k h = elim (dec_lt k n) [ yes q ↦ lo k q | no q ↦ (let z : n ≡ k = omega arith in rw z at hi) ]

-- a bound one higher, at another number
pub leb_step : (t x : ℕ) → (x ≡ t → ⊥) → leb t x ≡ leb (suc t) x
leb_step t x ne = elim (dec_lt x t) [ yes q ↦ lt-leb t x q ∙ sym (lt-leb (suc t) x (omega arith)) | no q ↦ le-leb t x (omega arith) ∙ sym (le-leb (suc t) x (omega arith)) ]
