-- Sets of tasks: one task more or less, sums over the tasks below a number, a member of the largest value.
use mathlib.Core.Path.{◌≡◌, refl, ap}
use mathlib.Core.Bool.{Bool, true, false, ◌||◌, ◌&&◌, not}
use mathlib.Core.Logic.{◌⊎◌, inl, inr}
use Prim.Native.Nat.{ℕ, zero, suc, ◌+◌, ◌≤◌, ◌<◌}
use native.Mathlib.Omega.{arith}
use native.Mathlib.Numerals.{add-one}
use native.Mathlib.Decide.{dec_le, dec_lt, ℕ_discrete}
use lib.Dec.{eqb}
use borrow.Author.Tests.{eq-eqb, ne_eqb}
use Rattle.integers.proofs.Bools.{bool, clash, below_suc}
use Rattle.scheduling.specs.Scheduling.{TaskSet, total, ◌with◌}

-- a member with the largest value, or none at all
pub record Top (Ω : TaskSet) (f : ℕ → ℕ) (n : ℕ) : Type 0 where
  pub at : ℕ
  pub small : at < n
  pub mem : Ω at ≡ true
  pub top : (j : ℕ) → j < n → Ω j ≡ true → f j ≤ f at

abbrev pub Empty : TaskSet → ℕ → Type 0
Empty Ω n = (k : ℕ) → k < n → Ω k ≡ false

pub top : (Ω : TaskSet) (f : ℕ → ℕ) (n : ℕ) → Empty Ω n ⊎ Top Ω f n
top Ω f zero = inl (λ k h. absurd (omega arith))
top Ω f (suc n) = step (top Ω f n) (bool (Ω n))
  where
    new : Ω n ≡ true → ((j : ℕ) → j < n → Ω j ≡ true → f j ≤ f n) → Top Ω f (suc n)
    new y h = record { at = n; small = omega arith; mem = y; top = below_suc (λ j. Ω j ≡ true → f j ≤ f n) n h (λ _. omega arith) }

    old : (t : Top Ω f n) → (Ω n ≡ true → f n ≤ f t.at) → Top Ω f (suc n)
    old t h = record { at = t.at; small = omega arith; mem = t.mem; top = below_suc (λ j. Ω j ≡ true → f j ≤ f t.at) n t.top h }

    step : Empty Ω n ⊎ Top Ω f n → (Ω n ≡ true) ⊎ (Ω n ≡ false) → Empty Ω (suc n) ⊎ Top Ω f (suc n)
    step (inl none) (inl y) = inr (new y (λ j q m. clash m (none j q)))
    step (inl none) (inr z) = inl (below_suc (λ k. Ω k ≡ false) n none z)
    step (inr t) (inl y) = elim (dec_le (f n) (f t.at)) [ yes q ↦ inr (old t (λ _. q)) | no q ↦ inr (new y (λ j s m. omega (arith, t.top j s m))) ]
    step (inr t) (inr z) = inr (old t (λ y. clash y z))

-- sums
pub total_none : (f : ℕ → ℕ) → total f 0 ≡ 0
unfolding total
total_none f = refl

pub total_more : (f : ℕ → ℕ) (n : ℕ) → total f (n + 1) ≡ total f n + f n
unfolding total
total_more f n = rw add-one

pub total_suc : (f : ℕ → ℕ) (n : ℕ) → total f (suc n) ≡ total f n + f n
unfolding total
total_suc f n = refl

pub total_ones : (n : ℕ) → total (λ k. 1) n ≡ n
unfolding total
total_ones zero = refl
total_ones (suc n) = omega (arith, total_ones n)

pub total_ext : (f g : ℕ → ℕ) (n : ℕ) → ((k : ℕ) → k < n → f k ≡ g k) → total f n ≡ total g n
unfolding total
total_ext f g zero h = refl
total_ext f g (suc n) h = omega (arith, total_ext f g n (λ k q. h k (omega arith)), h n (omega arith))

pub total_mono : (f g : ℕ → ℕ) (n : ℕ) → ((k : ℕ) → k < n → f k ≤ g k) → total f n ≤ total g n
unfolding total
total_mono f g zero h = omega arith
total_mono f g (suc n) h = omega (arith, total_mono f g n (λ k q. h k (omega arith)), h n (omega arith))

-- a sum with one more number in it is still a part of the whole sum
pub total_part : (f : ℕ → ℕ) (n i : ℕ) → i < n → total f i + f i ≤ total f n
unfolding total
total_part f zero i q = absurd (omega arith)
total_part f (suc n) i q = elim (dec_lt i n) [ yes r ↦ omega (arith, total_part f n i r) | no r ↦ (let e : i ≡ n = omega arith in rw e (omega arith)) ]

-- one term is less, and none is more
pub total_less : (f g : ℕ → ℕ) (n i : ℕ) → i < n → ((k : ℕ) → k < n → f k ≤ g k) → f i < g i → total f n < total g n
unfolding total
total_less f g zero i q h s = absurd (omega arith)
total_less f g (suc n) i q h s = elim (dec_lt i n) [
  | yes r ↦ omega (arith, total_less f g n i r (λ k t. h k (omega arith)) s, h n (omega arith))
  | no r ↦ (let z : i ≡ n = omega arith in let w : f n < g n = rw z at s in omega (arith, total_mono f g n (λ k t. h k (omega arith))))
]

-- more numbers, no smaller sum
pub total_up : (f : ℕ → ℕ) (m n : ℕ) → m ≤ n → total f m ≤ total f n
total_up f m n q = elim (dec_lt m n) [ yes r ↦ omega (arith, total_part f n m r) | no r ↦ (let e : m ≡ n = omega arith in omega (arith, ap (total f) e)) ]

-- g is f but for the term at i
pub total_swap : (f g : ℕ → ℕ) (n i : ℕ) → i < n → ((k : ℕ) → (k ≡ i → ⊥) → f k ≡ g k) → total f n + g i ≡ total g n + f i
unfolding total
total_swap f g zero i q h = absurd (omega arith)
total_swap f g (suc n) i q h = elim (dec_lt i n) [
  | yes r ↦ omega (arith, total_swap f g n i r h, h n (λ z. omega arith))
  | no r ↦ (let z : n ≡ i = omega arith in rw (← z) (omega (arith, total_ext f g n (λ k s. h k (λ w. omega arith)))))
]

-- a set with one task taken out
abbrev pub ◌less◌ : TaskSet → ℕ → TaskSet
◌less◌ Ω i k = not (eqb k i) && Ω k

infixl 20 ◌less◌
pub less_in : (Ω : TaskSet) (i k : ℕ) → (Ω less i) k ≡ true → (Ω k ≡ true) × (k ≡ i → ⊥)
less_in Ω i k h = elim (ℕ_discrete k i) [ yes z ↦ clash h (rw (eq-eqb k i z)) | no z ↦ (rw (ne_eqb k i z) at h, z) ]

pub less_out : (Ω : TaskSet) (i k : ℕ) → Ω k ≡ true → (k ≡ i → ⊥) → (Ω less i) k ≡ true
less_out Ω i k h ne = rw (ne_eqb k i ne) h

pub with_in : (Ω : TaskSet) (i k : ℕ) → (Ω with i) k ≡ true → (k ≡ i) ⊎ (Ω k ≡ true)
with_in Ω i k h = elim (ℕ_discrete k i) [ yes z ↦ inl z | no z ↦ inr (rw (ne_eqb k i z) at h) ]

pub with_new : (Ω : TaskSet) (i : ℕ) → (Ω with i) i ≡ true
with_new Ω i = rw (eq-eqb i i refl)

pub with_old : (Ω : TaskSet) (i k : ℕ) → Ω k ≡ true → (Ω with i) k ≡ true
with_old Ω i k h = go (eqb k i)
  where
    go : (b : Bool) → b || Ω k ≡ true
    go true = refl
    go false = h

pub less_self : (Ω : TaskSet) (i : ℕ) → (Ω less i) i ≡ false
less_self Ω i = rw (eq-eqb i i refl)

pub total_zero : (f : ℕ → ℕ) (n : ℕ) → ((k : ℕ) → k < n → f k ≡ 0) → total f n ≡ 0
unfolding total
total_zero f zero h = refl
total_zero f (suc n) h = omega (arith, total_zero f n (λ k q. h k (omega arith)), h n (omega arith))
