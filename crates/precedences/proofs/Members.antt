-- The atoms of the members of a set: task by task, their number, and what holds of all of them. They depend on the tasks below n only.
use mathlib.Core.Path.{◌≡◌, refl, sym, ap, ap₂, subst, ◌∙◌}
use mathlib.Core.Bool.{Bool, true, false, cond}
use mathlib.Core.List.{List, [], ◌++◌}
use Prim.Native.Nat.{ℕ, zero, suc, ◌+◌, ◌*◌, ◌≤◌, ◌<◌}
use native.Mathlib.Omega.{arith}
use native.Mathlib.Numerals.{add-one}
use lib.IntN.{ℤ}
use lib.ListN.{length, length-append}
use Rattle.integers.proofs.Bools.{cond_most, below_suc}
use Rattle.scheduling.specs.Scheduling.{TaskSet, Atom, Every, total}
use Rattle.scheduling.proofs.Sets.{total_none, total_suc, total_ones, total_part, total_less}
use Rattle.scheduling.proofs.Every.{every_append, every_left, every_right}
use Rattle.precedences.specs.Reasons.{at_least, at_most, both_of, both_bounds}

-- one task's atoms
size_of : (b : Bool) (j : ℕ) (e l : ℤ) → length (both_of b j e l) ≡ 2 * cond b 1 0
size_of true j e l = refl
size_of false j e l = refl

module _ (e l : ℕ → ℤ) (Ω : TaskSet) where
  abbrev both : ℕ → List Atom
  both = both_bounds e l Ω

  abbrev one : ℕ → List Atom
  one n = both_of (Ω n) n (e n) (l n)

  pub both_none : both_bounds e l Ω 0 ≡ []
  unfolding both_bounds
  both_none = refl

  both_suc : (n : ℕ) → both (suc n) ≡ both n ++ one n
  unfolding both_bounds
  both_suc n = refl

  pub both_more : (n : ℕ) → both_bounds e l Ω (n + 1) ≡ both_bounds e l Ω n ++ both_of (Ω n) n (e n) (l n)
  both_more n = ap both (add-one n) ∙ both_suc n

  -- how many: two a member
  abbrev count : ℕ → ℕ
  count = total (λ k. cond (Ω k) 1 0)

  two_each : (n : ℕ) → length (both n) ≡ 2 * count n
  two_each zero = omega (arith, ap length both_none, total_none (λ k. cond (Ω k) 1 0))
  two_each (suc n) = omega (arith, two_each n, total_suc (λ k. cond (Ω k) 1 0) n, ap length (both_suc n) ∙ length-append (both n) (one n), size_of (Ω n) n (e n) (l n))

  -- fewer where some task is no member
  pub fewer : (i n : ℕ) → i < n → Ω i ≡ false → length (both_bounds e l Ω n) + 2 ≤ 2 * n
  fewer i n q y = omega (
    arith,
    two_each n,
    total_less (λ k. cond (Ω k) 1 0) (λ k. 1) n i q (λ k r. cond_most (Ω k) 1) (omega (arith, ap {B = ℕ} (λ b. cond b 1 0) y)),
    total_ones n,
  )

  -- both of a member are a part of all
  pub part : (j n : ℕ) → j < n → Ω j ≡ true → length (both_bounds e l Ω j) + 2 ≤ length (both_bounds e l Ω n)
  part j n q y = omega (arith, two_each j, two_each n, total_part (λ k. cond (Ω k) 1 0) n j q, ap {B = ℕ} (λ b. cond b 1 0) y)

  -- what holds of every one
  module _ (P : Atom → Type 0) where
    abbrev Of : ℕ → Type 0
    Of k = Ω k ≡ true → P (at_least k (e k)) × P (at_most k (l k))

    at_last : (n : ℕ) → Every P (one n) → Of n
    at_last n h y = let w : Every P (both_of true n (e n) (l n)) = subst (λ (b : Bool). Every P (both_of b n (e n) (l n))) y h in (w.0, w.1.0)

    pub every_member : (n : ℕ) → Every P (both_bounds e l Ω n) → (k : ℕ) → k < n → Ω k ≡ true → P (at_least k (e k)) × P (at_most k (l k))
    every_member zero h k q = absurd (omega arith)
    every_member (suc n) h k q = let w : Every P (both n ++ one n) = subst (Every P) (both_suc n) h in
        below_suc Of n (every_member n (every_left P (both n) (one n) w)) (at_last n (every_right P (both n) (one n) w)) k q

    pub member_every : (n : ℕ) → ((k : ℕ) → k < n → Ω k ≡ true → P (at_least k (e k)) × P (at_most k (l k))) → Every P (both_bounds e l Ω n)
    member_every zero h = subst (Every P) (sym both_none) tt
    member_every (suc n) h = subst (Every P) (sym (both_suc n)) (every_append P (both n) (one n) (member_every n (λ k q. h k (omega arith))) (by (Ω n) refl))
      where
        by : (b : Bool) → Ω n ≡ b → Every P (both_of b n (e n) (l n))
        by true y = let w = h n (omega arith) y in (w.0, (w.1, tt))
        by false y = tt

-- The same bounds and members below n.
pub both_same : (e e' l l' : ℕ → ℤ) (Ω Ω' : TaskSet) (n : ℕ) → ((k : ℕ) → k < n → e k ≡ e' k) → ((k : ℕ) → k < n → l k ≡ l' k) → ((k : ℕ) → k < n → Ω k ≡ Ω' k)
    → both_bounds e l Ω n ≡ both_bounds e' l' Ω' n
both_same e e' l l' Ω Ω' zero p q r = both_none e l Ω ∙ sym (both_none e' l' Ω')
both_same e e' l l' Ω Ω' (suc n) p q r =
    both_suc e l Ω n
    ∙ ap₂ ◌++◌ (both_same e e' l l' Ω Ω' n (λ k s. p k (omega arith)) (λ k s. q k (omega arith)) (λ k s. r k (omega arith))) (rw (p n (omega arith), q n (omega arith), r n (omega arith)) refl)
    ∙ sym (both_suc e' l' Ω' n)
