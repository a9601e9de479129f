-- The values of a node over its range of leaves: d leaves from a on. Moment 0 stands for minus infinity.
use mathlib.Core.Path.{◌≡◌, refl, sym, subst, ◌∙◌}
use mathlib.Core.Bool.{Bool, true, false, cond}
use mathlib.Core.Logic.{◌⊎◌, inl, inr}
use Prim.Native.Nat.{ℕ, zero, suc, ◌+◌, ◌≤◌, max}
use native.Mathlib.Omega.{arith}
use native.Mathlib.Nat.{add-suc, add-zero, add_assoc, le_antisymm}
use Rattle.integers.proofs.Bools.{bool}

-- the sums and maxima of two children and one leaf more; `omega` splits at most six maxima at a time
ect_white : (R L S e p : ℕ) → max (max R (L + S)) e + p ≡ max (max R e + p) (L + (S + p))
ect_white R L S e p = omega arith

sb_white : (B S C D p : ℕ) → max (B + S) (C + D) + p ≡ max (B + (S + p)) (C + (D + p))
sb_white B S C D p = omega arith

sb_gray : (B S C D p : ℕ) → max (max (B + S) (C + D)) (C + S + p) ≡ max (B + S) (C + max D (S + p))
sb_gray B S C D p = omega arith

eb_white : (RB L SB LB S e p : ℕ) → max (max RB (max (L + SB) (LB + S))) e + p ≡ max (max RB e + p) (max (L + (SB + p)) (LB + (S + p)))
eb_white RB L SB LB S e p = omega arith

module _ (RB L SB LB S R e p : ℕ) where
  abbrev one : ℕ
  one = max (max RB (max (L + SB) (LB + S))) (max (max R (L + S)) e + p)

  abbrev two : ℕ
  two = max (max RB (max R e + p)) (max (L + max SB (S + p)) (LB + S))

  one_most : (y : ℕ) → RB ≤ y → L + SB ≤ y → LB + S ≤ y → R + p ≤ y → L + S + p ≤ y → e + p ≤ y → one ≤ y
  one_most y h₁ h₂ h₃ h₄ h₅ h₆ = omega arith

  two_most : (y : ℕ) → RB ≤ y → L + SB ≤ y → LB + S ≤ y → R + p ≤ y → L + S + p ≤ y → e + p ≤ y → two ≤ y
  two_most y h₁ h₂ h₃ h₄ h₅ h₆ = omega arith

  one_two : one ≤ two
  one_two = one_most two (omega arith) (omega arith) (omega arith) (omega arith) (omega arith) (omega arith)

  two_one : two ≤ one
  two_one = two_most one (omega arith) (omega arith) (omega arith) (omega arith) (omega arith) (omega arith)

  eb_gray : one ≡ two
  eb_gray = le_antisymm one_two two_one

-- white and gray leaves, their earliest starts and durations
module _ (w g : ℕ → Bool) (e p : ℕ → ℕ) where
  unfoldable pub sum : ℕ → ℕ → ℕ
  sum a zero = 0
  sum a (suc d) = cond (w (a + d)) (sum a d + p (a + d)) (sum a d)

  unfoldable pub ect : ℕ → ℕ → ℕ
  ect a zero = 0
  ect a (suc d) = cond (w (a + d)) (max (ect a d) (e (a + d)) + p (a + d)) (ect a d)

  unfoldable pub sum_bar : ℕ → ℕ → ℕ
  sum_bar a zero = 0
  sum_bar a (suc d) = cond (w (a + d)) (sum_bar a d + p (a + d)) (cond (g (a + d)) (max (sum_bar a d) (sum a d + p (a + d))) (sum_bar a d))

  unfoldable pub ect_bar_of : ℕ → ℕ → ℕ
  ect_bar_of a zero = 0
  ect_bar_of a (suc d) = cond (w (a + d)) (max (ect_bar_of a d) (e (a + d)) + p (a + d)) (cond (g (a + d)) (max (ect_bar_of a d) (max (ect a d) (e (a + d)) + p (a + d))) (ect_bar_of a d))

  -- the values of d leaves from a on
  pub record Values (a d S E SB EB : ℕ) : Type 0 where
    pub s : sum a d ≡ S
    pub t : ect a d ≡ E
    pub sb : sum_bar a d ≡ SB
    pub tb : ect_bar_of a d ≡ EB

  -- one leaf more, at x
  abbrev pub White : ℕ → ℕ → ℕ → Type 0
  White a d x = Values a (suc d) (sum a d + p x) (max (ect a d) (e x) + p x) (sum_bar a d + p x) (max (ect_bar_of a d) (e x) + p x)

  abbrev pub Gray : ℕ → ℕ → ℕ → Type 0
  Gray a d x = Values a (suc d) (sum a d) (ect a d) (max (sum_bar a d) (sum a d + p x)) (max (ect_bar_of a d) (max (ect a d) (e x) + p x))

  abbrev pub None : ℕ → ℕ → Type 0
  None a d = Values a (suc d) (sum a d) (ect a d) (sum_bar a d) (ect_bar_of a d)

  pub white : (a d x : ℕ) → a + d ≡ x → w x ≡ true → White a d x
  unfolding sum ect sum_bar ect_bar_of
  white a d x z = subst (λ (x : ℕ). w x ≡ true → White a d x) z (λ y. record { s = rw (y, sum); t = rw (y, ect); sb = rw (y, sum_bar); tb = rw (y, ect_bar_of) })

  pub gray : (a d x : ℕ) → a + d ≡ x → w x ≡ false → g x ≡ true → Gray a d x
  unfolding sum ect sum_bar ect_bar_of
  gray a d x z = subst (λ (x : ℕ). w x ≡ false → g x ≡ true → Gray a d x) z (λ y v. record { s = rw (y, sum); t = rw (y, ect); sb = rw (y, v, sum_bar); tb = rw (y, v, ect_bar_of) })

  pub no_leaf : (a d x : ℕ) → a + d ≡ x → w x ≡ false → g x ≡ false → None a d
  unfolding sum ect sum_bar ect_bar_of
  no_leaf a d x z = subst (λ (x : ℕ). w x ≡ false → g x ≡ false → None a d) z (λ y v. record { s = rw (y, sum); t = rw (y, ect); sb = rw (y, v, sum_bar); tb = rw (y, v, ect_bar_of) })

  -- a range with no leaf
  pub blank : (a : ℕ) → Values a 0 0 0 0 0
  unfolding sum ect sum_bar ect_bar_of
  blank a = record { s = refl; t = refl; sb = refl; tb = refl }

  -- the bars are at least the plain values
  pub record Bars (a d : ℕ) : Type 0 where
    pub more : sum a d ≤ sum_bar a d
    pub later : ect a d ≤ ect_bar_of a d

  pub bars : (a d : ℕ) → Bars a d
  bars a zero = let b = blank a in record { more = omega arith; later = omega arith }
  bars a (suc d) = step (bars a d) (bool (w (a + d))) (bool (g (a + d)))
    where
      step : Bars a d → (w (a + d) ≡ true) ⊎ (w (a + d) ≡ false) → (g (a + d) ≡ true) ⊎ (g (a + d) ≡ false) → Bars a (suc d)
      step ih (inl y) v = let u = white a d (a + d) refl y in record { more = omega arith; later = omega arith }
      step ih (inr y) (inl v) = let u = gray a d (a + d) refl y v in record { more = omega arith; later = omega arith }
      step ih (inr y) (inr v) = let u = no_leaf a d (a + d) refl y v in record { more = omega arith; later = omega arith }

  -- a node from its two children, as in `upheap`
  pub record Join (a b c : ℕ) : Type 0 where
    pub sums : sum a (b + c) ≡ sum a b + sum (a + b) c
    pub ects : ect a (b + c) ≡ max (ect (a + b) c) (ect a b + sum (a + b) c)
    pub sum_bars : sum_bar a (b + c) ≡ max (sum_bar a b + sum (a + b) c) (sum a b + sum_bar (a + b) c)
    pub ect_bars : ect_bar_of a (b + c) ≡ max (ect_bar_of (a + b) c) (max (ect a b + sum_bar (a + b) c) (ect_bar_of a b + sum (a + b) c))

  pub join : (a b c : ℕ) → Join a b c
  join a b zero =
      let r = blank (a + b) in let m = bars a b in
      record { sums = rw (add-zero b) (omega arith); ects = rw (add-zero b) (omega arith); sum_bars = rw (add-zero b) (omega arith); ect_bars = rw (add-zero b) (omega arith) }
  join a b (suc c) = step (join a b c) (bool (w (a + b + c))) (bool (g (a + b + c)))
    where
      z : a + (b + c) ≡ a + b + c
      z = sym (add_assoc a b c)

      step : Join a b c → (w (a + b + c) ≡ true) ⊎ (w (a + b + c) ≡ false) → (g (a + b + c) ≡ true) ⊎ (g (a + b + c) ≡ false) → Join a b (suc c)
      step ih (inl y) v =
          let l = white a (b + c) (a + b + c) z y in let r = white (a + b) c (a + b + c) refl y in
          record {
            sums = rw (add-suc b c) (omega arith);
            ects = rw (add-suc b c, l.t, ih.ects, r.t, r.s) (ect_white _ _ _ _ _);
            sum_bars = rw (add-suc b c, l.sb, ih.sum_bars, r.sb, r.s) (sb_white _ _ _ _ _);
            ect_bars = rw (add-suc b c, l.tb, ih.ect_bars, r.tb, r.sb, r.s) (eb_white _ _ _ _ _ _ _);
          }
      step ih (inr y) (inl v) =
          let l = gray a (b + c) (a + b + c) z y v in let r = gray (a + b) c (a + b + c) refl y v in
          record {
            sums = rw (add-suc b c) (omega arith);
            ects = rw (add-suc b c, l.t, r.t, r.s) ih.ects;
            sum_bars = rw (add-suc b c, l.sb, ih.sum_bars, ih.sums, r.sb, r.s) (sb_gray _ _ _ _ _);
            ect_bars = rw (add-suc b c, l.tb, ih.ect_bars, ih.ects, r.tb, r.sb, r.s) (eb_gray _ _ _ _ _ _ _ _);
          }
      step ih (inr y) (inr v) =
          let l = no_leaf a (b + c) (a + b + c) z y v in let r = no_leaf (a + b) c (a + b + c) refl y v in
          record {
            sums = rw (add-suc b c, l.s, r.s) ih.sums;
            ects = rw (add-suc b c, l.t, r.t, r.s) ih.ects;
            sum_bars = rw (add-suc b c, l.sb, r.sb, r.s) ih.sum_bars;
            ect_bars = rw (add-suc b c, l.tb, r.tb, r.sb, r.s) ih.ect_bars;
          }

  -- a range with no leaf
  pub bare : (a m : ℕ) → ((j : ℕ) → a ≤ j → w j ≡ false) → ((j : ℕ) → a ≤ j → g j ≡ false) → (sum a m ≡ 0) × (ect a m ≡ 0) × (sum_bar a m ≡ 0) × (ect_bar_of a m ≡ 0)
  bare a zero nw ng = let b = blank a in (b.s, b.t, b.sb, b.tb)
  bare a (suc m) nw ng =
      let ih = bare a m nw ng in
      let n = no_leaf a m (a + m) refl (nw (a + m) (omega arith)) (ng (a + m) (omega arith)) in
      (n.s ∙ ih.0, n.t ∙ ih.1, n.sb ∙ ih.2, n.tb ∙ ih.3)

  -- leaves that are empty from b on make no difference
  pub past : (a b m : ℕ) → ((j : ℕ) → a + b ≤ j → w j ≡ false) → ((j : ℕ) → a + b ≤ j → g j ≡ false)
      → (sum a (b + m) ≡ sum a b) × (ect a (b + m) ≡ ect a b) × (ect_bar_of a (b + m) ≡ ect_bar_of a b)
  past a b m nw ng =
      let z = bare (a + b) m nw ng in let j = join a b m in let k = bars a b in
      (omega (arith, j.sums, z.0), omega (arith, j.ects, z.0, z.1), omega (arith, j.ect_bars, z.0, z.2, z.3, k))
