-- From any start there is a way to one that is no worse and where covered time stops rising: to the left while it does not fall, then to the right while it rises.
use mathlib.Core.Path.{◌≡◌, refl}
use mathlib.Core.Logic.{◌⊎◌, inl, inr, ⊎_elim}
use Prim.Native.Nat.{ℕ, zero, suc, ◌+◌, ◌-◌, ◌≤◌, ◌<◌}
use native.Mathlib.Omega.{arith}
use native.Mathlib.Decide.{dec_lt}
use Rattle.busiest_stretch.specs.StretchMoments.{NoWorse}

pub no_worse_chain : {c x d y e z : ℕ} → NoWorse c x d y → NoWorse d y e z → NoWorse c x e z
no_worse_chain (inl h) (inl k) = inl (omega arith)
no_worse_chain (inl h) (inr k) = inl (omega arith)
no_worse_chain (inr h) (inl k) = inl (omega arith)
no_worse_chain (inr h) (inr k) = inr (omega arith, omega arith)

module _ (f : ℕ → ℕ) (first last : ℕ) where
  -- y is the first start, or f rises up to it.
  abbrev Rises : ℕ → Type 0
  Rises y = (y ≡ first) ⊎ ((z : ℕ) × (y ≡ z + 1) × (f z < f (z + 1)))

  -- y is the first start or the last, or f rises up to it and not beyond.
  abbrev pub Turns : ℕ → Type 0
  Turns y = (y ≡ first) ⊎ ((y ≡ last) ⊎ ((z : ℕ) × (y ≡ z + 1) × (f z < f (z + 1)) × (f (z + 1 + 1) ≤ f (z + 1))))

  -- y is in the range, no worse than u, and has P.
  pub record Reached (P : ℕ → Type 0) (u y : ℕ) : Type 0 where
    pub from : first ≤ y
    pub to : y ≤ last
    pub no_worse : NoWorse (f u) u (f y) y
    pub has : P y

  left : (m u : ℕ) → u ≡ first + m → u ≤ last → (y : ℕ) × Reached Rises u y
  left zero u e l = (u, record { from = omega arith; to = l; no_worse = inr (refl, omega arith); has = inl (omega arith) })
  left (suc m) u e l = by (λ p. left m (first + m) refl p) (dec_lt (f (first + m)) (f u))
    where
      by : (first + m ≤ last → (y : ℕ) × Reached Rises (first + m) y) → Dec (f (first + m) < f u)
          → (y : ℕ) × Reached Rises u y
      by ih (yes h) =
          let s : u ≡ first + m + 1 = omega arith in
          (u, record { from = omega arith; to = l; no_worse = inr (refl, omega arith); has = inr (first + m, s, rw s at h) })
      by ih (no h) =
          let (y, r) = ih (omega arith) in (
            y,
            record {
              from = r.from;
              to = r.to;
              no_worse = ⊎_elim (λ k. inl (omega arith)) (λ k. elim (dec_lt (f u) (f y)) [ yes a ↦ inl a | no a ↦ inr (omega arith, omega arith) ]) r.no_worse;
              has = r.has;
            },
          )

  right : (m x : ℕ) → x + m ≡ last → first ≤ x → Rises x → (y : ℕ) × Reached Turns x y
  right zero x e l r = (x, record { from = l; to = omega arith; no_worse = inr (refl, omega arith); has = inr (inl (omega arith)) })
  right (suc m) x e l r = by (λ p. right m (x + 1) (omega arith) (omega arith) p) (dec_lt (f x) (f (x + 1)))
    where
      stays : f (x + 1) ≤ f x → Rises x → Turns x
      stays h (inl z) = inl z
      stays h (inr (z, s, k)) = inr (inr (z, s, k, rw s at h))

      by : (Rises (x + 1) → (y : ℕ) × Reached Turns (x + 1) y) → Dec (f x < f (x + 1)) → (y : ℕ) × Reached Turns x y
      by ih (yes h) =
          let (y, t) = ih (inr (x, refl, h)) in
          (y, record { from = t.from; to = t.to; no_worse = ⊎_elim (λ k. inl (omega arith)) (λ k. inl (omega arith)) t.no_worse; has = t.has })
      by ih (no h) = (x, record { from = l; to = omega arith; no_worse = inr (refl, omega arith); has = stays (omega arith) r })

  pub reaches : (u : ℕ) → first ≤ u → u ≤ last → (y : ℕ) × Reached Turns u y
  reaches u p q =
      let (v, a) = left (u - first) u (omega arith) q in
      let (y, b) = right (last - v) v (omega (arith, a.to)) a.from a.has in
      (y, record { from = b.from; to = b.to; no_worse = no_worse_chain a.no_worse b.no_worse; has = b.has })
