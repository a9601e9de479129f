-- The best of the stretches that start with a task or end with one is the best of all.
use mathlib.Core.Path.{◌≡◌, sym, subst, ◌∙◌}
use mathlib.Core.Logic.{◌⊎◌, inl, inr}
use Prim.Native.Nat.{ℕ, ◌+◌, ◌≤◌, ◌<◌}
use mathlib.Core.List.{List}
use native.Mathlib.Omega.{arith}
use lib.ListN.{length, get_or}
use mir.Syntax.{w32}
use mir.Val.{Fits}
use Rattle.scheduling.proofs.Sets.{total_part}
use native.Mathlib.Numerals.{add-one}
use Rattle.integers.proofs.Bools.{below_suc}
use Rattle.scheduling.specs.Scheduling.{natural, Tasks}
use Rattle.busiest_stretch.specs.StretchMoments.{Slidable, covered_in, NoWorse, StretchHeld, Tried, BusiestMoment}
use Rattle.busiest_stretch.proofs.CoveredTime.{edge}
use Rattle.busiest_stretch.proofs.LocalBest.{no_worse_chain, Turns, reaches}

-- (c, x) is no worse than the stretch from u on, where that start counts
abbrev pub Beats : Tasks natural → ℕ → ℕ → ℕ → ℕ → ℕ → ℕ → Type 0
Beats M w first last c x u = first ≤ u → u ≤ last → NoWorse (covered_in M w u) u c x

-- Nor than those of the first i tasks: from the task's start on, and up to its end.
pub record Best (M : Tasks natural) (w first last i c x : ℕ) : Type 0 where
  pub held : StretchHeld M w first last c x
  pub starts : (k : ℕ) → k < i → Beats M w first last c x (M.earliest k)
  pub ends : (k : ℕ) → k < i → (u : ℕ) → M.earliest k + M.duration k ≡ u + w → Beats M w first last c x u

-- what the limits leave to the ends of tasks
module _ {w first last : ℕ} (starts ds : List ℕ) (s : Slidable starts ds w first last) where
  pub end_fits : (k : ℕ) → k < length starts → Fits w32 (get_or starts k 0 + get_or ds k 0)
  end_fits k q = record { fits = omega (arith, s.greatest k q, s.high, total_part (λ j. get_or ds j 0) (length starts) k q, s.sum) }

  pub end_late : (k : ℕ) → k < length starts → w ≤ get_or starts k 0 + get_or ds k 0
  end_late k q = omega (arith, s.least k q, s.low, s.short)

module _ (M : Tasks natural) (w first last : ℕ) where
  pub none_yet : (c : ℕ) → c ≡ covered_in M w first → first ≤ last → Best M w first last 0 c first
  none_yet c e h = record {
    held = record { from = omega arith; to = h; covers = sym e };
    starts = λ k q. absurd (omega arith);
    ends = λ k q. absurd (omega arith);
  }

  -- both of one more task are tried
  pub one_more : {i c x c₁ x₁ c₂ x₂ : ℕ} (v : ℕ) → Best M w first last i c x
      → Tried M w first last (M.earliest i) c x c₁ x₁ → M.earliest i + M.duration i ≡ v + w
      → Tried M w first last v c₁ x₁ c₂ x₂ → Best M w first last (i + 1) c₂ x₂
  one_more {i} {c} {x} {c₁} {x₁} {c₂} {x₂} v b s e t = record {
    held = t.held;
    starts = rw (add-one i) (below_suc (λ k. Beats M w first last c₂ x₂ (M.earliest k)) i (λ k q l h. on (b.starts k q l h)) (λ l h. no_worse_chain (s.tried l h) t.kept));
    ends = rw (add-one i) (below_suc (λ k. (u : ℕ) → M.earliest k + M.duration k ≡ u + w → Beats M w first last c₂ x₂ u) i (λ k q u z l h. on (b.ends k q u z l h))
        (λ u z. (let g : v ≡ u = omega arith in subst (Beats M w first last c₂ x₂) g t.tried)));
  }
    where
      on : {d y : ℕ} → NoWorse d y c x → NoWorse d y c₂ x₂
      on h = no_worse_chain h (no_worse_chain s.kept t.kept)

  -- all are, and so no start that counts is better
  pub best_of_all : (c x : ℕ) → Best M w first last M.count c x
      → (k : ℕ) × (k < M.count) × (M.earliest k ≡ first) → (k : ℕ) × (k < M.count) × (M.earliest k ≡ last)
      → BusiestMoment M w first last c x
  best_of_all c x b (j, p, e) (k, q, f) = record { held = b.held; most = most }
    where
      turn : (y : ℕ) → Turns (covered_in M w) first last y → Beats M w first last c x y
      turn y (inl z) = subst (Beats M w first last c x) (e ∙ sym z) (b.starts j p)
      turn y (inr (inl z)) = subst (Beats M w first last c x) (f ∙ sym z) (b.starts k q)
      turn y (inr (inr (z, s, rise, fall))) = met (edge M w z rise fall)
        where
          met : (i : ℕ) × (i < M.count) × ((M.earliest i ≡ z + 1) ⊎ (M.earliest i + M.duration i ≡ z + 1 + w))
              → Beats M w first last c x y
          met (i, l, inl h) = subst (Beats M w first last c x) (h ∙ sym s) (b.starts i l)
          met (i, l, inr h) = b.ends i l y (omega arith)

      most : (u : ℕ) → first ≤ u → u ≤ last → NoWorse (covered_in M w u) u c x
      most u l h =
          let (y, r) = reaches (covered_in M w) first last u l h in
          no_worse_chain r.no_worse (turn y r.has r.from r.to)
