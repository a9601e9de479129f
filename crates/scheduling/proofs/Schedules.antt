-- What overloads, edge-finding bounds and posts mean for schedules, over whole numbers.
use mathlib.Core.Logic.{inl, inr}
use Prim.Native.Nat.{ℕ, ◌<◌}
use lib.IntN.{ℤ}
use lib.Signed.{◌≤ℤ◌, clash_ℤ, <ℤ-≤ℤ_trans}
use Rattle.integers.specs.Moments.{moment, Above}
use Rattle.integers.proofs.MomentSums.{reflect, above_up, deep}
use Rattle.scheduling.specs.Scheduling.{whole, Tasks, Proper, TaskSet, EdgeFindingBound, Overloads, Schedule, Conflict, Done, RuleFormula}
use Rattle.scheduling.proofs.Rule.{rule_sound as natural_rule_sound, check_sound as natural_check_sound, overload_sound as natural_overload_sound}
use Rattle.scheduling.proofs.Clocks.{sound, edge→, edge_above, overload→, schedule→, checks→}
use Rattle.scheduling.specs.Moments.{moments}

module _ (J : Tasks whole) (ok : Proper J) where
  -- a moment of 0 before all of the tasks
  o : ℕ
  o = (deep J.earliest J.count).0

  low : (k : ℕ) → k < J.count → Above o (J.earliest k)
  unfolding o
  low = (deep J.earliest J.count).1

  -- An edge-finding bound of i holds in every schedule.
  pub rule_sound : (s : ℕ → ℤ) → Schedule J s → (i : ℕ) (b : ℤ) → EdgeFindingBound J i b → b ≤ℤ s i
  rule_sound s h i b r = reflect o b (s i) (edge_above o J ok low i b r) (above_up o (J.earliest i) (s i) (h.from i r.outside.small) (low i r.outside.small))
      (natural_rule_sound (moments o J) (sound o J ok low) (λ k. moment o (s k)) (schedule→ o J ok low s h) i (moment o b) (edge→ o J ok low i b r))

  -- Where a set overloads its span there is no schedule.
  pub overload_sound : (s : ℕ → ℤ) → Schedule J s → (Ω : TaskSet) → Overloads J Ω → ⊥
  overload_sound s h Ω v = natural_overload_sound (moments o J) (sound o J ok low) (λ k. moment o (s k)) (schedule→ o J ok low s h) Ω (overload→ o J ok low Ω v)

  -- Where the checker's formula passes there is no schedule.
  pub formula_sound : (s : ℕ → ℤ) → Schedule J s → (Ω : TaskSet) (i : ℕ) → RuleFormula J Ω i → ⊥
  formula_sound s h Ω i c = natural_check_sound (moments o J) (sound o J ok low) (λ k. moment o (s k)) (schedule→ o J ok low s h) Ω i (checks→ o J ok low Ω i c)

  -- In a conflict there is no schedule: a set overloads, or a bound passes a latest start.
  pub conflict_sound : Conflict J → (s : ℕ → ℤ) → Schedule J s → ⊥
  conflict_sound (inl (Ω, v)) s h = overload_sound s h Ω v
  conflict_sound (inr (i, b, r, q)) s h = clash_ℤ (<ℤ-≤ℤ_trans q (rule_sound s h i b r)) (h.to i r.outside.small)

  -- Every post of a run that is done holds in every schedule.
  pub post_sound : (now : ℕ → ℤ) (m : ℕ) (task : ℕ → ℕ) (bound : ℕ → ℤ) → Done J now m task bound → (j : ℕ) → j < m → (s : ℕ → ℤ) → Schedule J s → bound j ≤ℤ s (task j)
  post_sound now m task bound d j q s h = rule_sound s h (task j) (bound j) (d.at_largest j q).holds
