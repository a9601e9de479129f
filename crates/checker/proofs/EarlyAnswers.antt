-- The formula from what is gathered: no sum wraps, and each early answer is the formula's.
use mathlib.Core.Path.{◌≡◌, refl, sym, ap, ◌∙◌}
use mathlib.Core.Bool.{Bool, true, false, cond}
use mathlib.Core.List.{List, [], ◌∷◌}
use mathlib.Core.Option as specs
use Rattle.std.specs.Prelude.{Option, Some, None}
use Prim.Native.Nat.{ℕ, zero, suc, ◌+◌, ◌^◌, ◌≤◌, ◌<◌, min}
use native.Mathlib.Omega.{arith}
use native.Mathlib.Decide.{ℕ_discrete}
use lib.Dec.{ltb}
use lib.ListN.{get_or, set}
use lib.Seq.{get_or-set_other}
use borrow.Author.Tests.{eq-eqb, ne_eqb, lt-ltb, le-ltb}
use Rattle.integers.proofs.Bools.{cond_most}
use Rattle.scheduling.specs.Scheduling.{natural, Tasks, TaskSet, total, processing}
use Rattle.scheduling.specs.Ects.{ect_of}
use Rattle.scheduling.proofs.Sets.{total_part, total_mono}
use Rattle.scheduling.proofs.Processing.{processing_is}
use Rattle.trees.specs.Ects.{exceeds}
use Rattle.trees.specs.NodeBounds.{LATEST}
use Rattle.chosen_sets.specs.TaskArrays.{HeldSet, Late}
use Rattle.chosen_sets.proofs.RecordArrays.{choosing}
use Rattle.checker.specs.declared.intervals.Interval.{Interval}
use Rattle.checker.specs.Formulas.{◌but◌, any, lowest, highest, overloads_span, comes_after}
use Rattle.checker.specs.BoundArrays.{interval, interval_of}
use Rattle.checker.proofs.GatheredIntervals.{any_some, lowest_is}

-- where a task is gathered, the set has one, and the interval is its
pub found : {a : Bool} {v w : Interval} → Some v ≡ cond a (Some w) None → (a ≡ true) × (v ≡ w)
found {a = true} e = (refl, cc)
found {a = false} e = cc

nothing : {a : Bool} (w : Interval) → None ≡ cond a (Some w) None → a ≡ false
nothing {a = true} w e = cc
nothing {a = false} w e = refl

-- where no task is gathered: without a consequent, and with one on task i
module _ {J : Tasks natural} {Ω : TaskSet} {n : ℕ} {chosen : List Bool} {est durations : List ℕ} (h : HeldSet J Ω n chosen est durations) {r : Option Interval} (z : r ≡ interval_of J Ω n) (e : r ≡ None) where
  empty : any Ω J.count ≡ false
  empty = ap (any Ω) h.count ∙ nothing _ (sym e ∙ z)

  pub none_overloads : false ≡ overloads_span J Ω
  none_overloads = rw empty refl

  pub none_after : (i : ℕ) → false ≡ comes_after J Ω i
  none_after i = rw empty refl

module _ {J : Tasks natural} {Ω : TaskSet} {n : ℕ} {chosen : List Bool} {est durations : List ℕ} (h : HeldSet J Ω n chosen est durations) {r : Option Interval} (z : r ≡ interval_of J Ω n) (v : Interval) (e : r ≡ Some v) where
  -- what is gathered, by fields
  some_is : any Ω J.count ≡ true
  some_is = ap (any Ω) h.count ∙ (found (sym e ∙ z)).0

  fields : v ≡ interval (lowest J Ω n) (highest J Ω n) (total (λ k. cond (Ω k) (J.duration k) 0) n)
  fields = (found (sym e ∙ z)).1

  lb_is : v.lb_interval ≡ lowest J Ω J.count
  lb_is = ap (λ (x : Interval). x.lb_interval) fields ∙ ap (lowest J Ω) (sym h.count)

  ub_is : v.ub_interval ≡ highest J Ω J.count
  ub_is = ap (λ (x : Interval). x.ub_interval) fields ∙ ap (highest J Ω) (sym h.count)

  p_is : v.p ≡ processing J Ω
  p_is = ap (λ (x : Interval). x.p) fields ∙ ap (total (λ k. cond (Ω k) (J.duration k) 0)) (sym h.count) ∙ sym (processing_is J Ω)

  p_most : v.p ≤ total J.duration n
  p_most = omega (arith, ap (λ (x : Interval). x.p) fields, total_mono (λ k. cond (Ω k) (J.duration k) 0) J.duration n (λ k r. cond_most (Ω k) (J.duration k)))

  lb_most : v.lb_interval ≤ LATEST
  lb_most =
      let (k, m, e) = (lowest_is J Ω (λ k q. omega (arith, h.early k (omega (arith, h.count)))) (any_some J Ω some_is)).holds in
      omega (arith, lb_is, e, h.early k (omega (arith, m.small, h.count)))

  -- without a consequent
  pub reach_fits : v.lb_interval + v.p < 2 ^ 64
  reach_fits = omega (arith, lb_most, p_most, h.sum)

  pub some_overloads : ltb v.ub_interval (v.lb_interval + v.p) ≡ overloads_span J Ω
  some_overloads = rw (some_is, lb_is, ub_is, p_is) refl

  -- with a consequent on task i
  module _ {lst : List ℕ} (l : Late J n lst) (i : ℕ) (q : i < n) where
    abbrev reach : ℕ
    reach = min (get_or est i 0) v.lb_interval + v.p + get_or durations i 0

    pub joint_fits : (min (get_or est i 0) v.lb_interval + v.p < 2 ^ 64) × (reach < 2 ^ 64)
    joint_fits = (omega (arith, lb_most, p_most, h.sum), omega (arith, lb_most, p_most, h.sum, h.lasts i q, total_part J.duration n i q))

    abbrev whole_reach : ℕ
    whole_reach = min (J.earliest i) (lowest J Ω J.count) + processing J Ω + J.duration i

    reach_is : reach ≡ whole_reach
    reach_is = rw (h.start i q, lb_is, p_is, h.lasts i q) refl

    pub room_before : reach ≤ v.ub_interval → false ≡ comes_after J Ω i
    room_before r =
        rw (some_is, le-ltb (highest J Ω J.count) whole_reach (omega (arith, r, reach_is, ub_is))) refl

    pub after_where : v.ub_interval < reach → (e : specs.Option ℕ) → e ≡ ect_of J Ω → exceeds e (get_or lst i 0) ≡ comes_after J Ω i
    after_where r e w =
        rw (some_is, lt-ltb (highest J Ω J.count) whole_reach (omega (arith, r, reach_is, ub_is)), l.at i q, w) refl

-- theta, in the array: a place that is cleared, or that the array has not, reads false
cleared : (l : List Bool) (i : ℕ) → get_or (set l i false) i false ≡ false
cleared [] i = refl
cleared (x ∷ xs) zero = refl
cleared (x ∷ xs) (suc i) = cleared xs i

pub theta_held : {J : Tasks natural} {Ω : TaskSet} {n : ℕ} {chosen : List Bool} {est durations : List ℕ} → (i : ℕ)
    → HeldSet J Ω n chosen est durations → HeldSet J (Ω but i) n (set chosen i false) est durations
theta_held {chosen = chosen} i h = choosing h (λ k r. elim (ℕ_discrete k i) [
  | yes e ↦ rw (e, eq-eqb i i refl) (cleared chosen i)
  | no e ↦ rw (ne_eqb k i e) (get_or-set_other chosen i k false false e ∙ h.member k r)
])
