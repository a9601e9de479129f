-- The bounds of the tasks as moments, in the caller's time and in mirrored time, as the code computes them.
use mathlib.Core.Path.{◌≡◌, refl, subst}
use mathlib.Core.Bool.{Bool, true, false, cond, ◌&&◌}
use mathlib.Core.List.{List}
use mathlib.Core.Option.{Option, some, none}
use Prim.Native.Nat.{ℕ, ◌+◌, ◌-◌, ◌≤◌, ◌<◌}
use native.Mathlib.Omega.{arith}
use lib.IntN.{ℤ, negsuc}
use lib.ListN.{get_or}
use Rattle.integers.specs.Limits.{DURATIONS, VALUE, HOLES}
use Rattle.integers.specs.Moments.{moment, zero_at}
use Rattle.scheduling.specs.Scheduling.{natural, Tasks, TaskSet}
use Rattle.scheduling.specs.MirroredTime.{start_mirrored}
use Rattle.trees.specs.NodeBounds.{LATEST}
use Rattle.integers.specs.WholeNumbers.{Within}
use Rattle.checker.specs.StartBounds.{mirror_bound}
use Rattle.checker.specs.Formulas.{known, value_of}
use Rattle.chosen_sets.specs.TaskArrays.{HeldSet, Late}
use Rattle.checking.specs.TaskBounds.{bounds_between, bounded_of, est_of, lst_of}
use Rattle.checker.specs.BoundArrays.{moment_mirrored}
use Rattle.checker.proofs.MirroredAtoms.{bound_some, mirrored_moment_is}

-- One task -------------------------------------------------------------------------------------------------------------------

-- the moment of a bound, where the task has two
abbrev pub side : Option ℤ → Option ℤ → Option ℤ → ℕ
side l u o = moment zero_at (cond (known l && known u) (value_of o) (negsuc 2147483647))

pub sides : (l u : Option ℤ) → (bounded_of (bounds_between l u) ≡ known l && known u) × (est_of (bounds_between l u) ≡ side l u l) × (lst_of (bounds_between l u) ≡ side l u u)
sides (some x) (some y) = (refl, refl, refl)
sides (some x) none = (refl, refl, refl)
sides none u = (refl, refl, refl)

-- a bound that is a number is at most LATEST as a moment, and the other moments are 0
pub side_most : (l u e : Option ℤ) → ((z : ℤ) → e ≡ some z → moment zero_at z ≤ LATEST) → side l u e ≤ LATEST
side_most l u e h = by (known l && known u) e h
  where
    by : (b : Bool) (e : Option ℤ) → ((z : ℤ) → e ≡ some z → moment zero_at z ≤ LATEST) → moment zero_at (cond b (value_of e) (negsuc 2147483647)) ≤ LATEST
    by true (some z) h = h z refl
    by true none h = omega arith
    by false e h = omega arith

-- a task has two bounds in mirrored time where it has two
pub mirrored_known : (p : ℕ) (l u : Option ℤ) → bounded_of (bounds_between l u) ≡ known (mirror_bound p u) && known (mirror_bound p l)
mirrored_known p (some x) (some y) = refl
mirrored_known p (some x) none = refl
mirrored_known p none (some y) = refl
mirrored_known p none none = refl

-- the code's moment is that of the mirrored bound
moment_is : (p : ℕ) (z : ℤ) → p ≤ DURATIONS → Within (VALUE + 1 + HOLES) z → 4294967296 - (moment zero_at z + p) ≡ moment zero_at (start_mirrored p z)
moment_is p z h w = omega (arith, (mirrored_moment_is p z h w).is)

abbrev pub Near : Option ℤ → Type 0
Near o = (z : ℤ) → o ≡ some z → Within (VALUE + 1 + HOLES) z

pub mirrored_sides : (p : ℕ) → p ≤ DURATIONS → (l u : Option ℤ) → Near l → Near u
    → (moment_mirrored (bounded_of (bounds_between l u)) (lst_of (bounds_between l u)) p ≡ side (mirror_bound p u) (mirror_bound p l) (mirror_bound p u))
    × (moment_mirrored (bounded_of (bounds_between l u)) (est_of (bounds_between l u)) p ≡ side (mirror_bound p u) (mirror_bound p l) (mirror_bound p l))
mirrored_sides p h (some x) (some y) v w = (moment_is p y h (w y refl), moment_is p x h (v x refl))
mirrored_sides p h (some x) none v w = (refl, refl)
mirrored_sides p h none (some y) v w = (refl, refl)
mirrored_sides p h none none v w = (refl, refl)

pub mirrored_most : (p : ℕ) → 1 ≤ p → p ≤ DURATIONS → (l u e : Option ℤ) → Near e → side (mirror_bound p u) (mirror_bound p l) (mirror_bound p e) ≤ LATEST
mirrored_most p one h l u e w = side_most (mirror_bound p u) (mirror_bound p l) (mirror_bound p e)
    (λ z y. let (x, o, same) = bound_some p e z y in subst (λ (z : ℤ). moment zero_at z ≤ LATEST) same ((mirrored_moment_is p x h (w x o)).fits one))

pub moment_alike : {b b' : Bool} {t t' p p' : ℕ} → b ≡ b' → t ≡ t' → p ≡ p' → moment_mirrored b t p ≡ moment_mirrored b' t' p'
moment_alike x y z = λ i. moment_mirrored (x i) (y i) (z i)

-- The arrays ---------------------------------------------------------------------------------------------------------------------

module _ {J : Tasks natural} {Ω : TaskSet} {n : ℕ} {chosen : List Bool} {est durations lst : List ℕ} (h : HeldSet J Ω n chosen est durations) (l : Late J n lst) (i : ℕ) (q : i < n) where
  pub lasts_one : 1 ≤ get_or durations i 0
  lasts_one = omega (arith, h.lasts i q, h.proper.lasts i (omega (arith, h.count)))
