use Rattle.checker.proofs.TaskLoop.{ends_fit}
use mathlib.Core.Path.{◌≡◌, refl, sym, ap, ◌∙◌}
use mathlib.Core.Bool.{Bool, false}
use mathlib.Core.List.{List}
use Prim.Native.Nat.{ℕ, ◌+◌, ◌≤◌, ◌<◌}
use native.Mathlib.Omega.{arith}
use lib.ListN.{get_or}
use Rattle.integers.specs.FilledLists.{filled}
use Rattle.integers.proofs.FilledLists.{filled_none, filled_store, filled_past}
use Rattle.checking.specs.TaskBounds.{bounds_in}
use Rattle.checking.specs.declared.start_bounds.Bounds.{Bounds}
use Rattle.checker.specs.BoundArrays.{moment_mirrored, mirrored_bounds}
use Rattle.checker.proofs.MirroredBounds.{lasts_one, moment_alike}
use Rattle.checker.proofs.mirrored_bounds.mirror_bounds.Goals.{In-loop-i}
use Rattle.checker.proofs.mirrored_bounds.mirror_bounds.Goals as goal

-- the mirrored bounds of task k
abbrev est_at : Bounds → List ℕ → ℕ → ℕ
est_at b durations k = moment_mirrored (get_or b.bounded k false) (get_or b.lst k 0) (get_or durations k 0)

abbrev lst_at : Bounds → List ℕ → ℕ → ℕ
lst_at b durations k = moment_mirrored (get_or b.bounded k false) (get_or b.est k 0) (get_or durations k 0)

pub loop-i-init : goal.loop-i-init
loop-i-init c =
    let b = c.args.bounds.now in
    λ i. bounds_in b.bounded (sym (filled_none (est_at b c.args.durations.now) b.est) i) (sym (filled_none (lst_at b c.args.durations.now) b.lst) i)

-- at a turn: what was lent, and the bounds of the task, which are those lent
module _ (c : In-loop-i) where
  abbrev lent : Bounds
  lent = c.args.bounds.now

  abbrev durations : List ℕ
  durations = c.args.durations.now

  abbrev i : ℕ
  i = c.loop-i.i

  inside : i < c.args.n
  inside = omega arith

  est_is : c.loop-i.bounds.est ≡ filled (est_at lent durations) i lent.est
  est_is = ap (λ (b : Bounds). b.est) c.loop-i.invariant

  lst_is : c.loop-i.bounds.lst ≡ filled (lst_at lent durations) i lent.lst
  lst_is = ap (λ (b : Bounds). b.lst) c.loop-i.invariant

  est_here : get_or c.loop-i.bounds.est i 0 ≡ get_or lent.est i 0
  est_here = ap (λ (l : List ℕ). get_or l i 0) est_is ∙ filled_past (est_at lent durations) i lent.est 0 i (omega arith)

  lst_here : get_or c.loop-i.bounds.lst i 0 ≡ get_or lent.lst i 0
  lst_here = ap (λ (l : List ℕ). get_or l i 0) lst_is ∙ filled_past (lst_at lent durations) i lent.lst 0 i (omega arith)

  lasts : 1 ≤ get_or durations i 0
  lasts = let (J, Ω, d) = c.requires in lasts_one d.held d.late i inside

  sums_fit : (get_or c.loop-i.bounds.lst i 0 + get_or durations i 0 < 4294967296) × (get_or c.loop-i.bounds.est i 0 + get_or durations i 0 < 4294967296)
  sums_fit = let (J, Ω, d) = c.requires in
      let (e, l) = ends_fit d.held d.late i inside in (omega (arith, lst_here), omega (arith, est_here))

  bounded_is : c.loop-i.bounds.bounded ≡ lent.bounded
  bounded_is = ap (λ (b : Bounds). b.bounded) c.loop-i.invariant

  -- so the moment is that of what was lent
  moment_here : {t t' : ℕ} → t ≡ t' → moment_mirrored (get_or c.loop-i.bounds.bounded i false) t (get_or durations i 0) ≡ moment_mirrored (get_or lent.bounded i false) t' (get_or durations i 0)
  moment_here e = moment_alike (ap (λ (l : List Bool). get_or l i false) bounded_is) e refl

pub mirrored_moment-from-requires : goal.mirrored_moment-from-requires
mirrored_moment-from-requires c = (lasts (goal.at.mirrored_moment-from-requires c).In-loop-i, (sums_fit (goal.at.mirrored_moment-from-requires c).In-loop-i).0)

pub mirrored_moment-requires : goal.mirrored_moment-requires
mirrored_moment-requires c = (lasts (goal.at.mirrored_moment-requires c).In-loop-i, (sums_fit (goal.at.mirrored_moment-requires c).In-loop-i).1)

pub loop-i-preserved : goal.loop-i-preserved
loop-i-preserved c =
    let o = (goal.at.loop-i-preserved c).In-loop-i in
    let l = c.loop-i in
    λ k. bounds_in (bounded_is o k)
    (filled_store (est_at (lent o) (durations o)) (lent o).est l.bounds.est l.i c.mirrored_moment-from.result (est_is o) (c.mirrored_moment-from.ensures ∙ moment_here o (lst_here o)) k)
    (filled_store (lst_at (lent o) (durations o)) (lent o).lst l.bounds.lst l.i c.mirrored_moment.result (lst_is o) (c.mirrored_moment.ensures ∙ moment_here o (est_here o)) k)

pub returns : goal.returns
returns c =
    let e : c.loop-i.i ≡ c.args.n = omega arith in
    c.loop-i.invariant ∙ ap (mirrored_bounds c.args.bounds.now c.args.durations.now) e
