-- Each turn stores the two numbers of range i over the numbers that were lent.
use mathlib.Core.Path.{◌≡◌, refl, sym}
use mathlib.Core.List.{List, [], map}
use Prim.Native.Nat.{ℕ, ◌+◌, ◌<◌}
use native.Mathlib.Omega.{arith}
use lib.IntN.{ℤ, pos}
use lib.ListN.{length, get_or, set, take, length-take}
use lib.Seq.{length-take-le, get_or-take}
use mir.Syntax.{w32}
use mir.Val.{SFits}
use Rattle.std.proofs.Common.{rules}
use Rattle.integers.proofs.Ints.{back}
use Rattle.integers.specs.Limits.{TASKS}
use Rattle.ranges.specs.declared.range.Range.{Range}
use Rattle.ranges.specs.TakenApart.{taken, over}
use Rattle.ranges.proofs.TakenApart.{taken_fits, over_more}
use Rattle.ranges.proofs.starts.take_apart.Goals as goal

-- a place among those that are taken is below the count
below : (ys : List Range) (count i : ℕ) → count ≡ taken (length ys) → i < length (take count ys) → (i < count) × (i < length ys) × (i < TASKS)
below ys count i e h = omega (arith, taken_fits (length ys), length-take count ys)

-- what a list of ranges is read to hold past its end
abbrev unset : Range
unset = record { earliest = pos 0; latest = pos 0; count = 0; barred = [] }

-- a number of range i, one of those that are taken, is stored
stored : (f : Range → ℤ) → f unset ≡ pos 0 → (us vs : List ℤ) (ys : List Range) (i n : ℕ) (z : ℤ) → vs ≡ over i (map f ys) us → z ≡ f (get_or (take n ys) i unset) → i < n → i < length us
    → i < length ys → set vs i z ≡ over (i + 1) (map f ys) us
stored f e us vs ys i n z is read t h k = rw (is, read, get_or-take n ys i unset t) (over_more f unset e ys us i h k)

pub slice_bounds-range-items-end : goal.slice_bounds-range-items-end
slice_bounds-range-items-end c = sym (length-take-le c.fitting-count.result c.args.ranges.now (omega (arith, c.fitting-count.ensures, taken_fits (length c.args.ranges.now))))

pub bounds-earliest-i : goal.bounds-earliest-i
bounds-earliest-i c = (below c.args.ranges.now _ c.loop-i.i c.fitting-count.ensures c.loop-i-test.true).2

pub bounds-latest-i : goal.bounds-latest-i
bounds-latest-i c = (below c.args.ranges.now _ c.loop-i.i c.fitting-count.ensures c.loop-i-test.true).2

pub loop-i-preserved : goal.loop-i-preserved
loop-i-preserved c =
    let l = c.loop-i in
    let h = below c.args.ranges.now _ l.i c.fitting-count.ensures c.loop-i-test.true in
    let e : SFits w32 (get_or (take c.fitting-count.result c.args.ranges.now) l.i unset).earliest = search rules in
    let m : SFits w32 (get_or (take c.fitting-count.result c.args.ranges.now) l.i unset).latest = search rules in
    record {
      earliest = stored (λ y. y.earliest) refl _ _ _ _ _ _ l.invariant.earliest (back e) h.0 (omega arith) h.1;
      latest = stored (λ y. y.latest) refl _ _ _ _ _ _ l.invariant.latest (back m) h.0 (omega arith) h.1;
    }

pub returns : goal.returns
returns c =
    let l = c.loop-i in
    let all : l.i ≡ c.fitting-count.result = omega (arith, taken_fits (length c.args.ranges.now), c.fitting-count.ensures, length-take c.fitting-count.result c.args.ranges.now) in
    record { count = c.fitting-count.ensures; earliest = rw all at l.invariant.earliest; latest = rw all at l.invariant.latest }
