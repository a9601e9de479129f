-- A hole that is out of order, or not below the upper bound, makes the test at its place false; past the last hole nothing is left to test.
use Rattle.std.proofs.Common.{◌≡◌, ◌∙◌, sym, true, false, ℤ, pos, get_or, to_z, of_z, SFits, w32, rules}
use Rattle.std.proofs.Math.ListN.{drop_of_length-le}
use Rattle.integers.proofs.Ints.{back}
use Rattle.checking.specs.declared.int_ext.IntExt.TheVariants.{Int}
use Rattle.checking.specs.Domains.{lt_ext}
use Rattle.checking.proofs.AcceptedDomains.{ascend_on, ascend_end}
use Rattle.checking.proofs.domain.ascend_between.Goals as goal
use Rattle.checking.proofs.domain.ascend_between.Goals.{then-le-via-then-le, then-le-via-else-le+then-le-2}

pub returns-then-le : goal.returns-then-le
returns-then-le c =
    let l = c.loop-hole in
    let h : ℤ = get_or c.args.holes.now l.hole-index (pos 0) in
    let fits : SFits w32 h = search rules in
    let on = ascend_on c.args.holes.now l.hole-index c.loop-hole-test.true l.last c.args.upper_bound in
    elim c.then-le.branch [
      | then-le-via-then-le w ↦ (let e : lt_ext l.last (Int (to_z w32 (of_z w32 h))) ≡ false = search rules in
          sym (sym l.invariant ∙ on ∙ rw (← back fits, e)))
      | then-le-via-else-le+then-le-2 w ↦
          (let e : lt_ext l.last (Int (to_z w32 (of_z w32 h))) ≡ true = search rules in
          let f : lt_ext (Int (to_z w32 (of_z w32 h))) c.args.upper_bound ≡ false = search rules in
          sym (sym l.invariant ∙ on ∙ rw (← back fits, e, f)))
    ]

pub loop-hole-preserved : goal.loop-hole-preserved
loop-hole-preserved c =
    let l = c.loop-hole in
    let h : ℤ = get_or c.args.holes.now l.hole-index (pos 0) in
    let fits : SFits w32 h = search rules in
    let on = ascend_on c.args.holes.now l.hole-index c.loop-hole-test.true l.last c.args.upper_bound in
    let e : lt_ext l.last (Int (to_z w32 (of_z w32 h))) ≡ true = search rules in
    let f : lt_ext (Int (to_z w32 (of_z w32 h))) c.args.upper_bound ≡ true = search rules in
    rw (back fits) (sym (on ∙ rw (rw (back fits) at e, rw (back fits) at f)) ∙ l.invariant)

pub returns : goal.returns
returns c =
    let l = c.loop-hole in
    let none = drop_of_length-le c.args.holes.now {i = l.hole-index} c.loop-hole-test.false in
    sym (sym l.invariant ∙ rw none (ascend_end l.last c.args.upper_bound))
