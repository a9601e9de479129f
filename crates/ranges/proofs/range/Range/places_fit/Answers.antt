use mathlib.Core.Path.{◌≡◌, sym, ap, ◌∙◌}
use mathlib.Core.Bool.{Bool, ◌&&◌}
use Prim.Native.Nat.{◌+◌, ◌-◌}
use native.Mathlib.Omega.{arith}
use lib.IntN.{pos}
use lib.ListN.{length, get_or}
use lib.Signed.{lt_z}
use mir.Syntax.{w32}
use mir.Val.{SFits}
use Rattle.std.proofs.Common.{rules}
use Rattle.integers.proofs.Bools.{and_left, and_is}
use Rattle.integers.proofs.Ints.{back}
use Rattle.ranges.specs.Bars.{bars_of, is_inside, bars_are_fit}
use Rattle.ranges.proofs.BarsFrom.{bars_length, fit_from, fit_first, fit_on, fit_end}
use Rattle.ranges.proofs.range.Range.places_fit.Goals.{After-follows, After-inside}
use Rattle.ranges.proofs.range.Range.places_fit.Goals as goal

-- as many bars as the count says
all : (c : After-inside) → length (bars_of c.args.self.now) ≡ c.args.self.now.count
all c = bars_length c.args.self.now (search rules) (omega (arith, c.requires))

-- what the test of the first bar says
first : (c : After-inside) → let y = c.args.self.now in c.inside.result ≡ is_inside y (get_or y.barred 0 (pos 0))
first c =
    let y = c.args.self.now in
    let f : SFits w32 (get_or y.barred 0 (pos 0)) = search rules in
    c.inside.ensures ∙ ap (is_inside y) (back f)

-- and that of a later one
later : (c : After-follows) → let i = c.loop-i.i in let y = c.args.self.now in
    c.follows.result ≡ lt_z (get_or y.barred (i - 1) (pos 0)) (get_or y.barred i (pos 0)) && is_inside y (get_or y.barred i (pos 0))
later c =
    let i = c.loop-i.i in
    let y = c.args.self.now in
    let f : SFits w32 (get_or y.barred (i - 1) (pos 0)) = search rules in
    let g : SFits w32 (get_or y.barred i (pos 0)) = search rules in
    rw (back f, back g) at c.follows.ensures

pub returns-then-not-inside : goal.returns-then-not-inside
returns-then-not-inside c =
    let s = (goal.at.returns-then-not-inside c).After-inside in
    sym (fit_first c.args.self.now (omega (arith, c.requires)) (omega (arith, all s, c.requires)) ∙ and_left _ _ (sym (first s) ∙ c.if-not-inside.true))

pub loop-i-init : goal.loop-i-init
loop-i-init c =
    let s = (goal.at.loop-i-init c).After-inside in
    sym (fit_first c.args.self.now (omega (arith, c.requires)) (omega (arith, all s, c.requires)) ∙ and_is _ _ (sym (first s) ∙ c.if-not-inside.false))

-- what is left from the next place on
abbrev rest : After-follows → Bool
rest c = fit_from c.args.self.now (c.loop-i.i + 1)

on : (c : After-follows) → length (bars_of c.args.self.now) ≡ c.args.self.now.count → bars_are_fit c.args.self.now ≡ c.follows.result && rest c
on c all =
    let l = c.loop-i in
    sym l.invariant ∙ fit_on c.args.self.now l.i l.auto.i (omega (arith, all)) ∙ ap (λ (t : Bool). t && rest c) (sym (later c))

pub returns-then-not-follows : goal.returns-then-not-follows
returns-then-not-follows c =
    let s = (goal.at.returns-then-not-follows c).After-follows in
    sym (on s (all (goal.at.returns-then-not-follows c).After-inside) ∙ and_left c.follows.result (rest s) c.if-not-follows.true)

pub loop-i-preserved : goal.loop-i-preserved
loop-i-preserved c =
    let s = (goal.at.loop-i-preserved c).After-follows in
    sym (on s (all (goal.at.loop-i-preserved c).After-inside) ∙ and_is c.follows.result (rest s) c.if-not-follows.false)

pub returns : goal.returns
returns c =
    let l = c.loop-i in
    sym (sym l.invariant ∙ fit_end c.args.self.now l.i l.auto.i (omega (arith, all (goal.at.returns c).After-inside)))
