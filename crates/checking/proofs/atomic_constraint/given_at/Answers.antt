-- Place i is in the premises, or that many places further in the consequent, whose atom has a value that can be negated.
use mathlib.Core.Path.{sym, ap, ◌∙◌, subst}
use native.Mathlib.Omega.{arith}
use borrow.Author.Tests.{lt-ltb, le-ltb}
use lib.ListN.{length}
use Rattle.integers.specs.Limits.{VALUE}
use Rattle.scheduling.specs.Scheduling.{Atom, negation}
use Rattle.integers.specs.WholeNumbers.{Within}
use Rattle.checking.proofs.Given.{words, premise_place, consequent_place, consequent_value}
use Rattle.checking.proofs.atomic_constraint.given_at.Goals as goal

pub atom_at-requires : goal.atom_at-requires
atom_at-requires c =
    let ps = c.args.premises.now in
    let cs = c.args.consequent.now in
    (premise_place ps cs c.args.i c.requires.0 c.requires.1 c.if-i-premises.true, (words ps cs c.args.i c.requires.0 c.requires.1).0)

pub returns-then-i-premises : goal.returns-then-i-premises
returns-then-i-premises c =
    rw (lt-ltb c.args.i (length c.args.premises.now) c.if-i-premises.true) c.atom_at.ensures

pub atom_at-requires-2 : goal.atom_at-requires-2
atom_at-requires-2 c =
    let ps = c.args.premises.now in
    let cs = c.args.consequent.now in
    (omega (arith, consequent_place ps cs c.args.i c.requires.0 c.requires.1 c.if-i-premises.false), (words ps cs c.args.i c.requires.0 c.requires.1).2)

pub negate-requires : goal.negate-requires
negate-requires c =
    subst (Within VALUE) (sym (ap (λ (a : Atom). a.value) c.atom_at-2.ensures))
    (consequent_value c.args.premises.now c.args.consequent.now c.args.i c.requires.0 c.requires.1 c.if-i-premises.false)

pub returns : goal.returns
returns c =
    rw (le-ltb c.args.i (length c.args.premises.now) c.if-i-premises.false) (c.negate.ensures ∙ ap negation c.atom_at-2.ensures)
