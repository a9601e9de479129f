-- Words that are an atom have a variable that is not negative and one of the four kinds.
use Rattle.std.proofs.Common.{◌∙◌, sym, ap, ℤ, pos, nat_abs, ◌≤ℤ◌}
use mathlib.Core.Path.{subst}
use Rattle.integers.proofs.Ints.{back}
use Rattle.checking.proofs.Atoms.{right_atom_is, kind_known, kind_made}
use Rattle.checking.specs.Atoms.{comparison_at}
use Rattle.checking.proofs.atomic_constraint.AtomicConstraint.new.Goals as goal

pub nat_of-requires : goal.nat_of-requires
nat_of-requires c = subst (λ (z : ℤ). pos 0 ≤ℤ z) (sym (back c.ranges.variable)) (right_atom_is _ _ _ c.requires).variable

pub unwrap-requires : goal.unwrap-requires
unwrap-requires c =
    let r = right_atom_is _ _ _ c.requires in
    rw (c.try_from.ensures, back c.ranges.kind) (kind_known c.args.kind r.kind_low r.kind_high)

pub returns : goal.returns
returns c =
    let x = ap nat_abs (c.nat_of.ensures ∙ back c.ranges.variable) in
    let k = kind_made c.args.kind c.unwrap.result (ap comparison_at (sym (back c.ranges.kind)) ∙ sym c.try_from.ensures ∙ c.unwrap.ensures) in
    let v = back c.ranges.value in
    (λ i. record { variable = x i; kind = k i; value = v i })
