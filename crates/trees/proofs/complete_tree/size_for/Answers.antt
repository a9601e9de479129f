use mathlib.Core.Path.{refl}
use native.Mathlib.Omega.{arith}
use Rattle.trees.proofs.Heights.{size_is, width_some}
use Rattle.trees.proofs.complete_tree.size_for.Goals as goal

pub returns : goal.returns
returns c =
    let w = c.next_power_of_two-width.ensures in
    let h = c.ilog2.ensures in
    let (least, wide) = size_is w.power w.lower_bound w.upper_bound h.power_le h.next_power_gt in
    (record { least = least; complete = omega (arith, wide, width_some c.ilog2.result) }, refl)
