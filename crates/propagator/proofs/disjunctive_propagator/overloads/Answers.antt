-- The ect is at most the ect_bar, so it is not past lct where the last known ect_bar is not; else the words hold the tree, whose ect is compared.
use mathlib.Core.Path.{sym, ap, ◌∙◌}
use mathlib.Core.Option.{Option}
use Prim.Native.Nat.{ℕ}
use native.Mathlib.Omega.{arith}
use borrow.Author.Tests.{le-ltb}
use Rattle.trees.specs.Ects.{exceeds}
use Rattle.trees.proofs.NodeOrder.{ect_within}
use Rattle.propagator.proofs.disjunctive_propagator.overloads.Goals as goal

pub returns-else-last_ect_bar-lct : goal.returns-else-last_ect_bar-lct
returns-else-last_ect_bar-lct c = λ inner h. let a = c.args in
    le-ltb a.lct a.last_ect_bar (omega arith) ∙ sym (ect_within h.J h.est_order h.leaves a.lct (omega (arith, h.most)))

pub returns-then-last_ect_bar-lct : goal.returns-then-last_ect_bar-lct
returns-then-last_ect_bar-lct c = λ inner h. c.exceeds.ensures ∙ ap (λ (o : Option ℕ). exceeds o c.args.lct)
    (c.ect.ensures inner (record { J = h.J; est_order = h.est_order; leaves = h.leaves; limited = h.limited; tree = h.tree (omega arith) }))
