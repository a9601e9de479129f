-- The test on ect_bar and the search are the definition's, and with no ect_bar past lct there is no candidate.
use mathlib.Core.Path.{◌≡◌, sym, ap, ◌∙◌}
use mathlib.Core.Option.{Option}
use Prim.Native.Nat.{ℕ}
use Rattle.trees.specs.Ects.{exceeds}
use Rattle.trees.specs.Leaves.{ect_bar_of, responsible}
use Rattle.trees.specs.Operations.{Held}
use Rattle.propagator.proofs.PostWords.{candidate_none, candidate_some}
use Rattle.propagator.proofs.disjunctive_propagator.candidate.Goals.{After-exceeds}
use Rattle.propagator.proofs.disjunctive_propagator.candidate.Goals as goal

-- the test is the definition's
tested : (x : After-exceeds) → let a = x.args in (h : Held a.tasks.now.size.inner a.nodes.now) → x.exceeds.result ≡ exceeds (ect_bar_of h.J h.est_order h.leaves) a.lct
tested x h = let a = x.args in x.exceeds.ensures ∙ ap (λ (o : Option ℕ). exceeds o a.lct) (x.ect_bar.ensures a.tasks.now.size.inner h)

pub returns-then-not-exceeds : goal.returns-then-not-exceeds
returns-then-not-exceeds c = λ h z.
    let a = c.args in
    candidate_none a.tasks.now.reverse_mapping.now a.lct (ect_bar_of h.J h.est_order h.leaves) (responsible h.J h.est_order h.leaves)
    (sym (tested (goal.at.returns-then-not-exceeds c).After-exceeds h) ∙ c.if-not-exceeds.true)

pub returns : goal.returns
returns c = λ h z.
    let a = c.args in
    c.responsible_ect_bar.ensures h z
    ∙ candidate_some a.tasks.now.reverse_mapping.now a.lct (ect_bar_of h.J h.est_order h.leaves) (responsible h.J h.est_order h.leaves)
    (sym (tested (goal.at.returns c).After-exceeds h) ∙ c.if-not-exceeds.false)
