-- What a run on the record that creation made leaves is what is shown.
use mathlib.Core.Path.{subst}
use mathlib.Core.Logic.{◌⊎◌}
use Prim.Native.Nat.{ℕ}
use native.Mathlib.Omega.{arith}
use Rattle.runs.specs.Traces.{Trace}
use Rattle.plan_cli.specs.RunSlices.{Shown}
use Rattle.plan_cli.proofs.PrintedSlices.{shows, accepted_planned}
use Rattle.plan_cli.proofs.plan.plan.Goals as goal

pub returns-in-Ok : goal.returns-in-Ok
returns-in-Ok c =
    let a = c.args in
    let ran = c.propagate in
    subst (λ (what : ℕ ⊎ Trace). Shown what ran.result.outcome ran.new.posts ran.new.atoms ran.new.earliest)
    (accepted_planned a.earliest.now a.latest.now a.durations.now c.create-created.result c.create-created.ensures c.in-Ok.is)
    (shows c.create-created.result.«record» a.earliest.now a.latest.now a.posts.now a.atoms.now c.requires.post_room c.requires.atom_room ran.result
    ran.new.earliest ran.new.posts ran.new.atoms (omega (arith, ran.auto.earliest, c.requires.few)) ran.ensures)
