-- What no test refuses is run, and what a test refuses leaves everything unchanged.
use mathlib.Core.Path.{◌≡◌, refl, sym}
use mathlib.Core.Bool.{true}
use lib.ListN.{length}
use Rattle.records.specs.Refusals.{AcceptedRun}
use Rattle.records.proofs.RefusedRuns.{accepted_run}
use Rattle.propagator.proofs.AcceptedInput.{runnable}
use Rattle.propagator.proofs.disjunctive_propagator.propagate.Goals.{In_default}
use Rattle.propagator.proofs.disjunctive_propagator.propagate.Goals as goal

-- no test failed
passed : (c : In_default) → let a = c.args in
    AcceptedRun a.«record» a.earliest.now a.latest.now (length a.posts.now) (length a.atoms.now) × (a.bars_fit ≡ true)
passed c = let a = c.args in
    (accepted_run a.«record» a.earliest.now a.latest.now a.bars_fit (length a.posts.now) (length a.atoms.now)).0 (sym c.in_default.ensures)

pub run_accepted-finished-requires : goal.run_accepted-finished-requires
run_accepted-finished-requires c =
    let a = c.args in
    runnable a.«record» a.earliest.now a.latest.now (length a.posts.now) (length a.atoms.now) (passed (goal.at.run_accepted-finished-requires c).In_default).0

pub returns : goal.returns
returns c =
    let a = c.args in
    record {
      keeps = refl;
      refused = λ h. absurd (h ((accepted_run a.«record» a.earliest.now a.latest.now a.bars_fit (length a.posts.now) (length a.atoms.now)).1 (passed (goal.at.returns c).In_default)));
      accepted = λ z. c.run_accepted-finished.ensures;
    }
