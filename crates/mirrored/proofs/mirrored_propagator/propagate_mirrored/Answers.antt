-- What no test refuses is run in mirrored time, and its words are mirrored back: they are those of the mirrored pass.
use mathlib.Core.Path.{◌≡◌, sym}
use mathlib.Core.Bool.{true}
use native.Mathlib.Omega.{arith}
use lib.ListN.{length}
use Rattle.integers.specs.Limits.{TASKS}
use Rattle.records.specs.Refusals.{AcceptedRun}
use Rattle.records.proofs.RefusedRuns.{accepted_run}
use Rattle.mirrored.proofs.MirroredEnds.{words_mirrorable, left_mirrored}
use borrow.Author.Rules.{rules}
use Rattle.mirrored.proofs.mirrored_propagator.propagate_mirrored.Goals.{In_default, Start}
use Rattle.mirrored.proofs.mirrored_propagator.propagate_mirrored.Goals as goal

-- the durations have TASKS places
long : (c : Start) → length c.args.«record».durations ≡ TASKS
long c = search rules

-- no test failed
passed : (c : In_default) → let a = c.args in AcceptedRun a.«record» a.earliest.now a.latest.now (length a.posts.now) (length a.atoms.now)
    × (a.bars_fit ≡ true)
passed c = let a = c.args in
    (accepted_run a.«record» a.earliest.now a.latest.now a.bars_fit (length a.posts.now) (length a.atoms.now)).0 (sym c.in_default.ensures)

pub run_in_mirror-outcome-requires : goal.run_in_mirror-outcome-requires
run_in_mirror-outcome-requires c = (passed (goal.at.run_in_mirror-outcome-requires c).In_default).0

pub mirror_words-requires : goal.mirror_words-requires
mirror_words-requires c =
    let past = goal.at.mirror_words-requires c in
    words_mirrorable (passed past.In_default).0 (long past.Start) c.run_in_mirror-outcome.ensures

pub returns : goal.returns
returns c =
    let past = goal.at.returns c in
    let a = c.args in
    let p = passed past.In_default in
    let r = c.run_in_mirror-outcome.ensures in
    record {
      refused = λ h. absurd (h ((accepted_run a.«record» a.earliest.now a.latest.now a.bars_fit (length a.posts.now) (length a.atoms.now)).1 p));
      accepted = λ z. left_mirrored p.0 (long past.Start) r (omega arith) (omega arith) (c.mirror_words.ensures (words_mirrorable p.0 (long past.Start) r));
    }
