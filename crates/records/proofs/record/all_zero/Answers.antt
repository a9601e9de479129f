use mathlib.Core.Path.{refl, sym}
use lib.ListN.{get_or}
use Rattle.integers.proofs.Tests.{all_none}
use Rattle.records.proofs.OneMore.{one_more}
use Rattle.records.proofs.UnusedPlaces.{gathered}
use Rattle.records.proofs.record.all_zero.Goals as goal

pub loop-x-init : goal.loop-x-init
loop-x-init c = sym (all_none _)

pub loop-x-preserved : goal.loop-x-preserved
loop-x-preserved c = one_more _ _ c.loop-x.invariant refl (gathered c.loop-x.used (get_or c.args.places.now c.loop-x.x-index 0))
