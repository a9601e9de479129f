use native.Mathlib.Omega.{arith}
use Rattle.plan_cli.proofs.Reports.{reached_none, reached_room, reached_next}
use Rattle.plan_cli.proofs.report.put_posts.Goals as goal

pub loop-j-init : goal.loop-j-init
loop-j-init c = reached_none _ _ _ _

pub put_posted-end-requires : goal.put_posted-end-requires
put_posted-end-requires c =
    let l = c.loop-j in
    let p = reached_room _ _ _ _ l.out l.end l.j l.invariant _ c.requires c.loop-j-test.true in
    (p.0, omega (arith, p.1, l.auto.out))

pub loop-j-preserved : goal.loop-j-preserved
loop-j-preserved c =
    let w = c.put_posted-end in
    let l = c.loop-j in
    reached_next _ _ _ _ l.out l.end l.j l.invariant _ _ c.loop-j-test.true w.ensures.text w.ensures.within
