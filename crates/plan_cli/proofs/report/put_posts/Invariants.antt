-- The invariant `Reached`: the lines of the first j posts stand in front, in the room that posts and atoms of that many take.
use Rattle.plan_cli.proofs.Reports.{Reached}
use Rattle.plan_cli.proofs.report.put_posts.Given as goal

abbrev pub invariant-loop-j : goal.invariant-loop-j
invariant-loop-j l = Reached l.initial.out l.posts l.atoms l.count l.out l.end l.j
