-- The post's own line, and after it the lines of what `post_reason` reads of the atoms.
use mathlib.Core.Path.{◌∙◌}
use mir.Syntax.{w32}
use Rattle.integers.proofs.Ints.{back_of}
use Rattle.plan_cli.proofs.Reports.{puts_posted}
use borrow.Author.Rules.{rules}
use Rattle.plan_cli.proofs.report.put_posted.Goals as goal

pub returns-clause-text : goal.returns-clause-text
returns-clause-text c =
    let post = c.read_post-post in
    puts_posted c.args.posts.now c.args.atoms.now _ c.args.count c.args.j (back_of w32 post.result.task (search rules) ∙ post.ensures.task)
    (back_of w32 post.result.bound (search rules) ∙ post.ensures.bound) c.post_reason.ensures c.put_post-end.ensures.text c.put_reason.ensures.text
