-- By the kind.
use mathlib.Core.Path.{sym, ap, ◌∙◌}
use lib.IntN.{pos}
use lib.Signed.{le_z}
use Rattle.integers.proofs.Ints.{back}
use Rattle.integers.specs.Texts.{bytes_of}
use Rattle.plan_cli.proofs.RunLines.{puts_as, sign_low, sign_high}
use Rattle.plan_cli.proofs.lines.put_sign.Goals as goal

pub returns-then-kind-le0-clause-text : goal.returns-then-kind-le0-clause-text
unfolding bytes_of
returns-then-kind-le0-clause-text c =
    puts_as (sign_low c.args.kind (ap (λ z. le_z z (pos 0)) (sym (back c.ranges.kind)) ∙ c.if-kind-le0.true)) c.put_bytes.ensures

pub returns-clause-text : goal.returns-clause-text
unfolding bytes_of
returns-clause-text c =
    puts_as (sign_high c.args.kind (ap (λ z. le_z z (pos 0)) (sym (back c.ranges.kind)) ∙ c.if-kind-le0.false)) c.put_bytes-2.ensures
