use mathlib.Core.Path.{◌≡◌, sym, ◌∙◌}
use borrow.Author.Rules.{rules}
use Rattle.std.specs.Prelude.{sum}
use Rattle.records.proofs.Slices.{total_sum}
use Rattle.records.proofs.record.total_of.Goals as goal

pub returns : goal.returns
returns c = let e : c.sum.result ≡ sum c.args.durations.now = search rules in e ∙ sym (total_sum _)
