-- Where the bound raises nothing, no word changes; else the task's own atom is stored, and the members' atoms after it.
use mathlib.Core.Path.{◌≡◌, ap, ◌∙◌}
use native.Mathlib.Omega.{arith}
use lib.ListN.{length}
use lib.Seq.{length-sets}
use borrow.Author.Rules.{rules}
use Rattle.precedences.proofs.ReasonContract.{members_fit, reason_left, nothing_left}
use Rattle.precedences.proofs.reason.write_reason.Goals as goal

pub write_members-requires : goal.write_members-requires
write_members-requires c =
    let same : length c.write_reason_atom.new.atoms ≡ length c.args.atoms.now = ap length c.write_reason_atom.ensures ∙ simp length-sets in
    let r = c.requires in
    (r.1.held.few, members_fit r.1 c.args.i r.2 c.predecessors-before.ensures _ (omega (arith, same, r.3)))

pub returns-then-not-exceeds : goal.returns-then-not-exceeds
returns-then-not-exceeds c J f = nothing_left f c.args.i c.requires.2 (c.bound_of.ensures J f) c.exceeds.ensures (search rules)

pub returns : goal.returns
returns c J f =
    reason_left f c.args.i c.requires.2 c.predecessors-before.ensures (c.bound_of.ensures J f) c.exceeds.ensures (search rules) c.write_reason_atom.ensures
    c.write_members.ensures

pub predecessors-before-requires : goal.predecessors-before-requires
predecessors-before-requires c = let r = c.requires in (r.0, r.1, r.2)

pub bound_of-requires : goal.bound_of-requires
bound_of-requires c = let r = c.requires in (r.0, r.1, r.2)
