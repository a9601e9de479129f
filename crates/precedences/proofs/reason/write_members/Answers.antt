use mathlib.Core.Path.{◌≡◌}
use Prim.Native.Nat.{◌<◌}
use native.Mathlib.Omega.{arith}
use Rattle.post_words.proofs.StoredAtoms.{stored_then}
use Rattle.precedences.specs.PredecessorArrays.{start_at}
use Rattle.precedences.specs.ReasonArrays.{member_at}
use Rattle.precedences.proofs.ReasonContract.{none_yet}
use Rattle.precedences.proofs.Members.{both_more, part}
use Rattle.precedences.proofs.reason.write_members.Goals as goal

pub write_both-k-requires : goal.write_both-k-requires
write_both-k-requires c =
    let l = c.loop-j in
    let m = c.args.m.now in
    let q : l.j < m.count = omega arith in
    (λ y. omega (arith, l.invariant.count, part (start_at m.est) (start_at m.lst) (member_at c.args.members.now) l.j m.count q y, c.requires.1), omega (arith, c.requires.0))

pub loop-j-preserved : goal.loop-j-preserved
loop-j-preserved c =
    let l = c.loop-j in
    let m = c.args.m.now in
    rw (both_more (start_at m.est) (start_at m.lst) (member_at c.args.members.now) l.j) (stored_then l.invariant c.write_both-k.ensures)

pub returns : goal.returns
returns c =
    let e : c.loop-j.j ≡ c.args.m.now.count = omega arith in
    rw e at c.loop-j.invariant

pub loop-j-init : goal.loop-j-init
loop-j-init c = none_yet _ _ _
