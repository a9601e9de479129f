-- A member has two atoms, stored one after the other; what is no member has none.
use mathlib.Core.Path.{◌≡◌, ap, ◌∙◌}
use mathlib.Core.List.{[], ◌∷◌}
use Prim.Native.Nat.{◌+◌, ◌*◌, ◌≤◌}
use native.Mathlib.Omega.{arith}
use lib.IntN.{pos}
use lib.ListN.{length}
use lib.Seq.{sets, length-sets}
use borrow.Author.Tests.{not-true, not-false}
use Rattle.integers.specs.Moments.{instant, zero_at}
use Rattle.precedences.proofs.ReasonContract.{both_stored, none_stored}
use borrow.Author.Rules.{rules}
use Rattle.precedences.proofs.reason.write_both.Goals.{After-write_reason_atom, Else-not-member}
use Rattle.precedences.proofs.reason.write_both.Goals as goal

-- there is room for both atoms
room : (c : Else-not-member) → 3 * c.args.k + 6 ≤ length c.args.atoms.now
room c = c.requires.0 c.if-not-member.false

first : (c : After-write_reason_atom) → let a = c.args in c.write_reason_atom.new.atoms ≡ sets a.atoms.now (3 * a.k) (pos a.j ∷ pos 0 ∷ instant zero_at a.est ∷ [])
first c = c.write_reason_atom.ensures

length_first : (c : After-write_reason_atom) → length c.write_reason_atom.new.atoms ≡ length c.args.atoms.now
length_first c = ap length (first c) ∙ simp length-sets

pub write_reason_atom-requires-2 : goal.write_reason_atom-requires-2
write_reason_atom-requires-2 c =
    let past = goal.at.write_reason_atom-requires-2 c in
    (omega (arith, room past.Else-not-member, length_first past.After-write_reason_atom), c.requires.1)

pub overflow_add-result : goal.overflow_add-result
overflow_add-result c = omega (arith, room (goal.at.overflow_add-result c).Else-not-member)

pub returns-then-not-member : goal.returns-then-not-member
returns-then-not-member c = search (none_stored, not-true, rules)

pub write_reason_atom-requires : goal.write_reason_atom-requires
write_reason_atom-requires c = (omega (arith, room (goal.at.write_reason_atom-requires c).Else-not-member), c.requires.1)

pub overflow_add-k : goal.overflow_add-k
overflow_add-k c = omega (arith, room (goal.at.overflow_add-k c).Else-not-member)

pub returns : goal.returns
returns c = search (both_stored, not-false, rules)
