use Prim.Native.Nat.{◌/◌, ℕ, ◌*◌, ◌<◌}
use mathlib.Core.List.{List}
use borrow.Author.Rules.{rules}
use mathlib.Core.Path.{◌≡◌, sym, subst, ◌∙◌}
use native.Mathlib.Omega.{arith}
use lib.IntN.{ℤ, pos}
use lib.ListN.{length, get_or}
use lib.Signed.{◌≤ℤ◌}
use mir.Syntax.{w32}
use Rattle.integers.proofs.Ints.{up, dn, ints, back_of}
use Rattle.conflicts.specs.HeldTasks.{NamesTasks}
use Rattle.conflicts.proofs.MarkedNumbers.{none_marked, one_marked, variables, atom_count, variable_at, variables_long, variable_known, named_marked}
use Rattle.conflicts.proofs.late_task.named_by.Goals as goal

inside : {words : List ℤ} (h : NamesTasks words) (n k : ℕ) → n ≡ length words / 3 → k < n → k < length h.atoms
inside h n k e q = omega (arith, atom_count h)

-- the variable of atom k, as its first word has it
variable : {words : List ℤ} (h : NamesTasks words) (k : ℕ) → k < length h.atoms → {v : ℕ} → pos v ≡ get_or words (3 * k) (pos 0) → v ≡ get_or (variables h.atoms) k 0
variable h k q {v} e = let z : pos v ≡ pos (get_or (variables h.atoms) k 0) = e ∙ variable_at h k q in cc

pub bounds-named-variable : goal.bounds-named-variable
bounds-named-variable c =
    let h = c.requires in
    let k = c.loop-k.k in
    let q = inside h c.atoms_in-k-end.result k c.atoms_in-k-end.ensures c.loop-k-test.true in
    omega (arith, variable h k q (c.nat_of-variable.ensures ∙ back_of w32 (get_or c.args.reason.now (3 * k) (pos 0)) (search rules)), variable_known h k q)

pub nat_of-variable-requires : goal.nat_of-variable-requires
unfolding up dn
nat_of-variable-requires c =
    let h = c.requires in
    let k = c.loop-k.k in
    let q = inside h c.atoms_in-k-end.result k c.atoms_in-k-end.ensures c.loop-k-test.true in
    subst (λ (z : ℤ). pos 0 ≤ℤ z) (sym (back_of w32 (get_or c.args.reason.now (3 * k) (pos 0)) (search rules) ∙ variable_at h k q)) (omega ints)

pub loop-k-preserved : goal.loop-k-preserved
loop-k-preserved c =
    λ h.
    let l = c.loop-k in
    let q = inside h c.atoms_in-k-end.result l.k c.atoms_in-k-end.ensures c.loop-k-test.true in
    rw (variable h l.k q (c.nat_of-variable.ensures ∙ back_of w32 (get_or c.args.reason.now (3 * l.k) (pos 0)) (search rules)))
    (one_marked (variables h.atoms) l.k (omega (arith, variables_long h)) (variable_known h l.k q) (l.invariant h))

pub returns : goal.returns
returns c h =
    let l = c.loop-k in
    let z : l.k ≡ length h.atoms = omega (arith, atom_count h, c.atoms_in-k-end.ensures) in
    rw z at (l.invariant h) ∙ named_marked h

pub loop-k-init : goal.loop-k-init
loop-k-init c = λ h. none_marked (variables h.atoms)

pub bounds-reason-k : goal.bounds-reason-k
bounds-reason-k c = omega (arith, atom_count c.requires, inside c.requires c.atoms_in-k-end.result c.loop-k.k c.atoms_in-k-end.ensures c.loop-k-test.true)
