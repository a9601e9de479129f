-- The words give back the last post: its task, its bound and the variables of its reason.
use borrow.Author.Rules.{rules}
use mathlib.Core.Path.{◌≡◌, sym, ap, subst, ◌∙◌}
use Prim.Native.Nat.{ℕ, ◌+◌, ◌*◌, ◌-◌, ◌≤◌, ◌<◌}
use native.Mathlib.Omega.{arith}
use lib.IntN.{ℤ, pos}
use lib.ListN.{length, get_or}
use lib.Signed.{◌≤ℤ◌}
use mir.Syntax.{w32}
use Rattle.integers.proofs.Ints.{up, dn, ints, back_of}
use Rattle.runs.specs.ReasonSets.{named}
use Rattle.conflicts.specs.ConflictOf.{late_in}
use Rattle.conflicts.specs.HeldTasks.{HoldsSet, Lates, NamesTasks, LastPosted}
use Rattle.conflicts.proofs.MarkedNumbers.{names_hold}
use Rattle.conflicts.proofs.late_task.last_posted.Goals.{After-named_by-named, After-nat_of-task, After-post_reason, Start}
use Rattle.conflicts.proofs.late_task.last_posted.Goals as goal

inside : (s : Start) → 4 * (s.args.count - 1) + 4 ≤ length s.args.posts.now
inside s = omega (arith, s.requires.some, s.requires.room)

-- the task, as its word has it
task : (c : After-nat_of-task) (h : LastPosted c.args.m.now c.args.latest.now c.args.posts.now c.args.atoms.now c.args.count) → c.nat_of-task.result ≡ h.last.task
task c h = let z : pos c.nat_of-task.result ≡ pos h.last.task = c.nat_of-task.ensures ∙ back_of w32 c.read_post-post.result.task (search rules) ∙ c.read_post-post.ensures.task ∙ h.task in cc

small : (c : After-nat_of-task) → c.nat_of-task.result < c.args.m.now.count
small c = let h = c.requires in omega (arith, task c h, h.late.task.small, h.holds.held.count)

-- the tasks that its reason names
abbrev names : (c : After-post_reason) → LastPosted c.args.m.now c.args.latest.now c.args.posts.now c.args.atoms.now c.args.count → NamesTasks c.post_reason.result.now
names c h = record { atoms = h.last.reason; is = c.post_reason.ensures ∙ h.reason; small = λ k y. omega (arith, h.small k y, h.holds.held.count, h.holds.held.few) }

abbrev set : (c : After-named_by-named) (h : LastPosted c.args.m.now c.args.latest.now c.args.posts.now c.args.atoms.now c.args.count) → HoldsSet c.args.m.now c.named_by-named.result
set c h = record { J = h.J; Ω = named h.last.reason; holds = h.holds; flags = c.named_by-named.ensures (names (goal.at.After-named_by-named c).After-post_reason h) ∙ names_hold h.holds (named h.last.reason) h.small }

pub nat_of-task-requires : goal.nat_of-task-requires
unfolding up dn
nat_of-task-requires c = subst (λ (z : ℤ). pos 0 ≤ℤ z) (sym (back_of w32 c.read_post-post.result.task (search rules) ∙ c.read_post-post.ensures.task ∙ c.requires.task)) (omega ints)

pub late-requires : goal.late-requires
late-requires c =
    let h = c.requires in
    (set (goal.at.late-requires c).After-named_by-named h, subst (Lates h.J (named h.last.reason)) (sym (task (goal.at.late-requires c).After-nat_of-task h)) h.late)

pub returns : goal.returns
returns c h =
    let latest = c.args.latest.now in
    let w = c.read_post-post in
    c.late.ensures (set (goal.at.returns c).After-named_by-named h) ∙ same (task (goal.at.returns c).After-nat_of-task h) (back_of w32 (get_or latest c.nat_of-task.result (pos 0)) (search rules) ∙ ap (λ (k : ℕ). get_or latest k (pos 0)) (task (goal.at.returns c).After-nat_of-task h))
    (back_of w32 w.result.bound (search rules) ∙ w.ensures.bound ∙ h.bound)
  where
    same : {i i' : ℕ} {z z' b b' : ℤ} → i ≡ i' → z ≡ z' → b ≡ b' → late_in h.J i z b (named h.last.reason) ≡ late_in h.J i' z' b' (named h.last.reason)
    same p q r = rw (p, q, r)

pub overflow_sub-last : goal.overflow_sub-last
overflow_sub-last c = c.requires.some

pub read_post-post-requires : goal.read_post-post-requires
read_post-post-requires c = inside (goal.at.read_post-post-requires c).Start

pub named_by-named-requires : goal.named_by-named-requires
named_by-named-requires c = names c c.requires

pub offset_bounds-latest-task : goal.offset_bounds-latest-task
offset_bounds-latest-task c = omega (arith, small (goal.at.offset_bounds-latest-task c).After-nat_of-task, c.requires.holds.held.few)

pub bounds-latest-task : goal.bounds-latest-task
bounds-latest-task c = omega (arith, small (goal.at.bounds-latest-task c).After-nat_of-task, c.requires.known)
