-- The last post's reason ends where all atoms end, so its first atom's number plus its count is how many there are.
use mathlib.Core.Path.{◌≡◌, sym, ap, ap₂, subst, ◌∙◌}
use Prim.Native.Nat.{◌+◌, ◌-◌}
use native.Mathlib.Omega.{arith}
use lib.IntN.{ℤ, pos, nat_abs}
use lib.ListN.{length}
use lib.Signed.{◌≤ℤ◌}
use mir.Syntax.{w32}
use mir.Val.{to_z, of_z}
use borrow.Author.Rules.{rules}
use Rattle.integers.proofs.Ints.{back_of}
use Rattle.post_words.specs.Posts.{first_atom_of, count_of_atoms}
use Rattle.runs.specs.Words.{reasons}
use Rattle.mirrored.proofs.MirroredLoops.{natural, none_countable, Last, last_countable}
use Rattle.mirrored.proofs.mirrored_time.atoms_of_posts.Goals.{Else-count-eq0, After-read_post-last}
use Rattle.mirrored.proofs.mirrored_time.atoms_of_posts.Goals as goal

-- the last post's words
last : (c : Else-count-eq0) → Last c.args.posts.now c.args.count (length (reasons c.requires.posts))
last c = last_countable c.requires (omega arith)

first_word : (c : After-read_post-last) → to_z w32 (of_z w32 c.read_post-last.result.first) ≡ first_atom_of c.args.posts.now (c.args.count - 1)
first_word c = back_of w32 c.read_post-last.result.first (search rules) ∙ c.read_post-last.ensures.first

count_word : (c : After-read_post-last) → to_z w32 (of_z w32 c.read_post-last.result.count) ≡ count_of_atoms c.args.posts.now (c.args.count - 1)
count_word c = back_of w32 c.read_post-last.result.count (search rules) ∙ c.read_post-last.ensures.count

pub read_post-last-requires : goal.read_post-last-requires
read_post-last-requires c = (last c).inside

pub nat_of-requires : goal.nat_of-requires
nat_of-requires c =
    let past = goal.at.nat_of-requires c in
    let l = last past.Else-count-eq0 in
    subst (λ (z : ℤ). pos 0 ≤ℤ z) (sym (first_word past.After-read_post-last ∙ l.first_is)) (natural l.first)

pub nat_of-requires-2 : goal.nat_of-requires-2
nat_of-requires-2 c =
    let past = goal.at.nat_of-requires-2 c in
    let l = last past.Else-count-eq0 in
    subst (λ (z : ℤ). pos 0 ≤ℤ z) (sym (count_word past.After-read_post-last ∙ l.many_is)) (natural l.many)

pub returns : goal.returns
returns c = λ k.
    let read = (goal.at.returns c).After-read_post-last in
    let l = last_countable k (omega arith) in
    ap₂ ◌+◌ (ap nat_abs (c.nat_of.ensures ∙ first_word read ∙ l.first_is)) (ap nat_abs (c.nat_of-2.ensures ∙ count_word read ∙ l.many_is)) ∙ l.sum

pub returns-then-count-eq0 : goal.returns-then-count-eq0
returns-then-count-eq0 c = λ k. none_countable k (omega arith)
