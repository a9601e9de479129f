-- A post that is not inside its slice, or has a negative word or a stretch that is not inside the atoms, is none that can be read.
use Rattle.std.proofs.Common.{◌≡◌, ℕ, ◌+◌, ◌*◌, ◌≤◌, ◌<◌, List, Option, Some, None, length, take, drop, rules, arith, SFits, sym, ap₂, ◌∙◌, inl, inr}
use Rattle.std.specs.Prelude.{ℤ, pos, nat_abs, ◌≤ℤ◌, MatchOption}
use Rattle.std.specs.Borrow.{Bor}
use Rattle.std.specs.Slice.{IsGetRangeResult}
use Rattle.integers.specs.Refused.{POST}
use Rattle.post_words.specs.Posts.{first_atom_of, count_of_atoms, number_of_post, reason_words}
use mir.Syntax.{w32}
use Rattle.post_words.proofs.PostReader.{readable, refused_by_post, reason_there}
use Rattle.post_words.proofs.TriedWords.{natural, negative}
use Rattle.post_words.proofs.part_of.Goals.{then-index-post_count-via-then-index-post_count, then-index-post_count-via-else-index-post_count+then-index-posts}
use Rattle.post_words.proofs.part_of.Goals as goal

pub returns-then-index-post_count : goal.returns-then-index-post_count
returns-then-index-post_count c =
    refused_by_post _ _ _ _ (λ r. elim c.then-index-post_count.branch [
      | then-index-post_count-via-then-index-post_count w ↦ omega (arith, r.counted)
      | then-index-post_count-via-else-index-post_count+then-index-posts w ↦ omega (arith, r.inside)
    ])

pub returns-in_err-first : goal.returns-in_err-first
returns-in_err-first c =
    let word : SFits w32 c.read_post-post.result.first = search rules in
    rw c.from_residual.ensures
    (refused_by_post _ _ _ _ (λ r. negative _ c.try_from.result word c.try_from.ensures (sym c.in_err-first.was ∙ c.ok.ensures.value) (rw c.read_post-post.ensures.first r.from)))

pub returns-in_err-count : goal.returns-in_err-count
returns-in_err-count c =
    let word : SFits w32 c.read_post-post.result.count = search rules in
    rw c.from_residual-in_err-count.ensures
    (refused_by_post _ _ _ _ (λ r. negative _ c.try_from-2.result word c.try_from-2.ensures (sym c.in_err-count.was ∙ c.ok-2.ensures.value) (rw c.read_post-post.ensures.count r.many)))

-- the part is there where the stretch is inside the atoms
part_there : (posts atoms : List ℤ) (count index f n from to : ℕ) (r : Option (Bor (List ℤ))) → index < count → 4 * index + 4 ≤ length posts
    → (pos 0 ≤ℤ first_atom_of posts index) × (f ≡ nat_abs (first_atom_of posts index))
    → (pos 0 ≤ℤ count_of_atoms posts index) × (n ≡ nat_abs (count_of_atoms posts index))
    → from ≡ 3 * f → to ≡ 3 * (f + n) → IsGetRangeResult atoms from to r
    → MatchOption r (number_of_post posts atoms count index ≡ POST)
    (λ part. (number_of_post posts atoms count index ≡ 0) × (part.now ≡ reason_words posts atoms count index))
part_there posts atoms count index f n from to None counted inside (p, fi) (q, ni) start end (out, _) =
    refused_by_post _ _ _ _ (λ r. elim out [ inl h ↦ omega arith | inr h ↦ omega (arith, r.stretch) ])
part_there posts atoms count index f n from to (Some part) counted inside (p, fi) (q, ni) start end (here, _) =
    let z : number_of_post posts atoms count index ≡ 0 = (readable _ _ _ _).1 (record { counted = counted; inside = inside; from = p; many = q; stretch = omega arith }) in
    (z, here.2 ∙ ap₂ (λ (u v : ℕ). take u (drop v atoms)) (omega arith) (omega arith) ∙ sym (reason_there _ _ _ _ z))

pub returns : goal.returns
returns c =
    let post = c.read_post-post in
    let first : SFits w32 post.result.first = search rules in
    let count : SFits w32 post.result.count = search rules in
    part_there _ _ _ _ _ _ _ _ _ (omega arith) (omega arith)
    (rw post.ensures.first at (natural _ c.try_from.result first c.try_from.ensures _ c.in_ok-first.ensures.value))
    (rw post.ensures.count at (natural _ c.try_from-2.result count c.try_from-2.ensures _ c.in_ok-count.ensures.value))
    c.words_of.ensures c.words_of-2.ensures c.get.ensures.lookup
