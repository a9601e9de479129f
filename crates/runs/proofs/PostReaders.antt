-- The words alone give back each post: its four words, and the atoms of its reason that they name.
use mathlib.Core.Path.{◌≡◌, refl, ap, ◌∙◌}
use mathlib.Core.List.{List, [], ◌∷◌, ◌++◌, append_assoc}
use Prim.Native.Nat.{ℕ, zero, suc, ◌+◌, ◌*◌, ◌≤◌, ◌<◌}
use native.Mathlib.Omega.{arith}
use lib.IntN.{ℤ, pos}
use lib.ListN.{length, get_or, take, drop, length-append, length-drop, get_or-append}
use lib.Seq.{split_at, take-append_seam, drop-append_seam, drop-append-le, take-append-le, take-length}
use Rattle.scheduling.specs.Scheduling.{Atom}
use Rattle.runs.specs.Traces.{Post, Trace}
use Rattle.scheduling.specs.Words.{atom_words}
use Rattle.runs.specs.Words.{post_words, reasons, end_reason, posts_after, atoms_after}
use Rattle.integers.specs.Words.{overwritten}
use Rattle.scheduling.proofs.Words.{atoms_length, drop_words, take_words}
use Rattle.runs.proofs.WrittenSlices.{posts_length, reasons_append, reasons_suc, reasons_most}
use Rattle.runs.specs.Demand.{no_post, post}

-- the first atom of post j
unfoldable pub start_of : List Post → ℕ → ℕ
start_of ps j = length (reasons (take j ps))

pub record Four (ws : List ℤ) (at : ℕ) (p : Post) (first : ℕ) : Type 0 where
  pub task : get_or ws at (pos 0) ≡ pos p.task
  pub bound : get_or ws (at + 1) (pos 0) ≡ p.bound
  pub from : get_or ws (at + 2) (pos 0) ≡ pos first
  pub count : get_or ws (at + 3) (pos 0) ≡ pos (length p.reason)

pub four_words : (ps : List Post) (from j : ℕ) → j < length ps → Four (post_words from ps) (4 * j) (get_or ps j no_post) (from + start_of ps j)
unfolding post_words reasons start_of
four_words [] from j h = absurd (omega arith)
four_words (p ∷ ps) from zero h = let z : from ≡ from + 0 = omega arith in record { task = refl; bound = refl; from = ap pos z; count = refl }
four_words (p ∷ ps) from (suc j) h =
    let r = four_words ps (from + length p.reason) j (omega arith) in
    let a : 4 * suc j ≡ suc (suc (suc (suc (4 * j)))) = omega arith in
    let b : 4 * suc j + 1 ≡ suc (suc (suc (suc (4 * j + 1)))) = omega arith in
    let c : 4 * suc j + 2 ≡ suc (suc (suc (suc (4 * j + 2)))) = omega arith in
    let d : 4 * suc j + 3 ≡ suc (suc (suc (suc (4 * j + 3)))) = omega arith in
    let e : from + length p.reason + start_of ps j ≡ from + start_of (p ∷ ps) (suc j) = omega (arith, length-append p.reason (reasons (take j ps))) in
    record { task = rw a r.task; bound = rw b r.bound; from = rw c (r.from ∙ ap pos e); count = rw d r.count }

pub stretch : (ps : List Post) (rest : List Atom) (j : ℕ) → j < length ps → take (length (get_or ps j no_post).reason) (drop (start_of ps j) (reasons ps ++ rest)) ≡ (get_or ps j no_post).reason
unfolding reasons start_of
stretch ps rest j h =
    let before : List Atom = reasons (take j ps) in
    let own : List Atom = (get_or ps j no_post).reason in
    let after : List Atom = reasons (drop (suc j) ps) in
    let parts : reasons ps ≡ before ++ (own ++ after) = ap reasons (split_at ps j no_post h) ∙ reasons_append (take j ps) (get_or ps j no_post ∷ drop (suc j) ps) in
    rw (parts, append_assoc before (own ++ after) rest, append_assoc own after rest, drop-append_seam before (own ++ (after ++ rest))) (take-append_seam own (after ++ rest))

bounded : (ps : List Post) (j : ℕ) → j < length ps → start_of ps j + length (get_or ps j no_post).reason ≤ length (reasons ps)
unfolding start_of
bounded ps j h = omega (arith, reasons_suc ps j h, reasons_most ps (suc j))

-- the last post's stretch ends where the atoms do
pub last_ends : (ps : List Post) (j : ℕ) → length ps ≡ suc j → start_of ps j + length (get_or ps j no_post).reason ≡ length (reasons ps)
unfolding start_of
last_ends ps j h = omega (arith, reasons_suc ps j (omega arith), ap (λ (k : ℕ). length (reasons (take k ps))) h, ap (λ (l : List Post). length (reasons l)) (take-length ps))

-- r atoms from the f-th on, of those written at the front of a slice
stretch_words : (entry : List ℤ) (all : List Atom) (f r : ℕ) → f + r ≤ length all → take (3 * r) (drop (3 * f) (overwritten entry (atom_words all))) ≡ atom_words (take r (drop f all))
stretch_words entry all f r h =
    let ws : List ℤ = atom_words all in
    let fits : 3 * f + 3 * r ≤ length ws = omega (arith, atoms_length all) in
    ap (take (3 * r)) (drop-append-le (3 * f) ws (drop (length ws) entry) (omega arith))
    ∙ take-append-le (3 * r) (drop (3 * f) ws) (drop (length ws) entry) (omega (arith, length-drop (3 * f) ws)) ∙ ap (take (3 * r)) (drop_words f all) ∙ take_words r (drop f all)

-- What the post reader answers for post j of a run is that post's reason, whatever stood in the slice,
pub reader : (entry : List ℤ) (t : Trace) (j : ℕ) → j < length t.posts
    → take (3 * length (post t j).reason) (drop (3 * start_of t.posts j) (atoms_after entry t)) ≡ atom_words (post t j).reason
reader entry t j h =
    stretch_words entry (reasons t.posts ++ end_reason t.end) (start_of t.posts j) (length (post t j).reason)
    (omega (arith, length-append (reasons t.posts) (end_reason t.end), bounded t.posts j h))
    ∙ ap atom_words (stretch t.posts (end_reason t.end) j h)

-- and its stretch is inside the slice;
pub stretch_inside : (entry : List ℤ) (t : Trace) (j : ℕ) → j < length t.posts → 3 * start_of t.posts j + 3 * length (post t j).reason ≤ length (atoms_after entry t)
stretch_inside entry t j h =
    let all : List Atom = reasons t.posts ++ end_reason t.end in
    omega (arith, length-append (atom_words all) (drop (length (atom_words all)) entry), atoms_length all, length-append (reasons t.posts) (end_reason t.end), bounded t.posts j h)

-- an overload's reason is what stands after the atoms of the posts.
pub end_reader : (entry : List ℤ) (t : Trace) → take (3 * length (end_reason t.end)) (drop (3 * length (reasons t.posts)) (atoms_after entry t)) ≡ atom_words (end_reason t.end)
end_reader entry t =
    let xs : List Atom = reasons t.posts in
    let ys : List Atom = end_reason t.end in
    stretch_words entry (xs ++ ys) (length xs) (length ys) (omega (arith, length-append xs ys)) ∙ ap (λ (l : List Atom). atom_words (take (length ys) l)) (drop-append_seam xs ys)
    ∙ ap atom_words (take-length ys)

-- A post's four words stand in the slice of posts,
pub four_after : (entry : List ℤ) (t : Trace) (j : ℕ) → j < length t.posts → Four (posts_after entry t) (4 * j) (post t j) (start_of t.posts j)
four_after entry t j h =
    let ws : List ℤ = post_words 0 t.posts in
    let r = four_words t.posts 0 j h in
    let z : 0 + start_of t.posts j ≡ start_of t.posts j = omega arith in
    let tail : List ℤ = drop (length ws) entry in
    record {
      task = get_or-append ws tail (pos 0) (4 * j) (omega (arith, posts_length t.posts 0)) ∙ r.task;
      bound = get_or-append ws tail (pos 0) (4 * j + 1) (omega (arith, posts_length t.posts 0)) ∙ r.bound;
      from = get_or-append ws tail (pos 0) (4 * j + 2) (omega (arith, posts_length t.posts 0)) ∙ r.from ∙ ap pos z;
      count = get_or-append ws tail (pos 0) (4 * j + 3) (omega (arith, posts_length t.posts 0)) ∙ r.count;
    }

-- inside it.
pub four_inside : (entry : List ℤ) (t : Trace) (j : ℕ) → j < length t.posts → 4 * j + 4 ≤ length (posts_after entry t)
four_inside entry t j h = omega (arith, length-append (post_words 0 t.posts) (drop (length (post_words 0 t.posts)) entry), posts_length t.posts 0)
