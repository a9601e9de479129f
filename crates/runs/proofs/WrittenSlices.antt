-- One more post or reason, written after those in a lent slice, makes it the slice of all of them.
use mathlib.Core.Path.{◌≡◌, refl, sym, ap, ◌∙◌}
use mathlib.Core.List.{List, [], ◌∷◌, ◌++◌, append_assoc, append-nil}
use Prim.Native.Nat.{ℕ, suc, ◌+◌, ◌*◌, ◌≤◌, ◌<◌}
use native.Mathlib.Omega.{arith}
use native.Mathlib.Nat.{add-zero}
use lib.IntN.{ℤ, pos}
use lib.ListN.{length, get_or, take, drop, length-append, take-append-drop}
use lib.Seq.{sets, take-suc}
use Rattle.scheduling.specs.Scheduling.{Atom}
use Rattle.scheduling.proofs.Words.{atoms_none, atoms_stored}
use Rattle.runs.specs.Traces.{Post}
use Rattle.scheduling.specs.Words.{atom_words}
use Rattle.runs.specs.Demand.{no_post}
use Rattle.runs.specs.Words.{post_words, reasons}
use Rattle.integers.proofs.Words.{sets_append}

pub reasons_append : (xs ys : List Post) → reasons (xs ++ ys) ≡ reasons xs ++ reasons ys
unfolding reasons
reasons_append [] ys = refl
reasons_append (x ∷ xs) ys = ap (λ (l : List Atom). x.reason ++ l) (reasons_append xs ys) ∙ sym (append_assoc x.reason (reasons xs) (reasons ys))

pub reasons_more : (ps : List Post) (p : Post) → reasons (ps ++ (p ∷ [])) ≡ reasons ps ++ p.reason
unfolding reasons
reasons_more ps p = reasons_append ps (p ∷ []) ∙ ap (λ (l : List Atom). reasons ps ++ l) (append-nil p.reason)

abbrev pub four_of : ℕ → Post → List ℤ
four_of from p = pos p.task ∷ p.bound ∷ pos from ∷ pos (length p.reason) ∷ []

pub posts_more : (ps : List Post) (p : Post) (from : ℕ) → post_words from (ps ++ (p ∷ [])) ≡ post_words from ps ++ four_of (from + length (reasons ps)) p
unfolding post_words reasons
posts_more [] p from = ap (λ (k : ℕ). four_of k p) (sym (add-zero from))
posts_more (q ∷ ps) p from =
    let z : from + length q.reason + length (reasons ps) ≡ from + length (q.reason ++ reasons ps) = omega (arith, length-append q.reason (reasons ps)) in
    ap (λ (l : List ℤ). pos q.task ∷ q.bound ∷ pos from ∷ pos (length q.reason) ∷ l)
    (posts_more ps p (from + length q.reason) ∙ ap (λ (k : ℕ). post_words (from + length q.reason) ps ++ four_of k p) z)

pub posts_length : (ps : List Post) (from : ℕ) → length (post_words from ps) ≡ 4 * length ps
unfolding post_words
posts_length [] from = refl
posts_length (q ∷ ps) from = omega (arith, posts_length ps (from + length q.reason))

-- One post more in the slice of posts: what `write_post` stores after the others makes it the slice of all.
pub post_stored : (entry : List ℤ) (ps : List Post) (p : Post) → sets (sets entry 0 (post_words 0 ps)) (4 * length ps) (four_of (length (reasons ps)) p) ≡ sets entry 0 (post_words 0 (ps ++ (p ∷ [])))
post_stored entry ps p =
    let z : 0 + length (post_words 0 ps) ≡ 4 * length ps = omega (arith, posts_length ps 0) in
    let y : 0 + length (reasons ps) ≡ length (reasons ps) = omega arith in
    sym (ap (sets entry 0) (posts_more ps p 0) ∙ sets_append (post_words 0 ps) (four_of (0 + length (reasons ps)) p) entry 0
    ∙ ap (λ (k : ℕ). sets (sets entry 0 (post_words 0 ps)) k (four_of (0 + length (reasons ps)) p)) z ∙ ap (λ (k : ℕ). sets (sets entry 0 (post_words 0 ps)) (4 * length ps) (four_of k p)) y)

-- One reason more in the slice of atoms, in the same way.
pub reason_stored : (entry : List ℤ) (xs ys : List Atom) → sets (sets entry 0 (atom_words xs)) (3 * length xs) (atom_words ys) ≡ sets entry 0 (atom_words (xs ++ ys))
reason_stored entry xs ys = atoms_stored entry 0 (length xs) xs ys (omega arith)

-- before the first post nothing is stored
pub no_posts_stored : (entry : List ℤ) → entry ≡ sets entry 0 (post_words 0 [])
unfolding post_words
no_posts_stored entry = refl

pub no_atoms_stored : (entry : List ℤ) → entry ≡ sets entry 0 (atom_words (reasons []))
unfolding reasons
no_atoms_stored entry = ap (sets entry 0) (sym atoms_none)

pub no_reasons : length (reasons []) ≡ 0
unfolding reasons
no_reasons = refl

-- the reasons of the first posts
pub reasons_suc : (ps : List Post) (j : ℕ) → j < length ps → length (reasons (take (suc j) ps)) ≡ length (reasons (take j ps)) + length (get_or ps j no_post).reason
reasons_suc ps j h = omega (
  arith,
  ap (λ (l : List Post). length (reasons l)) (take-suc ps j no_post h),
  ap length (reasons_more (take j ps) (get_or ps j no_post)),
  length-append (reasons (take j ps)) (get_or ps j no_post).reason,
)

pub reasons_most : (ps : List Post) (j : ℕ) → length (reasons (take j ps)) ≤ length (reasons ps)
reasons_most ps j = omega (
  arith,
  ap (λ (l : List Post). length (reasons l)) (take-append-drop j ps),
  ap length (reasons_append (take j ps) (drop j ps)),
  length-append (reasons (take j ps)) (reasons (drop j ps)),
)
