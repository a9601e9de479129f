-- One turn of each loop of the mirrored pass: what it may mirror, and what is mirrored after it; and how many posts and atoms an outcome has.
use mathlib.Core.Path.{◌≡◌, refl, sym, ap, ap₂, subst, ◌∙◌}
use mathlib.Core.List.{List, [], ◌∷◌, ◌++◌}
use Prim.Native.Nat.{ℕ, zero, suc, ◌+◌, ◌-◌, ◌*◌, ◌≤◌, ◌<◌}
use native.Mathlib.Omega.{arith}
use lib.IntN.{ℤ, pos, nat_abs, ◌-ℤ◌}
use lib.ListN.{length, get_or, set, drop, length-append, length-set, get_or-append}
use lib.Seq.{ext_get_or, get_or-set_other}
use lib.Signed.{◌≤ℤ◌}
use mir.Syntax.{w32}
use mir.Val.{SFits}
use Rattle.integers.specs.Limits.{TASKS}
use Rattle.integers.specs.declared.refused.Refusal.{Refusal}
use Rattle.integers.specs.FilledLists.{filled}
use Rattle.integers.proofs.FilledLists.{filled_length, filled_at}
use Rattle.integers.proofs.Ints.{up, dn, ints}
use Rattle.scheduling.specs.Scheduling.{Atom}
use Rattle.scheduling.specs.Words.{atom_words, no_atom}
use Rattle.scheduling.specs.MirroredTime.{start_mirrored, mirror_kind}
use Rattle.scheduling.proofs.Words.{atoms_length}
use Rattle.runs.specs.Traces.{Post, End, done, emptied}
use Rattle.runs.specs.Words.{post_words, reasons, end_reason, atoms_in}
use Rattle.runs.specs.Mirrored.{starts_mirrored, duration_in}
use Rattle.runs.specs.Demand.{consequent_of, no_post}
use Rattle.runs.proofs.WrittenSlices.{posts_length, no_reasons}
use Rattle.runs.proofs.Mirrored.{mirror_at, mirror_length, near_at, near_fits, post_task, post_bound, posts_step, atom_read, atoms_step}
use Rattle.runs.specs.MirroredWords.{Near, posts_to, atoms_to}
use Rattle.runs.proofs.PostReaders.{start_of, four_words, last_ends}
use Rattle.post_words.specs.Posts.{task_place, bound_at, variable_place, kind_at, value_at, first_atom_of, count_of_atoms}
use Rattle.runs.specs.declared.outcome.Outcome.{Outcome}
use Rattle.runs.specs.declared.outcome.Outcome.TheVariants as outcome
use Rattle.runs.specs.Outcomes.{outcome_numbers, value_of}
use Rattle.runs.proofs.TraceNumbers.{not_refused, posts_made, kind_done, kind_emptied, kind_overload}
use Rattle.mirrored.specs.MirroredSlices.{mirrored_word, WordMirrorable, Durations, PostsMirrorable, AtomsMirrorable, ReasonsCountable, AtomsCountable}

-- Starts, filled in from the front -----------------------------------------------------------------------------------------------

pub starts_filled : (ds : List ℕ) (zs out : List ℤ) → length zs ≡ length ds → length out ≡ length zs
    → filled (λ k. start_mirrored (get_or ds k 0) (get_or zs k (pos 0))) (length zs) out ≡ starts_mirrored ds zs
starts_filled ds zs out e l = ext_get_or (pos 0) (filled (λ k. start_mirrored (get_or ds k 0) (get_or zs k (pos 0))) (length zs) out) (starts_mirrored ds zs)
    (size ∙ l ∙ e ∙ sym (mirror_length ds zs e))
    (λ k q. filled_at (λ k. start_mirrored (get_or ds k 0) (get_or zs k (pos 0))) (length zs) out (pos 0) k (omega (arith, size)) (omega arith) ∙ sym (mirror_at ds zs e k))
  where
    size : length (filled (λ k. start_mirrored (get_or ds k 0) (get_or zs k (pos 0))) (length zs) out) ≡ length out
    size = filled_length (λ k. start_mirrored (get_or ds k 0) (get_or zs k (pos 0))) (length zs) out

-- One word -----------------------------------------------------------------------------------------------------------------------

pub natural : (n : ℕ) → pos 0 ≤ℤ pos n
unfolding up dn
natural n = omega ints

-- a start of a known task, in the two words
module _ (ds array : List ℕ) (d : Durations ds array) (words : List ℤ) (of at : ℕ) (a : Atom) (near : Near ds a) (task : get_or words of (pos 0) ≡ pos a.variable)
    (start : get_or words at (pos 0) ≡ a.value) where
  pub word_is : mirrored_word words of at array ≡ start_mirrored (duration_in ds a.variable) a.value
  word_is = ap₂ (λ (t z : ℤ). start_mirrored (get_or array (nat_abs t) 0) z) task start ∙ ap (λ (p : ℕ). start_mirrored p a.value) (d.same a.variable near.task)

  pub word_mirrorable : of < length words → at < length words → WordMirrorable words of at array
  word_mirrorable p q = record {
    of_inside = p;
    at_inside = q;
    natural = subst (λ (z : ℤ). pos 0 ≤ℤ z) (sym task) (natural a.variable);
    known = subst (λ (z : ℤ). nat_abs z < TASKS) (sym task) (omega (arith, near.task, d.few));
    fits = subst (SFits w32) (sym word_is) (near_fits ds a near);
  }

-- Posts --------------------------------------------------------------------------------------------------------------------------

module _ {old : List ℤ} {count : ℕ} {array : List ℕ} (h : PostsMirrorable old count array) (words : List ℤ) (j : ℕ) (q : j < count)
    (e : words ≡ post_words 0 (posts_to h.ds j h.posts) ++ h.tail) where
  abbrev p : Post
  p = get_or h.posts j no_post

  inside : j < length h.posts
  inside = omega (arith, h.number)

  task : get_or words (task_place j) (pos 0) ≡ pos p.task
  task = rw e (post_task h.ds h.posts h.tail 0 j inside)

  bound : get_or words (bound_at j) (pos 0) ≡ p.bound
  bound = rw e (post_bound h.ds h.posts h.tail 0 j inside)

  room : 4 * j + 4 ≤ length words
  room = omega (arith, simp (length-append, posts_length, filled_length) at (ap length e), inside)

  pub post_mirrorable : WordMirrorable words (task_place j) (bound_at j) array
  post_mirrorable = word_mirrorable h.ds array h.durations words (task_place j) (bound_at j) (consequent_of p) (h.near j q) task bound (omega (arith, room)) (omega (arith, room))

  pub post_mirrored : {now : List ℤ} {of at : ℕ} → of ≡ task_place j → at ≡ bound_at j → now ≡ set words at (mirrored_word words of at array)
      → now ≡ post_words 0 (posts_to h.ds (j + 1) h.posts) ++ h.tail
  post_mirrored of_is at_is z = z ∙ ap₂ (λ (of at : ℕ). set words at (mirrored_word words of at array)) of_is at_is
      ∙ ap₂ (λ (l : List ℤ) (v : ℤ). set l (bound_at j) v) e (word_is h.ds array h.durations words (task_place j) (bound_at j) (consequent_of p) (h.near j q) task bound)
      ∙ posts_step h.ds h.posts h.tail 0 j inside

-- Atoms --------------------------------------------------------------------------------------------------------------------------

-- kinds are exchanged by a subtraction
pub kind_is : (k : ℕ) → k < 2 → pos 1 -ℤ pos k ≡ pos (mirror_kind k)
kind_is zero q = refl
kind_is (suc zero) q = refl
kind_is (suc (suc k)) q = absurd (omega arith)

small_kind : (k : ℕ) → k < 2 → (pos 0 ≤ℤ pos k) × (pos k ≤ℤ pos 1)
unfolding up dn
small_kind k q = (omega ints, omega ints)

module _ {old : List ℤ} {count : ℕ} {array : List ℕ} (h : AtomsMirrorable old count array) (words : List ℤ) (k : ℕ) (q : k < count)
    (e : words ≡ atom_words (atoms_to h.ds k h.atoms) ++ h.tail) where
  abbrev a : Atom
  a = get_or h.atoms k no_atom

  within : k < length h.atoms
  within = omega (arith, h.number)

  near : Near h.ds a
  near = near_at h.ds h.atoms h.near k within

  variable : get_or words (variable_place k) (pos 0) ≡ pos a.variable
  variable = rw e (atom_read h.ds h.atoms h.tail k within).variable

  kind : get_or words (kind_at k) (pos 0) ≡ pos a.kind
  kind = rw e (atom_read h.ds h.atoms h.tail k within).kind

  value : get_or words (value_at k) (pos 0) ≡ a.value
  value = rw e (atom_read h.ds h.atoms h.tail k within).value

  long : 3 * k + 3 ≤ length words
  long = omega (arith, simp (length-append, atoms_length, filled_length) at (ap length e), within)

  pub kind_mirrorable : (kind_at k < length words) × (pos 0 ≤ℤ get_or words (kind_at k) (pos 0)) × (get_or words (kind_at k) (pos 0) ≤ℤ pos 1)
  kind_mirrorable = (omega (arith, long), rw kind (small_kind a.kind near.kind).0, rw kind (small_kind a.kind near.kind).1)

  -- after the kind
  module _ {then : List ℤ} {place : ℕ} (place_is : place ≡ kind_at k) (exchanged : then ≡ set words place (pos 1 -ℤ get_or words place (pos 0))) where
    t : then ≡ set words (kind_at k) (pos 1 -ℤ get_or words (kind_at k) (pos 0))
    t = exchanged ∙ ap (λ (at : ℕ). set words at (pos 1 -ℤ get_or words at (pos 0))) place_is

    still : (i : ℕ) → (i ≡ kind_at k → ⊥) → get_or then i (pos 0) ≡ get_or words i (pos 0)
    still i n = ap (λ (l : List ℤ). get_or l i (pos 0)) t ∙ get_or-set_other words (kind_at k) i (pos 1 -ℤ get_or words (kind_at k) (pos 0)) (pos 0) n

    same : length then ≡ length words
    same = ap length t ∙ length-set words (kind_at k) (pos 1 -ℤ get_or words (kind_at k) (pos 0))

    pub value_mirrorable : WordMirrorable then (variable_place k) (value_at k) array
    value_mirrorable = word_mirrorable h.ds array h.durations then (variable_place k) (value_at k) a near (still (variable_place k) (omega arith) ∙ variable) (still (value_at k) (omega arith) ∙ value)
        (omega (arith, long, same)) (omega (arith, long, same))

    pub atom_mirrored : {now : List ℤ} {of at : ℕ} → of ≡ variable_place k → at ≡ value_at k → now ≡ set then at (mirrored_word then of at array)
        → now ≡ atom_words (atoms_to h.ds (k + 1) h.atoms) ++ h.tail
    atom_mirrored of_is at_is z = z ∙ ap₂ (λ (of at : ℕ). set then at (mirrored_word then of at array)) of_is at_is ∙ ap₂ (λ (l : List ℤ) (v : ℤ). set l (value_at k) v)
        (t ∙ ap₂ (λ (l : List ℤ) (v : ℤ). set l (kind_at k) v) e (ap (λ (v : ℤ). pos 1 -ℤ v) kind ∙ kind_is a.kind near.kind))
        (word_is h.ds array h.durations then (variable_place k) (value_at k) a near (still (variable_place k) (omega arith) ∙ variable) (still (value_at k) (omega arith) ∙ value))
        ∙ atoms_step h.ds h.atoms h.tail k within

-- How many -----------------------------------------------------------------------------------------------------------------------

pub none_countable : {words : List ℤ} {count : ℕ} (c : ReasonsCountable words count) → count ≡ 0 → 0 ≡ length (reasons c.posts)
none_countable c z = none c.posts (c.number ∙ z)
  where
    none : (ps : List Post) → length ps ≡ 0 → 0 ≡ length (reasons ps)
    none [] z = sym no_reasons
    none (p ∷ ps) z = absurd (omega arith)

-- the last two words of the last post
pub record Last (words : List ℤ) (count : ℕ) (all : ℕ) : Type 0 where
  pub first : ℕ
  pub many : ℕ
  pub first_is : first_atom_of words (count - 1) ≡ pos first
  pub many_is : count_of_atoms words (count - 1) ≡ pos many
  pub sum : first + many ≡ all
  pub inside : 4 * (count - 1) + 4 ≤ length words

pub last_countable : {words : List ℤ} {count : ℕ} (c : ReasonsCountable words count) → 0 < count → Last words count (length (reasons c.posts))
last_countable {words} {count} c h = record {
  first = start_of c.posts j;
  many = length (get_or c.posts j no_post).reason;
  first_is = at 2 (omega arith) ∙ (four_words c.posts 0 j inside).from ∙ ap pos plain;
  many_is = at 3 (omega arith) ∙ (four_words c.posts 0 j inside).count;
  sum = last_ends c.posts j (omega (arith, c.number));
  inside = omega (arith, size, posts_length c.posts 0, inside);
}
  where
    j : ℕ
    j = count - 1

    inside : j < length c.posts
    inside = omega (arith, c.number)

    plain : 0 + start_of c.posts j ≡ start_of c.posts j
    plain = omega arith

    size : length words ≡ length (post_words 0 c.posts) + length c.tail
    size = ap length c.words_are ∙ length-append (post_words 0 c.posts) c.tail

    at : (i : ℕ) → i < 4 → get_or words (4 * j + i) (pos 0) ≡ get_or (post_words 0 c.posts) (4 * j + i) (pos 0)
    at i q = ap (λ (l : List ℤ). get_or l (4 * j + i) (pos 0)) c.words_are ∙ get_or-append (post_words 0 c.posts) c.tail (pos 0) (4 * j + i) (omega (arith, posts_length c.posts 0, inside))

-- An answer shows how many atoms follow those of the posts.
module _ {r : Outcome} {words : List ℤ} (a : AtomsCountable r words) where
  abbrev ps : List Post
  ps = a.trace.posts

  abbrev end : End
  end = a.trace.end

  pub all_atoms : length (atoms_in a.trace) ≡ length (reasons ps) + length (end_reason end)
  all_atoms = length-append (reasons ps) (end_reason end)

  -- its posts are counted
  pub many_posts : value_of r 0 ≡ length ps
  many_posts = posts_made r a.trace a.answer

  abbrev pub reasons_countable : (m : ℕ) → value_of r 0 ≡ m → ReasonsCountable words m
  reasons_countable m z = record {
    posts = ps;
    tail = drop (length (post_words 0 ps)) a.old;
    words_are = a.words_are;
    number = sym many_posts ∙ z;
    few = omega (arith, sym many_posts ∙ z, a.few);
    small = omega (arith, all_atoms, a.small);
  }

  -- and its atoms are those of the posts, and those of an overload after them
  alone : (e : End) → end ≡ e → length (end_reason e) ≡ 0 → length (reasons ps) ≡ length (atoms_in a.trace)
  alone e z none = omega (arith, all_atoms, ap (λ (x : End). length (end_reason x)) z)

  pub done_atoms : (m : ℕ) → r ≡ outcome.Done m → length (reasons ps) ≡ length (atoms_in a.trace)
  done_atoms m z = alone done ((kind_done r a.trace a.answer).0 (ap (λ (o : Outcome). (outcome_numbers o).kind) z)) refl

  pub emptied_atoms : (m : ℕ) → r ≡ outcome.Emptied m → length (reasons ps) ≡ length (atoms_in a.trace)
  emptied_atoms m z = alone emptied ((kind_emptied r a.trace a.answer).0 (ap (λ (o : Outcome). (outcome_numbers o).kind) z)) refl

  pub overload_atoms : (m first many : ℕ) → r ≡ outcome.Overload m first many → first + many ≡ length (atoms_in a.trace)
  overload_atoms m first many z = let o = kind_overload r a.trace a.answer (ap (λ (o : Outcome). (outcome_numbers o).kind) z) in
      omega (arith, all_atoms, o.first, o.count, ap (λ (x : End). length (end_reason x)) o.ended, ap (λ (o : Outcome). value_of o 1) z, ap (λ (o : Outcome). value_of o 2) z)

  pub no_refusal : (why : Refusal) → r ≡ outcome.Refused why → ⊥
  no_refusal why z = omega (arith, not_refused r a.trace a.answer, ap (λ (o : Outcome). (outcome_numbers o).kind) z)

  -- without an overload they are those of the posts alone
  pub posts_alone : ((m first many : ℕ) → r ≡ outcome.Overload m first many → ⊥) → length (reasons ps) ≡ length (atoms_in a.trace)
  posts_alone not = alone_at r refl
    where
      alone_at : (o : Outcome) → r ≡ o → length (reasons ps) ≡ length (atoms_in a.trace)
      alone_at (outcome.Done m) z = done_atoms m z
      alone_at (outcome.Overload m first many) z = absurd (not m first many z)
      alone_at (outcome.Emptied m) z = emptied_atoms m z
      alone_at (outcome.Refused why) z = absurd (no_refusal why z)
