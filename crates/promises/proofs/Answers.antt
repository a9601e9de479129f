-- What a caller reads from an answer and from the words is what the trace has.
use mathlib.Core.Path.{◌≡◌, sym, ap, subst, ◌∙◌}
use mathlib.Core.List.{List}
use mathlib.Core.Logic.{⊎_elim, ◌↔◌}
use Prim.Native.Nat.{ℕ, suc, ◌+◌, ◌*◌, ◌≤◌, ◌<◌}
use native.Mathlib.Omega.{arith}
use lib.Dec.{eqb}
use lib.IntN.{ℤ, pos, nat_abs}
use lib.ListN.{length, take, drop}
use borrow.Author.Tests.{eqb-true, eqb-false}
use Rattle.integers.proofs.Bools.{bool}
use Rattle.scheduling.specs.Scheduling.{Atom}
use Rattle.scheduling.specs.Words.{atom_words}
use Rattle.runs.specs.Traces.{Post, Trace, done, overload, emptied}
use Rattle.runs.specs.Demand.{post}
use Rattle.checking.specs.Atoms.{atoms_of}
use Rattle.checking.proofs.Atoms.{atoms_words}
use Rattle.post_words.specs.Posts.{word_of_task, task_of, bound_of, number_of_post, reason_words}
use Rattle.runs.specs.declared.outcome.Outcome.{Outcome}
use Rattle.runs.specs.Outcomes.{outcome_numbers, value_of, first_of, count_of}
use Rattle.runs.specs.EndNumbers.{trace_numbers}
use Rattle.runs.proofs.TraceNumbers.{posts_made, kind_done, kind_emptied, kind_overload}
use Rattle.propagator.proofs.ReadTrace.{Handed}
use Rattle.promises.specs.Promise.{reason_of, overload_of}

-- post j as a caller reads it
abbrev pub post_read_back : Outcome → List ℤ → List ℤ → ℕ → Post
post_read_back answer posts atoms j = record { task = task_of posts j; bound = bound_of posts j; reason = atoms_of (reason_of answer posts atoms j) }

module _ (t : Trace) (answer : Outcome) (is : outcome_numbers answer ≡ trace_numbers t) where
  made : value_of answer 0 ≡ length t.posts
  made = posts_made answer t is

  pub done_or : {X : Type 0} → (t.end ≡ done → X) → ((t.end ≡ done → ⊥) → X) → X
  done_or f g = ⊎_elim (λ y. f ((kind_done answer t is).0 (eqb-true _ 0 y))) (λ y. g (λ e. eqb-false _ 0 y ((kind_done answer t is).1 e))) (bool (eqb (outcome_numbers answer).kind 0))

  module _ (posts atoms : List ℤ) (handed : Handed t posts atoms) where
    -- Post j is one of the trace, the reader takes it, and what is true of the trace's post and words is true of what is read.
    pub record PostRead (j : ℕ) : Type 1 where
      pub below : j < length t.posts
      pub read : number_of_post posts atoms (value_of answer 0) j ≡ 0
      pub task_is : task_of posts j ≡ (post t j).task
      pub bound_is : bound_of posts j ≡ (post t j).bound
      pub names : word_of_task posts j ≡ pos (task_of posts j)
      pub words_are : reason_of answer posts atoms j ≡ atom_words (post t j).reason
      pub said : (Q : Post → List ℤ → Type 0) → Q (post t j) (atom_words (post t j).reason) → Q (post_read_back answer posts atoms j) (reason_of answer posts atoms j)

    pub post_read : (j : ℕ) → j < value_of answer 0 → PostRead j
    post_read j q =
        let below : j < length t.posts = omega (arith, made) in
        let h = handed.posts j below in
        let task_is : task_of posts j ≡ (post t j).task = ap nat_abs h.task in
        let words_are : reason_of answer posts atoms j ≡ atom_words (post t j).reason = ap (λ (n : ℕ). reason_words posts atoms n j) made ∙ h.reason in
        let atoms_are : atoms_of (reason_of answer posts atoms j) ≡ (post t j).reason = ap atoms_of words_are ∙ atoms_words (post t j).reason in
        let same : post_read_back answer posts atoms j ≡ post t j = λ i. record { task = task_is i; bound = h.bound i; reason = atoms_are i } in
        record {
          below = below;
          read = ap (λ (n : ℕ). number_of_post posts atoms n j) made ∙ h.number;
          task_is = task_is;
          bound_is = h.bound;
          names = h.task ∙ ap pos (sym task_is);
          words_are = words_are;
          said = λ Q x. subst (Q (post_read_back answer posts atoms j)) (sym words_are) (subst (λ (p : Post). Q p (atom_words (post t j).reason)) (sym same) x);
        }

    -- the post that names a task
    pub named : {k : ℕ} → (j : ℕ) × (j < length t.posts) × ((post t j).task ≡ k) → (j : ℕ) × (j < value_of answer 0) × (task_of posts j ≡ k)
    named (j, below, e) = let q : j < value_of answer 0 = omega (arith, made) in (j, q, (post_read j q).task_is ∙ e)

    -- no such post read, none in the trace
    pub unnamed : (F : ℕ → ℤ → Type 0) {k : ℕ} → ((j : ℕ) → j < value_of answer 0 → F (task_of posts j) (bound_of posts j) → task_of posts j ≡ k → ⊥)
        → (j : ℕ) → j < length t.posts → F (post t j).task (post t j).bound → (post t j).task ≡ k → ⊥
    unnamed F none j below f e = let q : j < value_of answer 0 = omega (arith, made) in none j q ((post_read j q).said (λ p ws. F p.task p.bound) f) ((post_read j q).task_is ∙ e)

    -- the post that fails is the last of an emptied run
    pub failing : (F : ℕ → ℤ → Type 0)
        → ((j : ℕ) → j < length t.posts → F (post t j).task (post t j).bound ↔ ((t.end ≡ emptied) × (suc j ≡ length t.posts)))
        → (j : ℕ) → j < value_of answer 0 → F (task_of posts j) (bound_of posts j) ↔ (((outcome_numbers answer).kind ≡ 2) × (suc j ≡ value_of answer 0))
    failing F w j q =
        let p = post_read j q in
        p.said (λ p ws. F p.task p.bound ↔ (((outcome_numbers answer).kind ≡ 2) × (suc j ≡ value_of answer 0))) (
          λ h. (let (e, z) = (w j p.below).0 h in ((kind_emptied answer t is).1 e, z ∙ sym made)),
          λ (k, z). (w j p.below).1 ((kind_emptied answer t is).0 k, z ∙ made),
        )

    -- an overload's reason
    module _ (k : (outcome_numbers answer).kind ≡ 1) where
      pub inside : 3 * first_of answer + 3 * count_of answer ≤ length atoms
      inside = let o = kind_overload answer t is k in omega (arith, o.first, o.count, (handed.overloads o.reason o.ended).inside)

      pub overload_words : overload_of answer atoms ≡ atom_words (kind_overload answer t is k).reason
      overload_words =
          let o = kind_overload answer t is k in
          ap (λ (n : ℕ). take (3 * n) (drop (3 * first_of answer) atoms)) o.count
          ∙ ap (λ (n : ℕ). take (3 * length o.reason) (drop (3 * n) atoms)) o.first ∙ (handed.overloads o.reason o.ended).words

      pub overload_said : (Q : List Atom → List ℤ → Type 0) → ((r : List Atom) → t.end ≡ overload r → Q r (atom_words r)) → Q (atoms_of (overload_of answer atoms)) (overload_of answer atoms)
      overload_said Q x =
          let o = kind_overload answer t is k in
          subst (λ (ws : List ℤ). Q (atoms_of ws) ws) (sym overload_words) (subst (λ (a : List Atom). Q a (atom_words o.reason)) (sym (atoms_words o.reason)) (x o.reason o.ended))
