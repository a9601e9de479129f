-- What the reason's call leaves, and what its reason means.
use mathlib.Core.Path.{◌≡◌, refl, sym, ap, subst, ◌∙◌}
use mathlib.Core.Bool.{Bool, true, false, not}
use mathlib.Core.List.{List, [], ◌∷◌}
use mathlib.Core.Option.{Option}
use Prim.Native.Nat.{ℕ, ◌+◌, ◌*◌, ◌≤◌, ◌<◌}
use native.Mathlib.Omega.{arith}
use lib.IntN.{ℤ, pos}
use lib.Signed.{◌≤ℤ◌}
use lib.ListN.{length, get_or, replicate}
use borrow.Author.Tests.{eq-eqb}
use lib.Seq.{sets}
use Rattle.integers.specs.declared.refused.Refusal.{Refusal}
use Rattle.integers.specs.Answers.{answered, refused_by}
use Rattle.integers.specs.FilledLists.{filled}
use Rattle.integers.specs.Limits.{TASKS}
use Rattle.integers.specs.Moments.{instant, zero_at}
use Rattle.integers.specs.Words.{overwritten}
use Rattle.integers.proofs.Bools.{clash}
use Rattle.integers.proofs.MomentSums.{instant_moment}
use Rattle.integers.proofs.Tests.{broken}
use Rattle.integers.proofs.Words.{overwrites}
use Rattle.scheduling.specs.Scheduling.{whole, natural, Tasks, Proper, TaskSet, In, Atom, Meets, HoldsAtEntry, Contradicts}
use Rattle.scheduling.specs.Words.{atom_words}
use Rattle.scheduling.proofs.Words.{atoms_none, atoms_more, atoms_length}
use Rattle.trees.specs.Ects.{exceeds}
use Rattle.post_words.specs.StoredAtoms.{Stored}
use Rattle.post_words.proofs.StoredAtoms.{stored_then}
use Rattle.records.specs.declared.record.DisjunctivePropagator.{DisjunctivePropagator}
use Rattle.records.specs.Records.{tasks_in, moments_in}
use Rattle.records.specs.Refusals.{AcceptedInput}
use Rattle.records.proofs.AcceptedTasks.{count, proper_whole, above}
use Rattle.precedences.specs.Predecessors.{predecessors, AllBefore, PrecedenceBound}
use Rattle.precedences.specs.PredecessorArrays.{start_at, precedes_at, comes_before, bound_at, HoldsRanges}
use Rattle.precedences.proofs.MomentBounds.{high, same_tasks}
use Rattle.precedences.proofs.AcceptedArrays.{chosen}
use Rattle.precedences.proofs.Soundness.{all_before, bound_holds}
use Rattle.std.specs.Prelude.{Result, Ok}
use Rattle.precedences.specs.declared.range_moments.RangeMoments.{RangeMoments}
use Rattle.precedences.specs.ReasonNumbers.{numbers_of_reason}
use Rattle.precedences.specs.Bounds.{Raises}
use Rattle.precedences.specs.Reasons.{at_least, at_most, both_of, both_bounds, reason_of, Explained, AcceptedReason, reason_number, ReasonGiven}
use Rattle.precedences.specs.ReasonArrays.{member_at, reason_at, ReasonLeft}
use Rattle.precedences.proofs.BoundAbove.{from_start, among, raises_is}
use Rattle.precedences.proofs.Members.{both_none, fewer, every_member, member_every, both_same}

-- one atom in the slice
pub atom_stored : {l m : List ℤ} {k : ℕ} (a : Atom) → m ≡ sets l (3 * k) (pos a.variable ∷ pos a.kind ∷ a.value ∷ []) → Stored l m k (k + 1) (a ∷ [])
atom_stored {l} {m} {k} a e = let z : atom_words (a ∷ []) ≡ pos a.variable ∷ pos a.kind ∷ a.value ∷ [] = rw (atoms_more, atoms_none) in
    record { words = e ∙ ap (sets l (3 * k)) (sym z); count = refl }

-- both bounds of a task, or none
pub both_stored : {l m o : List ℤ} {k : ℕ} (member : Bool) (j : ℕ) (e v : ℤ) → member ≡ true → m ≡ sets l (3 * k) (pos j ∷ pos 0 ∷ e ∷ []) → o ≡ sets m (3 * (k + 1)) (pos j ∷ pos 1 ∷ v ∷ [])
    → Stored l o k (k + 2) (both_of member j e v)
both_stored {l} {m} {o} {k} member j e v y p q =
    let s : Stored l o k (k + 1 + 1) (at_least j e ∷ at_most j v ∷ []) = stored_then (atom_stored (at_least j e) p) (atom_stored (at_most j v) q) in
    rw y (record { words = s.words; count = omega arith })

pub none_stored : {l : List ℤ} {k : ℕ} (member : Bool) (j : ℕ) (e v : ℤ) → member ≡ false → Stored l l k k (both_of member j e v)
none_stored {l} {k} member j e v y = rw y (record { words = rw atoms_none refl; count = omega arith })

-- before the first task
pub none_yet : (e l : ℕ → ℤ) (Ω : TaskSet) {w : List ℤ} {k : ℕ} → Stored w w k k (both_bounds e l Ω 0)
none_yet e l Ω {w} {k} = rw (both_none e l Ω) (record { words = rw atoms_none refl; count = omega arith })

-- no task is its own predecessor
not_own : (J : Tasks whole) (i : ℕ) → predecessors J i i ≡ false
not_own J i = rw (eq-eqb i i refl)

module _ (J : Tasks whole) (i : ℕ) (q : i < J.count) where
  abbrev P : TaskSet
  P = predecessors J i

  few : length (reason_of J i) + 1 ≤ 2 * J.count
  few = omega (arith, fewer J.earliest J.latest P i J.count q (not_own J i))

  holds : HoldsAtEntry J (reason_of J i)
  holds s h = ((h i q).0, member_every J.earliest J.latest P (Meets s) J.count (λ k r _. h k r))

  -- starts that meet the reason
  module _ (s : ℕ → ℤ) {a : Option Atom} (c : Contradicts J (reason_of J i) a s) where
    from : J.earliest i ≤ℤ s i
    from = c.premises_met.0 q

    ranges : (k : ℕ) → In J P k → (J.earliest k ≤ℤ s k) × (s k ≤ℤ J.latest k)
    ranges k h = let w = every_member J.earliest J.latest P (λ a. a.variable < J.count → Meets s a) J.count c.premises_met.1 k h.small h.mem in (w.0 h.small, w.1 h.small)

    first : AllBefore J i s
    first = all_before J s c.apart i q from (λ k h. (ranges k h).1)

    bounded : Proper J → (b : ℤ) → PrecedenceBound J i b → b ≤ℤ s i
    bounded ok = bound_holds J ok s c.apart i q from ranges

  -- the contract from the words that are written
  pub explained : Proper J → (ws : List ℤ) (r : Result ℕ Refusal) (ws' : List ℤ)
      → (Raises J i → (numbers_of_reason r ≡ answered 0 (pos (length (reason_of J i)) ∷ [])) × (ws' ≡ overwritten ws (atom_words (reason_of J i))))
      → ((Raises J i → ⊥) → (numbers_of_reason r ≡ answered 0 (pos 0 ∷ [])) × (ws' ≡ ws)) → Explained J i ws r ws'
  explained ok ws r ws' w n = record { written = w; nothing = n; few = few; holds = holds; before = λ s c. first s c; sound = λ b e s c. c.consequent_not (bounded s c ok b e) }

-- where the bound raises nothing
pub nothing_left : {J : Tasks natural} {m : RangeMoments} (f : HoldsRanges J m) (i : ℕ) → i < m.count → {l : List ℤ} {o : Option ℕ} {t : Bool}
    → o ≡ bound_at J i → t ≡ exceeds o (get_or m.est i 0) → t ≡ false → ReasonLeft J i l 0 l
nothing_left f i q b e h = record { written = λ k. clash k (from_start f i q b e h); nothing = λ _. (refl, refl) }

-- The atoms that the arrays give.
module _ {J : Tasks natural} {m : RangeMoments} (f : HoldsRanges J m) (i : ℕ) (q : i < m.count) {before : List Bool} (e : before ≡ filled (precedes_at m i) m.count (replicate TASKS false)) where
  members_are : both_bounds (start_at m.est) (start_at m.lst) (member_at before) m.count
      ≡ both_bounds (λ k. instant zero_at (J.earliest k)) (λ k. instant zero_at (J.latest k)) (comes_before J i) J.count
  members_are =
      both_same (start_at m.est) (λ k. instant zero_at (J.earliest k)) (start_at m.lst) (λ k. instant zero_at (J.latest k)) (member_at before) (comes_before J i) m.count
      (λ k r. ap (instant zero_at) (f.held.start k r)) (λ k r. ap (instant zero_at) (f.late.at k r)) (chosen f i q e).member
      ∙ ap (both_bounds (λ k. instant zero_at (J.earliest k)) (λ k. instant zero_at (J.latest k)) (comes_before J i)) (sym f.held.count)

  own_out : member_at before i ≡ false
  own_out = (chosen f i q e).member i q ∙ rw (eq-eqb i i refl)

  pub members_fit : (size : ℕ) → 6 * m.count ≤ size → 3 * (1 + length (both_bounds (start_at m.est) (start_at m.lst) (member_at before) m.count)) ≤ size
  members_fit size h = omega (arith, fewer (start_at m.est) (start_at m.lst) (member_at before) i m.count q own_out)

  pub reason_left : {l o o' : List ℤ} {r : ℕ} {b : Option ℕ} {u : Bool} → b ≡ bound_at J i → u ≡ exceeds b (get_or m.est i 0) → u ≡ true
      → o ≡ sets l (3 * 0) (pos i ∷ pos 0 ∷ instant zero_at (get_or m.est i 0) ∷ [])
      → Stored o o' 1 r (both_bounds (start_at m.est) (start_at m.lst) (member_at before) m.count) → ReasonLeft J i l r o'
  reason_left {l} {o} {o'} {r} z g h p t =
      let s : Stored l o' 0 r (at_least i (instant zero_at (get_or m.est i 0)) ∷ both_bounds (start_at m.est) (start_at m.lst) (member_at before) m.count) =
      stored_then (atom_stored (at_least i (instant zero_at (get_or m.est i 0))) p) t in
      let own : instant zero_at (get_or m.est i 0) ≡ instant zero_at (J.earliest i) = ap (instant zero_at) (f.held.start i q) in
      record { written = λ _. rw (own, members_are) at s; nothing = λ k. clash (from_start f i q z g h) k }

-- The accepted call.
module _ (r : DisjunctivePropagator) (es ls : List ℤ) (a : AcceptedInput r es ls) (long : length r.durations ≡ TASKS) (i : ℕ) where
  abbrev Z : Tasks whole
  Z = tasks_in r es ls

  abbrev M : Tasks natural
  M = moments_in r es ls

  pub gave : (ws ws' : List ℤ) (c : ℕ) → AcceptedReason r i (length ws) → ReasonLeft (moments_in r es ls) i ws c ws' → Explained (tasks_in r es ls) i ws (Ok c) ws'
  gave ws ws' c b left = explained Z i q (proper_whole r es ls a long) ws (Ok c) ws' (λ w. stands ((raises_is r es ls a long i b.small).1 w)) nothing
    where
      q : i < Z.count
      q = among r es ls a long i b.small

      same_reason : reason_at M i ≡ reason_of Z i
      same_reason =
          ap (λ (x : ℤ). at_least i x ∷ both_bounds (λ k. instant zero_at (M.earliest k)) (λ k. instant zero_at (M.latest k)) (comes_before M i) M.count)
          (instant_moment zero_at (Z.earliest i) (above r es ls a long i q))
          ∙ ap (λ (xs : List Atom). at_least i (Z.earliest i) ∷ xs)
          (both_same (λ k. instant zero_at (M.earliest k)) Z.earliest (λ k. instant zero_at (M.latest k)) Z.latest (comes_before M i) (predecessors Z i) Z.count
          (λ k h. instant_moment zero_at (Z.earliest k) (above r es ls a long k h))
          (λ k h. instant_moment zero_at (Z.latest k) (high Z (proper_whole r es ls a long) (above r es ls a long) k h))
          (λ k h. sym (same_tasks Z (proper_whole r es ls a long) (above r es ls a long) i q k h)))

      enough : length (atom_words (reason_of Z i)) ≤ length ws
      enough = omega (arith, atoms_length (reason_of Z i), few Z i q, b.room, count r es ls a long)

      stands : exceeds (bound_at M i) (M.earliest i) ≡ true → (answered 0 (pos c ∷ []) ≡ answered 0 (pos (length (reason_of Z i)) ∷ [])) × (ws' ≡ overwritten ws (atom_words (reason_of Z i)))
      stands h =
          let s : Stored ws ws' 0 c (reason_of Z i) = subst (Stored ws ws' 0 c) same_reason (left.written h) in
          let z : c ≡ length (reason_of Z i) = omega (arith, s.count) in
          (ap (λ (n : ℕ). numbers_of_reason (Ok n)) z, s.words ∙ overwrites ws (atom_words (reason_of Z i)) enough)

      nothing : (Raises Z i → ⊥) → (answered 0 (pos c ∷ []) ≡ answered 0 (pos 0 ∷ [])) × (ws' ≡ ws)
      nothing no_raise = let w = left.nothing ((broken (raises_is r es ls a long i b.small)).1 no_raise) in (ap (λ (n : ℕ). numbers_of_reason (Ok n)) w.0, w.1)

-- The contract, by the number that the tests answer.
module _ (before : DisjunctivePropagator) (es ls : List ℤ) (bars : Bool) (task : ℕ) (ws : List ℤ) {m : ℕ} (e : m ≡ reason_number before es ls bars task (length ws)) where
  pub is_refused : (r : Result ℕ Refusal) (ws' : List ℤ) → (m ≡ 0 → ⊥) → numbers_of_reason r ≡ refused_by m → ws' ≡ ws → ReasonGiven before es ls bars task ws r ws'
  is_refused r ws' not z y = record { refused = λ _. record { answer = z ∙ ap refused_by e; words = y }; given = λ k. absurd (not (e ∙ k)) }

  pub given : (r : Result ℕ Refusal) (ws' : List ℤ) → m ≡ 0 → Explained (tasks_in before es ls) task ws r ws' → ReasonGiven before es ls bars task ws r ws'
  given r ws' z t = record { refused = λ h. absurd (h (sym e ∙ z)); given = λ _. t }
