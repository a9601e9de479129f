-- The atoms of the two explanations: what they are where the walks stop, what of the tasks they depend on, and how many they are.
use mathlib.Core.Path.{◌≡◌, refl, sym, ap, subst, ◌∙◌}
use mathlib.Core.Bool.{false}
use mathlib.Core.List.{List, [], ◌∷◌, ◌++◌}
use mathlib.Core.Logic.{inl, inr}
use Prim.Native.Nat.{ℕ, zero, suc, ◌+◌, ◌-◌, ◌<◌, min}
use native.Mathlib.Omega.{arith}
use native.Mathlib.Decide.{dec_lt}
use lib.Dec.{eqb, ltb}
use lib.ListN.{length, get_or, take, drop}
use borrow.Author.Tests.{eq-eqb, ne_eqb, lt-ltb, le-ltb}
use Rattle.integers.proofs.Bools.{bool}
use Rattle.scheduling.specs.Scheduling.{natural, Tasks, Atom}
use Rattle.runs.specs.Runs.{at_least, at_most, within, conflict, conflict_of, bounds, propagation, propagation_of}
use Rattle.runs.proofs.WalkClauses.{within_none, within_more, conflict_none, conflict_last, conflict_hit, conflict_miss, propagation_none, propagation_hit, propagation_miss, bounds_none, bounds_hit}
use Rattle.runs.proofs.WalkClauses.{bounds_miss}
use Rattle.explanations.specs.Walks.{lasts, Each, Precedes, Attains, First}
use Rattle.explanations.specs.WrittenAtoms.{starting}
use Rattle.explanations.specs.Explanations.{Overloads}
use Rattle.explanations.proofs.Parts.{first_tail}

-- The definitions, where the walks stop ----------------------------------------------------------------------------------------

unmet_ltb : (a b : ℕ) → (a < b → ⊥) → ltb a b ≡ false
unmet_ltb a b h = elim (dec_lt a b) [ yes z ↦ absurd (h z) | no z ↦ le-ltb a b (omega arith) ]

-- A walk over tasks that last p hands out g where P holds of the task there, and else `step` of what it hands out from the next task on; `before` is the
-- steps of several tasks.
module _ (P : ℕ → ℕ → Type 0) (ds : List ℕ) (f g : ℕ → List ℕ → List Atom) (step : ℕ → List Atom → List Atom) (before : List ℕ → List Atom → List Atom)
    (none : (l : List Atom) → before [] l ≡ l) (more : (k : ℕ) (ks : List ℕ) (l : List Atom) → before (k ∷ ks) l ≡ step k (before ks l))
    (hit : (p k : ℕ) (ks : List ℕ) → P k p → f p (k ∷ ks) ≡ g p (k ∷ ks))
    (miss : (p k : ℕ) (ks : List ℕ) → 0 < length ks → (P k p → ⊥) → f p (k ∷ ks) ≡ step k (f (p - get_or ds k 0) ks)) where
  walk_at : (p : ℕ) (ks : List ℕ) (x q : ℕ) → p ≡ lasts ds ks → First P ds ks x q → f p ks ≡ before (take x ks) (g q (drop x ks))
  unfolding lasts
  walk_at p [] x q t s = absurd (omega (arith, s.small))
  walk_at p (k ∷ ks) zero q t s = let z : p ≡ q = omega (arith, s.rest) in hit p k ks (subst (P k) (sym z) s.holds) ∙ sym (none (g p (k ∷ ks))) ∙ ap (λ (q : ℕ). before [] (g q (k ∷ ks))) z
  walk_at p (k ∷ ks) (suc x) q t s = miss p k ks (omega (arith, s.small)) (λ a. s.before 0 (omega arith) (subst (P k) t a))
      ∙ ap (step k) (walk_at (p - get_or ds k 0) ks x q (omega arith) (first_tail P ds k ks x q s)) ∙ sym (more k (take x ks) (g q (drop x ks)))

module _ (o : ℕ) (es ds : List ℕ) where
  abbrev S : Tasks natural
  S = starting es ds

  pub conflict_at : (lct p : ℕ) (ks : List ℕ) (x q : ℕ) → p ≡ lasts ds ks → First (Overloads es lct) ds ks x q
      → conflict o S lct p ks ≡ conflict_of o S lct q (get_or es (get_or (drop x ks) 0 0) 0) (drop x ks)
  conflict_at lct = walk_at (Overloads es lct) ds (conflict o S lct) (λ q ks. conflict_of o S lct q (get_or es (get_or ks 0 0) 0) ks) (λ k l. l) (λ ks l. l) (λ l. refl) (λ k ks l. refl)
      (λ p k ks h. conflict_hit o S lct p k ks (lt-ltb lct (get_or es k 0 + p) h)) miss
    where
      miss : (p k : ℕ) (ks : List ℕ) → 0 < length ks → (Overloads es lct k p → ⊥) → conflict o S lct p (k ∷ ks) ≡ conflict o S lct (p - get_or ds k 0) ks
      miss p k [] some h = absurd (omega arith)
      miss p k (j ∷ ks) some h = conflict_miss o S lct p k j ks (unmet_ltb lct (get_or es k 0 + p) h)

  pub propagation_at : (i b lct p : ℕ) (ks : List ℕ) (x q : ℕ) → p ≡ lasts ds ks → First (Precedes es lct (get_or es i 0) (get_or ds i 0)) ds ks x q
      → propagation o S i b lct p ks ≡ propagation_of o S i b q (min (get_or es i 0) (get_or es (get_or (drop x ks) 0 0) 0)) (drop x ks)
  propagation_at i b lct = walk_at (Precedes es lct (get_or es i 0) (get_or ds i 0)) ds (propagation o S i b lct)
      (λ q ks. propagation_of o S i b q (min (get_or es i 0) (get_or es (get_or ks 0 0) 0)) ks) (λ k l. l) (λ ks l. l) (λ l. refl) (λ k ks l. refl)
      (λ p k ks h. propagation_hit o S i b lct p k ks (lt-ltb lct (min (get_or es i 0) (get_or es k 0) + p + get_or ds i 0) h))
      (λ p k ks some h. propagation_miss o S i b lct p k ks (unmet_ltb lct (min (get_or es i 0) (get_or es k 0) + p + get_or ds i 0) h))

  -- the tasks before ω' start at r or later, those of ω' at its own est
  pub bounds_at_are : (b r last p : ℕ) (ks : List ℕ) (x q : ℕ) → p ≡ lasts ds ks → First (Attains es b) ds ks x q
      → bounds o S b r last p ks ≡ within o S r last (take x ks) ++ within o S (b - q) last (drop x ks)
  bounds_at_are b r last = walk_at (Attains es b) ds (bounds o S b r last) (λ q ks. within o S (b - q) last ks) (λ k l. at_least o S k r ∷ at_most o S k (last - get_or ds k 0) ∷ l)
      (λ ks l. within o S r last ks ++ l) (λ l. rw (within_none o S r last)) (λ k ks l. rw (within_more o S r last k ks))
      (λ p k ks h. bounds_hit o S b r last p k ks (eq-eqb b (get_or es k 0 + p) (sym h))) (λ p k ks some h. bounds_miss o S b r last p k ks (ne_eqb b (get_or es k 0 + p) (λ z. h (sym z))))

-- Tasks that are alike --------------------------------------------------------------------------------------------------------

-- J and K have the same of what the explanations read of task k.
pub record Alike (J K : Tasks natural) (k : ℕ) : Type 0 where
  pub earliest : J.earliest k ≡ K.earliest k
  pub duration : J.duration k ≡ K.duration k

module _ (o : ℕ) (J K : Tasks natural) where
  pub within_same : (low high : ℕ) (ks : List ℕ) → Each (λ k. J.duration k ≡ K.duration k) ks → within o J low high ks ≡ within o K low high ks
  within_same low high [] h = within_none o J low high ∙ sym (within_none o K low high)
  within_same low high (k ∷ ks) h =
      let a : J.duration k ≡ K.duration k = h 0 (omega arith) in
      let b : within o J low high ks ≡ within o K low high ks = within_same low high ks (λ x s. h (suc x) (omega arith)) in
      rw (within_more o J low high k ks, within_more o K low high k ks, a, b)

  same_durations : (ks : List ℕ) → Each (Alike J K) ks → Each (λ k. J.duration k ≡ K.duration k) ks
  same_durations ks h x s = (h x s).duration

  conflict_of_same : (lct p e : ℕ) (ks : List ℕ) → Each (Alike J K) ks → conflict_of o J lct p e ks ≡ conflict_of o K lct p e ks
  conflict_of_same lct p e ks h = within_same _ _ ks (same_durations ks h)

  pub conflict_same : (lct p : ℕ) (ks : List ℕ) → Each (Alike J K) ks → conflict o J lct p ks ≡ conflict o K lct p ks
  conflict_same lct p [] h = conflict_none o J lct p ∙ sym (conflict_none o K lct p)
  conflict_same lct p (k ∷ []) h =
      let a : J.earliest k ≡ K.earliest k = (h 0 (omega arith)).earliest in
      rw (conflict_last o J lct p k, conflict_last o K lct p k, a) (conflict_of_same lct p (K.earliest k) (k ∷ []) h)
  conflict_same lct p (k ∷ j ∷ ks) h =
      let a : J.earliest k ≡ K.earliest k = (h 0 (omega arith)).earliest in
      let d : J.duration k ≡ K.duration k = (h 0 (omega arith)).duration in
      elim (bool (ltb lct (K.earliest k + p))) [
        | inl y ↦ rw (conflict_hit o J lct p k (j ∷ ks) (rw a y), conflict_hit o K lct p k (j ∷ ks) y, a) (conflict_of_same lct p (K.earliest k) (k ∷ j ∷ ks) h)
        | inr y ↦ rw (conflict_miss o J lct p k j ks (rw a y), conflict_miss o K lct p k j ks y, d) (conflict_same lct (p - K.duration k) (j ∷ ks) (λ x s. h (suc x) (omega arith)))
      ]

  bounds_same : (b r last p : ℕ) (ks : List ℕ) → Each (Alike J K) ks → bounds o J b r last p ks ≡ bounds o K b r last p ks
  bounds_same b r last p [] h = bounds_none o J b r last p ∙ sym (bounds_none o K b r last p)
  bounds_same b r last p (k ∷ ks) h =
      let a : J.earliest k ≡ K.earliest k = (h 0 (omega arith)).earliest in
      let d : J.duration k ≡ K.duration k = (h 0 (omega arith)).duration in
      let ih = bounds_same b r last (p - K.duration k) ks (λ x s. h (suc x) (omega arith)) in
      elim (bool (eqb b (K.earliest k + p))) [
        | inl y ↦ rw (bounds_hit o J b r last p k ks (rw a y), bounds_hit o K b r last p k ks y) (within_same (b - p) last (k ∷ ks) (same_durations (k ∷ ks) h))
        | inr y ↦ rw (bounds_miss o J b r last p k ks (rw a y), bounds_miss o K b r last p k ks y, d, ih)
      ]

  pub propagation_same : (i b lct p : ℕ) (ks : List ℕ) → Alike J K i → Each (Alike J K) ks → propagation o J i b lct p ks ≡ propagation o K i b lct p ks
  propagation_same i b lct p [] g h = propagation_none o J i b lct p ∙ sym (propagation_none o K i b lct p)
  propagation_same i b lct p (k ∷ ks) g h =
      let a : J.earliest k ≡ K.earliest k = (h 0 (omega arith)).earliest in
      let d : J.duration k ≡ K.duration k = (h 0 (omega arith)).duration in
      let r : ℕ = min (K.earliest i) (K.earliest k) in
      elim (bool (ltb lct (r + p + K.duration i))) [
        | inl y ↦ rw (propagation_hit o J i b lct p k ks (rw (g.earliest, g.duration, a) y), propagation_hit o K i b lct p k ks y, g.earliest, g.duration, a)
            (ap (λ (l : List Atom). l ++ (at_least o K i r ∷ [])) (bounds_same b r (r + p + K.duration i - 1) p (k ∷ ks) h))
        | inr y ↦ rw (propagation_miss o J i b lct p k ks (rw (g.earliest, g.duration, a) y), propagation_miss o K i b lct p k ks y, d)
            (propagation_same i b lct (p - K.duration k) ks g (λ x s. h (suc x) (omega arith)))
      ]
