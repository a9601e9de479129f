-- The explanations' words in the slice of atoms, and what their input gives at each step.
use mathlib.Core.Path.{◌≡◌, refl, sym, ap, subst, ◌∙◌}
use mathlib.Core.Bool.{Bool, true, false}
use mathlib.Core.List.{List, [], ◌∷◌}
use Prim.Native.Nat.{ℕ, ◌+◌, ◌-◌, ◌*◌, ◌^◌, ◌≤◌, ◌<◌, min}
use native.Mathlib.Omega.{arith}
use native.Mathlib.Decide.{dec_lt}
use lib.IntN.{ℤ, pos}
use lib.ListN.{length, get_or, drop, length-append, length-take, length-drop}
use lib.Seq.{sets, drop-drop, get_or-drop}
use Rattle.integers.specs.Moments.{instant, zero_at}
use Rattle.runs.specs.Runs.{at_least, within, conflict, conflict_of, bounds, propagation}
use Rattle.scheduling.specs.Words.{atom_words}
use Rattle.explanations.specs.Walks.{lasts, Each, Precedes, Attains, between, StopsAt, Known, Walk}
use Rattle.explanations.specs.Leaves.{white_of, task_at, Asks, HaltsAt}
use Rattle.explanations.specs.declared.theta.Theta.{Theta}
use Rattle.explanations.specs.WrittenAtoms.{starting, lasting, Ends, Writable}
use Rattle.post_words.specs.StoredAtoms.{Stored}
use Rattle.explanations.specs.Explanations.{Overloads, White, ConflictExplainable, PropagationExplainable}
use Rattle.scheduling.proofs.Words.{atoms_none, atoms_more}
use Rattle.explanations.proofs.Places.{lasts_drop}
use Rattle.explanations.proofs.LeafWalk.{between_white, between_split, met_front, met_rest, met_task, met_small, met_each}
use Rattle.post_words.proofs.StoredAtoms.{stored_then, stored_length}
use Rattle.explanations.proofs.Parts.{each_drop, each_take}
use Rattle.explanations.proofs.ExplanationAtoms.{conflict_at, propagation_at, bounds_at_are, within_same}
use Rattle.runs.proofs.ReasonLengths.{within_length, bounds_length}

-- Walks that ask ---------------------------------------------------------------------------------------------------------------

-- what a walk asks for, where the answer is no only if P does not hold
pub asks : {P : ℕ → ℕ → Type 0} {may : ℕ → ℕ → Type 0} {answers : ℕ → ℕ → Bool → Type 0} {ks es ds : List ℕ} {p d : ℕ} → Walk P ks es ds p d
    → ((e q : ℕ) → e + q + d < 2 ^ 32 → may e q) → ((k q : ℕ) → P k q → answers (get_or es k 0) q false → ⊥)
    → Asks may answers ks es ds p
asks w may wrong = record {
  known = w.known;
  total = w.total;
  asked = λ x s q h. may _ q (omega (arith, w.fits x s));
  stops = record { place = w.stops.place; small = w.stops.small; holds = wrong _ _ w.stops.holds };
}

-- it stops where P holds for the first time, where the answer says whether P does
pub stops_at : {P : ℕ → ℕ → Type 0} {answers : ℕ → ℕ → Bool → Type 0} {t : Theta} {a x q : ℕ} → HaltsAt answers t a x q
    → ((k r : ℕ) → answers (get_or t.est.now k 0) r true → P k r) → ((k r : ℕ) → answers (get_or t.est.now k 0) r false → P k r → ⊥)
    → StopsAt (white_of t) (task_at t) P t.durations.now a t.n x q
stops_at {P} {answers} {t} {a} {x} {q} h right wrong = record {
  from = h.from;
  small = h.small;
  here = h.here;
  first = record {
    small = met_small (white_of t) (task_at t) a t.n x h.from h.small h.here;
    rest = h.rest;
    holds = rw (met_task (white_of t) (task_at t) a t.n x h.from h.small h.here) (right _ q h.yes);
    before = λ y s. wrong _ _ (h.no y s);
  };
}

-- Where a walk stops -----------------------------------------------------------------------------------------------------------

module _ {white : ℕ → Bool} {task : ℕ → ℕ} {P : ℕ → ℕ → Type 0} {ds : List ℕ} {a n x q : ℕ} (s : StopsAt white task P ds a n x q) where
  abbrev theta : List ℕ
  theta = between white task a n

  abbrev met : ℕ
  met = length (between white task a x)

  inside : x ≤ n
  inside = omega (arith, s.small)

  rest_is : drop met theta ≡ between white task x n
  rest_is = met_rest white task a n x s.from inside

  task_is : get_or theta met 0 ≡ task x
  task_is = met_task white task a n x s.from s.small s.here

  head_is : get_or (between white task x n) 0 0 ≡ task x
  head_is = ap (λ (l : List ℕ). get_or l 0 0) (between_white white task x n s.small s.here)

  -- what holds of each task holds of the one there, and of those from there on
  pub each_there : (Q : ℕ → Type 0) → Each Q theta → Q (task x)
  each_there = met_each white task a n x s.from s.small s.here

  each_after : (Q : ℕ → Type 0) → Each Q theta → Each Q (between white task x n)
  each_after Q h = subst (Each Q) rest_is (each_drop Q theta h met)

  lasts_less : {p : ℕ} → p ≡ lasts ds theta → q ≤ p
  lasts_less z = omega (arith, s.first.rest, lasts_drop ds theta met)

  -- there is room for the atoms of the tasks before leaf x, and after them for those of the others
  pub writable_first : {size k high : ℕ} → Writable size k theta ds high → Writable size k (between white task a x) ds high
  writable_first {high = high} w = rw (← met_front white task a n x s.from inside)
      (record { ends = each_take (Ends ds high) theta w.ends met; room = omega (arith, w.room, length-take met theta) })

  pub writable_rest : {l m : List ℤ} {k b high : ℕ} (low : ℕ) → Writable (length l) k theta ds high → Stored l m k b (within zero_at (lasting ds) low high (between white task a x))
      → Writable (length m) b (between white task x n) ds high
  writable_rest {high = high} low w t = record {
    ends = each_after (Ends ds high) w.ends;
    room = omega (
      arith,
      w.room,
      t.count,
      stored_length t,
      within_length zero_at (lasting ds) low high (between white task a x),
      ap length (between_split white task a x n s.from inside),
      length-append (between white task a x) (between white task x n),
    );
  }

  -- or for the others alone: tasks that can end by lct can end by what is later
  pub white_writable : {size k p lct high : ℕ} {es : List ℕ} → White theta es ds p lct → lct ≤ high → 3 * k + 6 * length theta ≤ size → Writable size k (between white task x n) ds high
  white_writable {high = high} w h room = record {
    ends = each_after (Ends ds high) (λ y t. record { task = (w.known y t).task; duration = (w.known y t).duration; short = omega (arith, w.ends y t) });
    room = omega (arith, ap length rest_is, length-drop met theta);
  }

-- the reasons' words, by the walks to them
module _ {white : ℕ → Bool} {task : ℕ → ℕ} {ds : List ℕ} {a n x q p : ℕ} (es : List ℕ) (total : p ≡ lasts ds (between white task a n)) where
  pub conflict_stored : {l m : List ℤ} {k b : ℕ} (lct : ℕ) {e : ℕ} → StopsAt white task (Overloads es lct) ds a n x q → e ≡ get_or es (task x) 0
      → Stored l m k b (conflict_of zero_at (lasting ds) lct q e (between white task x n))
      → Stored l m k b (conflict zero_at (starting es ds) lct p (between white task a n))
  conflict_stored lct s e t =
      rw (
        conflict_at zero_at es ds lct p (between white task a n) (met s) q total s.first,
        rest_is s,
        head_is s,
        ← e,
        within_same zero_at (starting es ds) (lasting ds) _ _ (between white task x n) (λ y t. refl),
      ) t

  pub bounds_stored : {l m o : List ℤ} {k b c : ℕ} (u r last : ℕ) → StopsAt white task (Attains es u) ds a n x q → Stored l m k b (within zero_at (lasting ds) r last (between white task a x))
      → Stored m o b c (within zero_at (lasting ds) (u - q) last (between white task x n))
      → Stored l o k c (bounds zero_at (starting es ds) u r last p (between white task a n))
  bounds_stored u r last s t v =
      rw (
        bounds_at_are zero_at es ds u r last p (between white task a n) (met s) q total s.first,
        met_front white task a n x s.from (inside s),
        rest_is s,
        within_same zero_at (starting es ds) (lasting ds) r last (between white task a x) (λ y t. refl),
        within_same zero_at (starting es ds) (lasting ds) (u - q) last (between white task x n) (λ y t. refl),
      )
      (stored_then t v)

  pub propagation_stored : {l m o : List ℤ} {k b : ℕ} (i u lct r : ℕ) → StopsAt white task (Precedes es lct (get_or es i 0) (get_or ds i 0)) ds a n x q → r ≡ min (get_or es i 0) (get_or es (task x) 0)
      → Stored l m k b (bounds zero_at (starting es ds) u r (r + q + get_or ds i 0 - 1) q (between white task x n)) → o ≡ sets m (3 * b) (pos i ∷ pos 0 ∷ instant zero_at r ∷ [])
      → Stored l o k (b + 1) (propagation zero_at (starting es ds) i u lct p (between white task a n))
  propagation_stored {l} {m} {o} {k} {b} i u lct r s e t v =
      let z : atom_words (at_least zero_at (starting es ds) i r ∷ []) ≡ pos i ∷ pos 0 ∷ instant zero_at r ∷ [] = rw (atoms_more, atoms_none) in
      rw (propagation_at zero_at es ds i u lct p (between white task a n) (met s) q total s.first, rest_is s, head_is s, ← e)
      (stored_then t (record { words = v ∙ ap (sets m (3 * b)) (sym z); count = refl }))

-- An overload ------------------------------------------------------------------------------------------------------------------

-- what ω, which starts at e and lasts q, passes lct by, and how far back from its est there is room
pub record Overflow (lct q e : ℕ) : Type 0 where
  pub over : lct < e + q
  pub starts : e ≤ lct
  pub early : q ≤ e
  pub fits : lct + q < 2 ^ 32

module _ {size k : ℕ} {ks es ds : List ℕ} {p lct : ℕ} (c : ConflictExplainable size k ks es ds p lct) where
  abbrev starts_by : Each (λ t. get_or es t 0 ≤ lct) ks
  starts_by x s = omega (arith, c.white.ends x s)

  pub overload_walk : Walk (Overloads es lct) ks es ds p 0
  overload_walk = record { known = c.white.known; total = c.white.total; fits = λ x s. omega (arith, starts_by x s, c.fits); stops = c.overloads }

module _ {white : ℕ → Bool} {task : ℕ → ℕ} {a n size k p lct x q : ℕ} {es ds : List ℕ} (c : ConflictExplainable size k (between white task a n) es ds p lct)
    (s : StopsAt white task (Overloads es lct) ds a n x q) where
  pub overflow : {e : ℕ} → e ≡ get_or es (task x) 0 → Overflow lct q e
  overflow z =
      let over : lct < get_or es (task x) 0 + q = rw (task_is s) at s.first.holds in
      let less : q ≤ p = lasts_less s c.white.total in
      record {
        over = omega arith;
        starts = omega (arith, each_there s (λ t. get_or es t 0 ≤ lct) (starts_by c));
        early = omega (arith, each_there s (λ t. p ≤ get_or es t 0) c.early);
        fits = omega (arith, c.fits);
      }

-- A post -----------------------------------------------------------------------------------------------------------------------

-- what ω, which starts at r with i and lasts q, and i, which lasts d, pass lct by
pub record Reach (lct q d r : ℕ) : Type 0 where
  pub over : lct < r + q + d
  pub fits : r + q + d < 2 ^ 32

pub post_walk : {size k : ℕ} {ks es ds : List ℕ} {p lct i b : ℕ} → PropagationExplainable size k ks es ds p lct i b → Walk (Precedes es lct (get_or es i 0) (get_or ds i 0)) ks es ds p (get_or ds i 0)
post_walk c = record { known = c.white.known; total = c.white.total; fits = λ x s. omega (arith, c.white.ends x s, c.fits); stops = c.precedes }

module _ {white : ℕ → Bool} {task : ℕ → ℕ} {a n size k p lct i b x q : ℕ} {es ds : List ℕ} (c : PropagationExplainable size k (between white task a n) es ds p lct i b)
    (s : StopsAt white task (Precedes es lct (get_or es i 0) (get_or ds i 0)) ds a n x q) where
  -- ω' lies inside ω
  later : met s ≤ c.attains.place
  later = elim (dec_lt c.attains.place (met s)) [ yes z ↦ absurd (s.first.before c.precedes.place (omega (arith, c.among)) c.precedes.holds) | no z ↦ omega arith ]

  pub bound_walk : Walk (Attains es b) (between white task x n) es ds q 0
  bound_walk =
      let y : ℕ = c.attains.place in
      let z : met s + (y - met s) ≡ y = omega (arith, later) in
      rw (← rest_is s)
      (record {
        known = each_drop (Known es ds) (theta s) c.white.known (met s);
        total = s.first.rest;
        fits = each_drop (λ t. get_or es t 0 + q + 0 < 2 ^ 32) (theta s) (λ y t. omega (arith, c.white.ends y t, c.fits, lasts_less s c.white.total)) (met s);
        stops = record { place = y - met s; small = omega (arith, later, c.attains.small, length-drop (met s) (theta s)); holds = rw (get_or-drop, drop-drop, z) c.attains.holds };
      })

  pub reach : {r : ℕ} → r ≡ min (get_or es i 0) (get_or es (task x) 0) → Reach lct q (get_or ds i 0) r
  reach e =
      let over : lct < min (get_or es i 0) (get_or es (task x) 0) + q + get_or ds i 0 = rw (task_is s) at s.first.holds in
      record { over = omega arith; fits = omega (arith, c.fits, lasts_less s c.white.total, each_there s (λ t. get_or es t 0 + get_or ds t 0 ≤ lct) c.white.ends) }

  -- the room that is left for the last atom
  pub last_room : {l m : List ℤ} {d : ℕ} (r last : ℕ) → length l ≡ size → Stored l m k d (bounds zero_at (starting es ds) b r last q (between white task x n)) → 3 * d + 3 ≤ length m
  last_room r last e t = omega (
    arith,
    e,
    c.room,
    stored_length t,
    t.count,
    bounds_length zero_at (starting es ds) b r last q (between white task x n),
    ap length (rest_is s),
    length-drop (met s) (theta s),
  )
