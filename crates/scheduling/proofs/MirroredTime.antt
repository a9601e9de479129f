-- Mirrored time: what holds of mirrored tasks there holds of the tasks in the caller's time, with earliest and latest, least and largest exchanged.
use mathlib.Core.Path.{◌≡◌, refl, sym, ap, subst, fun_ext, ◌∙◌}
use mathlib.Core.List.{List, [], ◌∷◌}
use mathlib.Core.Logic.{◌⊎◌, inl, inr, ◌↔◌}
use Prim.Native.Nat.{ℕ, zero, suc, ◌+◌, ◌<◌}
use native.Mathlib.Omega.{arith}
use lib.IntN.{ℤ, pos, neg_ℤ, ◌+ℤ◌}
use lib.Signed.{◌≤ℤ◌, ◌<ℤ◌}
use Rattle.integers.proofs.Ints.{up, dn, ints, sumℤ, up_neg, dn_neg}
use Rattle.scheduling.specs.Scheduling.{whole, Tasks, TaskSet, ◌with◌, Largest, Least, In, Outside, completion, Est, Lct, processing}
use Rattle.scheduling.specs.Scheduling.{EstPlusP, Ect, Overloads, EdgeFindingBound, Schedule, Conflict, Done}
use Rattle.scheduling.specs.Scheduling.{Atom, Compares, Meets, Every, HoldsAtEntry}
use Rattle.scheduling.specs.MirroredTime.{start_mirrored, mirror, mirror_kind, mirror_atom, mirror_atoms, LctLessP, Lst, MirroredBound, MirroredConflict, MirroredDone}

-- Starts and moments -----------------------------------------------------------------------------------------------------------

-- A mirrored start and a negated moment, each as one entry of omega's list.
pub at_mirror : (p : ℕ) (s : ℤ) → up (start_mirrored p s) + (up s + p) ≡ dn s + dn (start_mirrored p s)
unfolding up dn
at_mirror p s = omega (arith, sumℤ s (pos p), up_neg (s +ℤ pos p), dn_neg (s +ℤ pos p))

record Negated (z : ℤ) : Type 0 where
  ups : up (neg_ℤ z) ≡ dn z
  downs : dn (neg_ℤ z) ≡ up z

at_neg : (z : ℤ) → Negated z
at_neg z = record { ups = up_neg z; downs = dn_neg z }

pub neg_twice : (z : ℤ) → neg_ℤ (neg_ℤ z) ≡ z
neg_twice z = omega (ints, at_neg z, at_neg (neg_ℤ z))

neg_falls : (a b : ℤ) → a ≤ℤ b → neg_ℤ b ≤ℤ neg_ℤ a
neg_falls a b h = omega (ints, at_neg a, at_neg b)

module _ (p : ℕ) where
  pub start_twice : (s : ℤ) → start_mirrored p (start_mirrored p s) ≡ s
  start_twice s = omega (ints, at_mirror p s, at_mirror p (start_mirrored p s))

  -- mirroring reverses the order of starts
  pub start_falls : (a b : ℤ) → a ≤ℤ b → start_mirrored p b ≤ℤ start_mirrored p a
  start_falls a b h = omega (ints, at_mirror p a, at_mirror p b)

  pub start_falls< : (a b : ℤ) → a <ℤ b → start_mirrored p b <ℤ start_mirrored p a
  start_falls< a b h = omega (ints, at_mirror p a, at_mirror p b)

  -- a task that starts at s mirrored ends at −s
  pub mirrored_end : (s : ℤ) → start_mirrored p s +ℤ pos p ≡ neg_ℤ s
  unfolding up dn
  mirrored_end s = omega (ints, at_mirror p s, at_neg s, sumℤ (start_mirrored p s) (pos p))

-- What reverses the order and is its own inverse takes a largest moment to a least one, and back.
module _ (f : ℤ → ℤ) (twice : (a : ℤ) → f (f a) ≡ a) (falls : (a b : ℤ) → a ≤ℤ b → f b ≤ℤ f a) (P Q : ℤ → Type 0)
    (to : (w : ℤ) → P w → Q (f w)) (from : (w : ℤ) → Q w → P (f w)) where
  least_of : (v : ℤ) → Largest whole P v → Least whole Q (f v)
  least_of v h = record { holds = to v h.holds; bounds = λ w q. subst (λ (x : ℤ). f v ≤ℤ x) (twice w) (falls (f w) v (h.bounds (f w) (from w q))) }

  largest_of : (v : ℤ) → Least whole Q v → Largest whole P (f v)
  largest_of v h = record { holds = from v h.holds; bounds = λ w q. subst (λ (x : ℤ). x ≤ℤ f v) (twice w) (falls v (f w) (h.bounds (f w) (to w q))) }

  pub largest_least : (v : ℤ) → Largest whole P v ↔ Least whole Q (f v)
  largest_least v = (least_of v, λ h. subst (Largest whole P) (twice v) (largest_of (f v) h))

  pub least_largest : (v : ℤ) → Least whole Q v ↔ Largest whole P (f v)
  least_largest v = (largest_of v, λ h. subst (Least whole Q) (twice v) (least_of (f v) h))

-- Tasks ------------------------------------------------------------------------------------------------------------------------

pub mirror_twice : (J : Tasks whole) → mirror (mirror J) ≡ J
mirror_twice J = λ i. record {
  count = J.count;
  earliest = λ k. start_twice (J.duration k) (J.earliest k) i;
  latest = λ k. start_twice (J.duration k) (J.latest k) i;
  duration = J.duration;
}

module _ (J : Tasks whole) where
  abbrev M : Tasks whole
  M = mirror J

  abbrev d : ℕ → ℕ
  d = J.duration

  there : {Ω : TaskSet} {k : ℕ} → In J Ω k → In M Ω k
  there h = record { small = h.small; mem = h.mem }

  here : {Ω : TaskSet} {k : ℕ} → In M Ω k → In J Ω k
  here h = record { small = h.small; mem = h.mem }

  same_processing : (Ω : TaskSet) → processing M Ω ≡ processing J Ω
  unfolding processing
  same_processing Ω = refl

  module _ (Ω : TaskSet) where
    -- f over the one tasks is −g over the other
    values : (K L : Tasks whole) (f g : ℕ → ℤ) → K.count ≡ L.count → ((k : ℕ) → g k ≡ neg_ℤ (f k)) → (w : ℤ) → ((k : ℕ) × In K Ω k × (f k ≡ w)) → (k : ℕ) × In L Ω k × (g k ≡ neg_ℤ w)
    values K L f g e is w (k, h, z) = (k, record { small = subst (λ (n : ℕ). k < n) e h.small; mem = h.mem }, is k ∙ ap neg_ℤ z)

    back : {a b : ℤ} → a ≡ neg_ℤ b → b ≡ neg_ℤ a
    back {a} {b} e = sym (neg_twice b) ∙ ap neg_ℤ (sym e)

    -- a completion mirrored is an earliest start negated, and an earliest start mirrored a completion negated
    pub lct_mirrored : (t : ℤ) → Lct M Ω t ↔ Est J Ω (neg_ℤ t)
    lct_mirrored = let is : (k : ℕ) → completion M k ≡ neg_ℤ (J.earliest k) = λ k. mirrored_end (d k) (J.earliest k) in
        largest_least neg_ℤ neg_twice neg_falls (λ t. (k : ℕ) × In M Ω k × (completion M k ≡ t)) (λ t. (k : ℕ) × In J Ω k × (J.earliest k ≡ t))
        (values M J (completion M) J.earliest refl (λ k. back (is k))) (values J M J.earliest (completion M) refl is)

    pub est_mirrored : (t : ℤ) → Est M Ω t ↔ Lct J Ω (neg_ℤ t)
    est_mirrored = least_largest neg_ℤ neg_twice neg_falls (λ t. (k : ℕ) × In J Ω k × (completion J k ≡ t)) (λ t. (k : ℕ) × In M Ω k × (M.earliest k ≡ t))
        (values J M (completion J) M.earliest refl (λ k. refl)) (values M J M.earliest (completion J) refl (λ k. back refl))

  module _ (Ω : TaskSet) where
    less : (t : ℤ) → EstPlusP M Ω t → LctLessP J Ω (neg_ℤ t)
    unfolding up dn
    less t f = record {
      part = f.part;
      within = λ k h. f.within k (there h);
      end = neg_ℤ f.start;
      lct = (est_mirrored f.part f.start).0 f.est;
      difference = let z : f.start +ℤ pos (processing M f.part) ≡ t = f.sum in
          omega (ints, same_processing f.part, at_neg t, at_neg f.start, sumℤ f.start (pos (processing M f.part)), sumℤ (neg_ℤ t) (pos (processing J f.part)));
    }

    plus : (t : ℤ) → LctLessP J Ω t → EstPlusP M Ω (neg_ℤ t)
    unfolding up dn
    plus t f = record {
      part = f.part;
      within = λ k h. f.within k (here h);
      start = neg_ℤ f.end;
      est = (est_mirrored f.part (neg_ℤ f.end)).1 (subst (Lct J f.part) (sym (neg_twice f.end)) f.lct);
      sum = let z : t +ℤ pos (processing J f.part) ≡ f.end = f.difference in
          omega (ints, same_processing f.part, at_neg t, at_neg f.end, sumℤ (neg_ℤ f.end) (pos (processing M f.part)), sumℤ t (pos (processing J f.part)));
    }

    pub ect_mirrored : (t : ℤ) → Ect M Ω t ↔ Lst J Ω (neg_ℤ t)
    ect_mirrored = largest_least neg_ℤ neg_twice neg_falls (EstPlusP M Ω) (LctLessP J Ω) less plus

  -- Overloads, bounds, conflicts, schedules --------------------------------------------------------------------------------------

  -- est + p > lct reads the same both ways
  over_too : (start end : ℤ) (p : ℕ) → end <ℤ (start +ℤ pos p) → neg_ℤ start <ℤ (neg_ℤ end +ℤ pos p)
  unfolding up dn
  over_too start end p h = omega (ints, sumℤ start (pos p), sumℤ (neg_ℤ end) (pos p), at_neg start, at_neg end)

  overload→ : (Ω : TaskSet) → Overloads M Ω → Overloads J Ω
  overload→ Ω v =
      let over = subst (λ (p : ℕ). neg_ℤ v.start <ℤ (neg_ℤ v.end +ℤ pos p)) (same_processing Ω) (over_too v.start v.end (processing M Ω) v.over) in
      search ((lct_mirrored Ω v.end).0 v.lct, (est_mirrored Ω v.start).0 v.est, over)

  edge→ : (i : ℕ) (b : ℤ) → EdgeFindingBound M i b → MirroredBound J i (start_mirrored (d i) b)
  edge→ i b r =
      let outside : Outside J r.set i = record { small = r.outside.small; mem = r.outside.mem } in
      let passes : neg_ℤ r.joint <ℤ neg_ℤ r.end = let q : r.end <ℤ r.joint = r.passes in omega (ints, at_neg r.end, at_neg r.joint) in
      let lst = subst (Lst J r.set) (sym (mirrored_end (d i) b)) ((ect_mirrored r.set b).0 r.ect) in
      search (outside, (lct_mirrored r.set r.end).0 r.lct, (ect_mirrored (r.set with i) r.joint).0 r.ect_with, passes, lst)

  edge← : (i : ℕ) (b : ℤ) → MirroredBound J i (start_mirrored (d i) b) → EdgeFindingBound M i b
  edge← i b r =
      let outside : Outside M r.set i = record { small = r.outside.small; mem = r.outside.mem } in
      let lct = (lct_mirrored r.set (neg_ℤ r.start)).1 (subst (Est J r.set) (sym (neg_twice r.start)) r.est) in
      let ect_with = (ect_mirrored (r.set with i) (neg_ℤ r.joint)).1 (subst (Lst J (r.set with i)) (sym (neg_twice r.joint)) r.lst_with) in
      let passes : neg_ℤ r.start <ℤ neg_ℤ r.joint = let q : r.joint <ℤ r.start = r.passes in omega (ints, at_neg r.start, at_neg r.joint) in
      search (outside, lct, ect_with, passes, (ect_mirrored r.set b).1 (subst (Lst J r.set) (mirrored_end (d i) b) r.lst))

  pub edge_mirrored : (i : ℕ) (b : ℤ) → EdgeFindingBound M i b ↔ MirroredBound J i (start_mirrored (d i) b)
  edge_mirrored i b = (edge→ i b, edge← i b)

  -- a bound of the caller's time, in mirrored time
  edge_of : (i : ℕ) (b : ℤ) → MirroredBound J i b → EdgeFindingBound M i (start_mirrored (d i) b)
  edge_of i b r = edge← i (start_mirrored (d i) b) (subst (MirroredBound J i) (sym (start_twice (d i) b)) r)

  pub schedule_mirrored : (s : ℕ → ℤ) → Schedule J s → Schedule M (λ k. start_mirrored (d k) (s k))
  schedule_mirrored s h = record {
    from = λ k q. start_falls (d k) (s k) (J.latest k) (h.to k q);
    to = λ k q. start_falls (d k) (J.earliest k) (s k) (h.from k q);
    apart = λ j k p q ne. elim (h.apart j k p q ne) [ inl y ↦ inr (after j k y) | inr y ↦ inl (after k j y) ];
  }
    where
      -- where j ends before k starts, k mirrored ends before j starts
      after : (j k : ℕ) → (s j +ℤ pos (d j)) ≤ℤ s k → (start_mirrored (d k) (s k) +ℤ pos (d k)) ≤ℤ start_mirrored (d j) (s j)
      after j k y = subst (λ (e : ℤ). e ≤ℤ start_mirrored (d j) (s j)) (sym (mirrored_end (d k) (s k))) (neg_falls (s j +ℤ pos (d j)) (s k) y)

module _ (J : Tasks whole) where
  -- a set overloads its span in mirrored time exactly where it does in the caller's
  pub overloads_mirrored : (Ω : TaskSet) → Overloads (mirror J) Ω ↔ Overloads J Ω
  overloads_mirrored Ω = (overload→ J Ω, λ v. overload→ (mirror J) Ω (subst (λ (K : Tasks whole). Overloads K Ω) (sym (mirror_twice J)) v))

  conflict→ : Conflict (mirror J) → MirroredConflict J
  conflict→ (inl (Ω, v)) = inl (Ω, overload→ J Ω v)
  conflict→ (inr (i, b, r, q)) = inr (i, start_mirrored (J.duration i) b, edge→ J i b r, omega (ints, at_mirror (J.duration i) b, at_mirror (J.duration i) (J.earliest i), q))

  conflict← : MirroredConflict J → Conflict (mirror J)
  conflict← (inl (Ω, v)) = inl (Ω, (overloads_mirrored Ω).1 v)
  conflict← (inr (i, b, r, q)) = inr (i, start_mirrored (J.duration i) b, edge_of J i b r, start_falls< (J.duration i) b (J.earliest i) q)

  pub conflict_mirrored : Conflict (mirror J) ↔ MirroredConflict J
  conflict_mirrored = (conflict→, conflict←)

  -- A run in mirrored time that is done, mirrored back.
  module _ (now now' : ℕ → ℤ) (m : ℕ) (task : ℕ → ℕ) (bound bound' : ℕ → ℤ)
      (at : (k : ℕ) → k < J.count → now' k ≡ start_mirrored (J.duration k) (now k)) (by : (j : ℕ) → j < m → bound' j ≡ start_mirrored (J.duration (task j)) (bound j))
      (r : Done (mirror J) now m task bound) where
    least : (i : ℕ) → Largest whole (λ v. ((mirror J).earliest i ≡ v) ⊎ EdgeFindingBound (mirror J) i v) (now i)
        → Least whole (λ v. (J.latest i ≡ v) ⊎ MirroredBound J i v) (start_mirrored (d J i) (now i))
    least i = (largest_least (start_mirrored (d J i)) (start_twice (d J i)) (start_falls (d J i)) (λ v. ((mirror J).earliest i ≡ v) ⊎ EdgeFindingBound (mirror J) i v)
        (λ v. (J.latest i ≡ v) ⊎ MirroredBound J i v)
        (λ w h. elim h [ inl z ↦ inl (sym (start_twice (d J i) (J.latest i)) ∙ ap (start_mirrored (d J i)) z) | inr e ↦ inr (edge→ J i w e) ])
        (λ w h. elim h [ inl z ↦ inl (ap (start_mirrored (d J i)) z) | inr e ↦ inr (edge_of J i w e) ]) (now i)).0

    smallest : (i : ℕ) (b : ℤ) → Largest whole (EdgeFindingBound (mirror J) i) b → Least whole (MirroredBound J i) (start_mirrored (d J i) b)
    smallest i b = (largest_least (start_mirrored (d J i)) (start_twice (d J i)) (start_falls (d J i)) (EdgeFindingBound (mirror J) i) (MirroredBound J i) (edge→ J i) (edge_of J i) b).0

    pub done_mirrored : MirroredDone J now' m task bound'
    done_mirrored = record {
      no_overload = λ Ω v. r.no_overload Ω ((overloads_mirrored Ω).1 v);
      no_passing = λ i b e. omega (ints, at_mirror (d J i) b, at_mirror (d J i) (J.earliest i), r.no_passing i (start_mirrored (d J i) b) (edge_of J i b e));
      starts = λ i q. subst (Least whole (λ v. (J.latest i ≡ v) ⊎ MirroredBound J i v)) (sym (at i q)) (least i (r.starts i q));
      small = r.small;
      lowers = λ j q. omega (ints, by j q, at_mirror (d J (task j)) (bound j), at_mirror (d J (task j)) (J.latest (task j)), r.raises j q);
      at_smallest = λ j q. subst (Least whole (MirroredBound J (task j))) (sym (by j q)) (smallest (task j) (bound j) (r.at_largest j q));
      every = λ k q h. r.every k q (omega (ints, h, at k q, at_mirror (d J k) (now k), at_mirror (d J k) (J.latest k)));
      once = r.once;
    }

-- Atoms ------------------------------------------------------------------------------------------------------------------------

-- a start compares with a value as the mirrored one does, by the mirrored kind, with the mirrored value
compares : (p kind : ℕ) (v z : ℤ) → Compares kind v (start_mirrored p z) → Compares (mirror_kind kind) (start_mirrored p v) z
compares p zero v z h = omega (ints, at_mirror p v, at_mirror p z)
compares p (suc zero) v z h = omega (ints, at_mirror p v, at_mirror p z)
compares p (suc (suc zero)) v z h = sym (start_twice p z) ∙ ap (start_mirrored p) h
compares p (suc (suc (suc k))) v z h = λ e. h (ap (start_mirrored p) e ∙ start_twice p v)

kind_twice : (k : ℕ) → mirror_kind (mirror_kind k) ≡ k
kind_twice zero = refl
kind_twice (suc zero) = refl
kind_twice (suc (suc k)) = refl

module _ (d : ℕ → ℕ) where
  pub atom_twice : (a : Atom) → mirror_atom d (mirror_atom d a) ≡ a
  atom_twice a = λ i. record { variable = a.variable; kind = kind_twice a.kind i; value = start_twice (d a.variable) a.value i }

  pub atoms_twice : (reason : List Atom) → mirror_atoms d (mirror_atoms d reason) ≡ reason
  atoms_twice [] = refl
  atoms_twice (a ∷ rest) = λ i. atom_twice a i ∷ atoms_twice rest i

  module _ (s : ℕ → ℤ) where
    meets→ : (a : Atom) → Meets (λ k. start_mirrored (d k) (s k)) a → Meets s (mirror_atom d a)
    meets→ a = compares (d a.variable) a.kind a.value (s a.variable)

    every→ : (reason : List Atom) → Every (Meets (λ k. start_mirrored (d k) (s k))) reason → Every (Meets s) (mirror_atoms d reason)
    every→ [] h = tt
    every→ (a ∷ rest) h = (meets→ a h.0, every→ rest h.1)

  -- an atom is met at mirrored starts exactly where it is met, mirrored, at the starts
  pub meets_mirrored : (s : ℕ → ℤ) (a : Atom) → Meets (λ k. start_mirrored (d k) (s k)) a ↔ Meets s (mirror_atom d a)
  meets_mirrored s a = (
    meets→ s a,
    λ h. subst (Meets (λ k. start_mirrored (d k) (s k))) (atom_twice a)
        (meets→ (λ k. start_mirrored (d k) (s k)) (mirror_atom d a) (subst (λ (f : ℕ → ℤ). Meets f (mirror_atom d a)) (fun_ext (λ k. sym (start_twice (d k) (s k)))) h)),
  )

-- a reason that holds at entry in mirrored time holds, mirrored, in the caller's
pub holds_mirrored : (J : Tasks whole) (reason : List Atom) → HoldsAtEntry (mirror J) reason → HoldsAtEntry J (mirror_atoms J.duration reason)
holds_mirrored J reason h s w = every→ J.duration s reason
    (h (λ k. start_mirrored (J.duration k) (s k)) (λ k q. (start_falls (J.duration k) (s k) (J.latest k) (w k q).1, start_falls (J.duration k) (J.earliest k) (s k) (w k q).0)))
