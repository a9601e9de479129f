-- The levels of a run, over sets of tasks alone: what holds at each, how each step keeps it, and what follows when it ends.
use mathlib.Core.Path.{◌≡◌, refl, sym, ap, subst, ◌∙◌}
use mathlib.Core.Bool.{true, false}
use mathlib.Core.Logic.{◌⊎◌, inl, inr}
use Prim.Native.Nat.{ℕ, suc, ◌+◌, ◌-◌, ◌≤◌, ◌<◌, max}
use native.Mathlib.Omega.{arith}
use native.Mathlib.Decide.{dec_le, dec_lt, ℕ_discrete}
use borrow.Author.Tests.{leb-true, le-leb, lt-leb}
use lib.Dec.{leb}
use Rattle.scheduling.specs.Scheduling.{natural, Tasks, Proper, TaskSet, ◌with◌, Largest, In, Outside, NonEmpty, Subset, completion, Lct}
use Rattle.scheduling.specs.Scheduling.{processing, EstPlusP, Ect, Overloads, EdgeFindingBound, Done}
use Rattle.scheduling.specs.Moments.{ByCompletion}
use Rattle.integers.proofs.Bools.{bool, clash, below_suc}
use Rattle.scheduling.proofs.Sets.{top, ◌less◌, less_in, less_out, with_in, with_new, with_old}
use Rattle.scheduling.proofs.Processing.{processing_less, processing_empty}
use Rattle.scheduling.proofs.LargerSets.{ect_mono}

-- One post for each task whose start was raised, at its new earliest start.
pub record Posts (J : Tasks natural) (now : ℕ → ℕ) (m : ℕ) (task bound : ℕ → ℕ) : Type 0 where
  pub small : (j : ℕ) → j < m → task j < J.count
  pub raises : (j : ℕ) → j < m → J.earliest (task j) < bound j
  pub agrees : (j : ℕ) → j < m → bound j ≡ now (task j)
  pub every : (k : ℕ) → k < J.count → J.earliest k < now k → (j : ℕ) × (j < m) × (task j ≡ k)
  pub once : (i j : ℕ) → i < m → j < m → task i ≡ task j → i ≡ j

-- one more post keeps the posts right
pub more : (J : Tasks natural) (now now' : ℕ → ℕ) (m : ℕ) (task bound task' bound' : ℕ → ℕ) (i b : ℕ) → i < J.count → Posts J now m task bound → now i ≡ J.earliest i → J.earliest i < b
    → now' i ≡ b → ((k : ℕ) → (k ≡ i → ⊥) → now' k ≡ now k) → task' m ≡ i → bound' m ≡ b → ((j : ℕ) → j < m → task' j ≡ task j) → ((j : ℕ) → j < m → bound' j ≡ bound j)
    → Posts J now' (suc m) task' bound'
more J now now' m task bound task' bound' i b q p same up new others ti bi ts bs =
    record {
      small = below_suc (λ j. task' j < J.count) m (λ j r. rw (ts j r) (p.small j r)) (rw ti q);
      raises = below_suc (λ j. J.earliest (task' j) < bound' j) m (λ j r. rw (ts j r, bs j r) (p.raises j r)) (rw (ti, bi) up);
      agrees = below_suc (λ j. bound' j ≡ now' (task' j)) m (λ j r. rw (ts j r, bs j r, others (task j) (fresh j r)) (p.agrees j r)) (rw (ti, bi) (sym new));
      every = every;
      once = once;
    }
  where
    -- i was not posted before
    fresh : (j : ℕ) → j < m → task j ≡ i → ⊥
    fresh j r z = omega (arith, p.raises j r, p.agrees j r, ap now z, ap J.earliest z)

    every : (k : ℕ) → k < J.count → J.earliest k < now' k → (j : ℕ) × (j < suc m) × (task' j ≡ k)
    every k r s = elim (ℕ_discrete k i) [
      | yes z ↦ (m, omega arith, ti ∙ sym z)
      | no z ↦ (let (j, a, c) = p.every k r (rw (others k z) at s) in (j, omega arith, ts j a ∙ c))
    ]

    once : (a c : ℕ) → a < suc m → c < suc m → task' a ≡ task' c → a ≡ c
    once a c ha hc = elim (dec_lt a m) [
      | yes x ↦ elim (dec_lt c m) [
        | yes y ↦ (λ e. p.once a c x y (sym (ts a x) ∙ e ∙ ts c y))
        | no y ↦ (λ e. absurd (fresh a x (let z : c ≡ m = omega arith in sym (ts a x) ∙ e ∙ ap task' z ∙ ti)))
      ]
      | no x ↦ elim (dec_lt c m) [
        | yes y ↦ (λ e. absurd (fresh c y (let z : a ≡ m = omega arith in sym (ts c y) ∙ sym e ∙ ap task' z ∙ ti)))
        | no y ↦ (λ e. omega arith)
      ]
    ]

module _ (J : Tasks natural) (ok : Proper J) (ect : TaskSet → ℕ) (ect_is : (Ω : TaskSet) → NonEmpty J Ω → Ect J Ω (ect Ω)) (L place : ℕ → ℕ) (ord : ByCompletion J L place) where
  -- what is left of the order from place t on
  abbrev pub Θ : ℕ → TaskSet
  Θ t k = leb t (place k)

  abbrev pub End : ℕ → ℕ
  End t = completion J (L t)

  -- k left Λ at a level up to t, with the start `new`
  pub record LeftLambda (t k new : ℕ) : Type 0 where
    pub level : ℕ
    pub late : place k < level
    pub seen : level ≤ t
    pub passes : End level < ect (Θ level with k)
    pub first : (r : ℕ) → place k < r → r < level → ect (Θ r with k) ≤ End r
    pub raised : new ≡ max (J.earliest k) (ect (Θ level))

  pub record Facts (t : ℕ) (Λ : TaskSet) (now : ℕ → ℕ) : Type 0 where
    pub fits_before : (s : ℕ) → s < t → ect (Θ s) ≤ End s
    pub gray : (k : ℕ) → In J Λ k → place k < t
    pub not_passed : (k : ℕ) → In J Λ k → (r : ℕ) → place k < r → r < t → ect (Θ r with k) ≤ End r
    pub left : (k : ℕ) → Outside J Λ k → place k < t → LeftLambda t k (now k)
    pub same_in : (k : ℕ) → In J Λ k → now k ≡ J.earliest k
    pub same_on : (k : ℕ) → k < J.count → t ≤ place k → now k ≡ J.earliest k
    pub inside : (k : ℕ) → k < J.count → now k ≤ J.latest k

  -- the task L t goes to Λ; of Λ' only the members count
  pub next : (t : ℕ) (Λ Λ' : TaskSet) (now : ℕ → ℕ) → t < J.count → Facts t Λ now → ((k : ℕ) → In J Λ k → ect (Θ t with k) ≤ End t) → ect (Θ t) ≤ End t
      → ((k : ℕ) → k < J.count → Λ' k ≡ (Λ with L t) k) → Facts (suc t) Λ' now
  next t Λ Λ' now small f None_passes level_fits same =
      record {
        fits_before = below_suc (λ s. ect (Θ s) ≤ End s) t f.fits_before level_fits;
        gray = λ k h. elim (was k h) [ inl z ↦ omega (arith, at_t k z) | inr y ↦ omega (arith, f.gray k y) ];
        not_passed = λ k h. elim (was k h) [
          | inl z ↦ (λ r a b. absurd (omega (arith, at_t k z)))
          | inr y ↦ (λ r a b. below_suc (λ r. place k < r → ect (Θ r with k) ≤ End r) t (λ r q a. f.not_passed k y r a q) (λ a. None_passes k y) r b a)
        ];
        left = left;
        same_in = λ k h. elim (was k h) [ inl z ↦ f.same_on k h.small (omega (arith, at_t k z)) | inr y ↦ f.same_in k y ];
        same_on = λ k q r. f.same_on k q (omega arith);
        inside = f.inside;
      }
    where
      at_t : (k : ℕ) → k ≡ L t → place k ≡ t
      at_t k z = rw z (ord.back t small)

      was : (k : ℕ) → In J Λ' k → (k ≡ L t) ⊎ In J Λ k
      was k h = elim (with_in Λ (L t) k (sym (same k h.small) ∙ h.mem)) [ inl z ↦ inl z | inr y ↦ inr (record { small = h.small; mem = y }) ]

      left : (k : ℕ) → Outside J Λ' k → place k < suc t → LeftLambda (suc t) k (now k)
      left k h q =
          let out = sym (same k h.small) ∙ h.mem in
          elim (bool (Λ k)) [
            | inl y ↦ clash (with_old Λ (L t) k y) out
            | inr y ↦ elim (ℕ_discrete (place k) t) [
              | yes z ↦ clash (subst (λ (i : ℕ). (Λ with i) k ≡ true) (sym (ord.there k h.small) ∙ ap L z) (with_new Λ k)) out
              | no z ↦ (let o = f.left k (record { small = h.small; mem = y }) (omega arith) in
                  record { level = o.level; late = o.late; seen = omega arith; passes = o.passes; first = o.first; raised = o.raised })
            ]
          ]

  -- i leaves Λ
  pub leave : (t : ℕ) (Λ Λ' : TaskSet) (now now' : ℕ → ℕ) (i : ℕ) → Facts t Λ now → In J Λ i → End t < ect (Θ t with i)
      → now' i ≡ max (J.earliest i) (ect (Θ t)) → now' i ≤ J.latest i → ((k : ℕ) → (k ≡ i → ⊥) → now' k ≡ now k)
      → ((k : ℕ) → k < J.count → Λ' k ≡ (Λ less i) k) → Facts t Λ' now'
  leave t Λ Λ' now now' i f h over new fits others same = search (f.gray, f.not_passed, kept, left, same_in, same_on, inside)
    where
      kept : (k : ℕ) → In J Λ' k → In J Λ k
      kept k m = record { small = m.small; mem = (less_in Λ i k (sym (same k m.small) ∙ m.mem)).0 }

      apart : (k : ℕ) → In J Λ' k → k ≡ i → ⊥
      apart k m = (less_in Λ i k (sym (same k m.small) ∙ m.mem)).1

      left : (k : ℕ) → Outside J Λ' k → place k < t → LeftLambda t k (now' k)
      left k m q = elim (ℕ_discrete k i) [
        | yes z ↦ rw z (record { level = t; late = f.gray i h; seen = omega arith; passes = over; first = f.not_passed i h; raised = new })
        | no z ↦ rw (others k z) (f.left k (record { small = m.small; mem = elim (bool (Λ k)) [ inl y ↦ clash (less_out Λ i k y z) (sym (same k m.small) ∙ m.mem) | inr y ↦ y ] }) q)
      ]

      same_in : (k : ℕ) → In J Λ' k → now' k ≡ J.earliest k
      same_in k m = rw (others k (apart k m)) (f.same_in k (kept k m))

      same_on : (k : ℕ) → k < J.count → t ≤ place k → now' k ≡ J.earliest k
      same_on k q r = rw (others k (λ z. omega (arith, f.gray i h, ap place z))) (f.same_on k q r)

      inside : (k : ℕ) → k < J.count → now' k ≤ J.latest k
      inside k q = elim (ℕ_discrete k i) [ yes z ↦ rw z fits | no z ↦ rw (others k z) (f.inside k q) ]

  in_Θ : (t k : ℕ) → k < J.count → t ≤ place k → In J (Θ t) k
  in_Θ t k q r = record { small = q; mem = le-leb t (place k) r }

  Θ_some : (t : ℕ) → t < J.count → NonEmpty J (Θ t)
  Θ_some t q = (L t, in_Θ t (L t) (ord.task t q) (omega (arith, ord.back t q)))

  -- every task of a level ends by its end
  ends_by : (t k : ℕ) → In J (Θ t) k → completion J k ≤ End t
  ends_by t k h = subst (λ (j : ℕ). completion J j ≤ End t) (ord.there k h.small) (ord.sorted t (place k) (leb-true t (place k) h.mem) (ord.placed k h.small))

  -- the last level is one task, which never overloads
  pub last_fits : (t : ℕ) → suc t ≡ J.count → ect (Θ t) ≤ End t
  last_fits t z = go (ect_is (Θ t) (Θ_some t (omega arith))).holds
    where
      only : (k : ℕ) → In J (Θ t) k → L t ≡ k
      only k h = subst (λ (r : ℕ). L r ≡ k) (omega (arith, leb-true t (place k) h.mem, ord.placed k h.small)) (ord.there k h.small)

      go : EstPlusP J (Θ t) (ect (Θ t)) → ect (Θ t) ≤ End t
      go f =
          let (k, km, ek) = f.est.holds in
          let lk : L t ≡ k = only k (record { small = km.small; mem = f.within k km }) in
          let none : processing J (f.part less k) ≡ 0
          = processing_empty J (f.part less k) (λ j q. elim (bool ((f.part less k) j))
          [ inl y ↦ absurd ((less_in f.part k j y).1 (sym (only j (record { small = q; mem = f.within j (record { small = q; mem = (less_in f.part k j y).0 }) })) ∙ lk)) | inr y ↦ y ]) in
          rw lk (omega (arith, processing_less J f.part k km, ok.ranges k km.small, f.sum))

  -- the first task of a set in the order: the set lies in what is left from there
  first_of : (Ω : TaskSet) → NonEmpty J Ω → (k : ℕ) × In J Ω k × Subset J Ω (Θ (place k))
  first_of Ω some = elim (top Ω (λ k. J.count - place k) J.count) [
    | inl none ↦ clash some.1.mem (none some.0 some.1.small)
    | inr t ↦ (
      t.at,
      record { small = t.small; mem = t.mem },
      λ j h. le-leb (place t.at) (place j) (omega (arith, t.top j h.small h.mem, ord.placed j h.small, ord.placed t.at t.small)),
    )
  ]

  with_mono : (S Ω : TaskSet) (i : ℕ) → Subset J S Ω → Subset J (S with i) (Ω with i)
  with_mono S Ω i sub j h = elim (with_in S i j h.mem)
      [ inl z ↦ rw z (with_new Ω i) | inr y ↦ with_old Ω i j (sub j (record { small = h.small; mem = y })) ]

  -- a level that i passes gives a bound of i
  pub edge : (t i : ℕ) → i < J.count → place i < t → t < J.count → End t < ect (Θ t with i) → EdgeFindingBound J i (ect (Θ t))
  edge t i q late small over =
      let outside : Outside J (Θ t) i = record { small = q; mem = lt-leb t (place i) late } in
      let lct : Lct J (Θ t) (End t)
      = record { holds = (L t, in_Θ t (L t) (ord.task t small) (omega (arith, ord.back t small)), refl); bounds = λ w h. omega (arith, ends_by t h.0 h.1, h.2) } in
      search (outside, lct, over, ect_is (Θ t with i) (i, record { small = q; mem = with_new (Θ t) i }), ect_is (Θ t) (Θ_some t small))

  -- At the end of a level all of whose Λ is quiet:
  module _ (t : ℕ) (Λ : TaskSet) (now : ℕ → ℕ) (end : suc t ≡ J.count) (f : Facts t Λ now) (None_passes : (k : ℕ) → In J Λ k → ect (Θ t with k) ≤ End t) where
    level_fits : (s : ℕ) → s < J.count → ect (Θ s) ≤ End s
    level_fits s q = below_suc (λ s. ect (Θ s) ≤ End s) t f.fits_before (last_fits t end) s (omega arith)

    waited : (k : ℕ) → In J Λ k → (r : ℕ) → place k < r → r < J.count → ect (Θ r with k) ≤ End r
    waited k h r a q = below_suc (λ r. place k < r → ect (Θ r with k) ≤ End r) t (λ r q a. f.not_passed k h r a q) (λ _. None_passes k h) r (omega arith) a

    -- an edge-finding bound of i, and the first task of its set
    module _ (i b : ℕ) (r : EdgeFindingBound J i b) (k : ℕ) (km : In J r.set k) (sub : Subset J r.set (Θ (place k))) where
      small : place k < J.count
      small = ord.placed k km.small

      -- the level of k is passed with i
      over : End (place k) < ect (Θ (place k) with i)
      over = rw (ord.there k km.small) (omega (
        arith,
        r.lct.bounds (completion J k) (k, km, refl),
        r.passes,
        ect_mono J (r.set with i) (Θ (place k) with i) r.joint (ect (Θ (place k) with i)) (with_mono r.set (Θ (place k)) i sub) r.ect_with
            (ect_is (Θ (place k) with i) (i, record { small = r.outside.small; mem = with_new (Θ (place k)) i })),
      ))

      before : place i < place k
      before = elim (dec_lt (place i) (place k)) [
        | yes q ↦ q
        | no q ↦ absurd (omega (
          arith,
          over,
          level_fits (place k) small,
          ect_mono J (Θ (place k) with i) (Θ (place k)) (ect (Θ (place k) with i)) (ect (Θ (place k)))
              (λ j h. elim (with_in (Θ (place k)) i j h.mem) [ inl z ↦ rw z (le-leb (place k) (place i) (omega arith)) | inr y ↦ y ])
              (ect_is (Θ (place k) with i) (i, record { small = r.outside.small; mem = with_new (Θ (place k)) i })) (ect_is (Θ (place k)) (Θ_some (place k) small)),
        ))
      ]

      by : (Λ i ≡ true) ⊎ (Λ i ≡ false) → (o : LeftLambda t i (now i)) × (b ≤ ect (Θ o.level))
      by (inl y) = absurd (omega (arith, over, waited i (record { small = r.outside.small; mem = y }) (place k) before small))
      by (inr y) =
          let o : LeftLambda t i (now i) = f.left i (record { small = r.outside.small; mem = y }) (omega (arith, before, small)) in
          let lv : o.level ≤ place k = elim (dec_le o.level (place k)) [ yes q ↦ q | no q ↦ absurd (omega (arith, over, o.first (place k) before (omega arith))) ] in (
            o,
            ect_mono J r.set (Θ o.level) b (ect (Θ o.level))
                (λ j h. le-leb o.level (place j) (omega (arith, leb-true (place k) (place j) (sub j h))))
                r.ect (ect_is (Θ o.level) (Θ_some o.level (omega arith))),
          )

    -- what it comes to: i left Λ, with a bound as large
    edge_left : (i b : ℕ) → EdgeFindingBound J i b → (o : LeftLambda t i (now i)) × (b ≤ ect (Θ o.level))
    edge_left i b r = let (k, km, sub) = first_of r.set (r.lct.holds.0, r.lct.holds.1) in by i b r k km sub (bool (Λ i))

    -- and the other way: what i left with is an edge-finding bound
    left_edge : (i new : ℕ) → i < J.count → (o : LeftLambda t i new) → EdgeFindingBound J i (ect (Θ o.level))
    left_edge i new q o = edge o.level i q o.late (omega arith) o.passes

    pub no_overload : (Ω : TaskSet) → Overloads J Ω → ⊥
    no_overload Ω o =
        let (k, km, sub) = first_of Ω (o.lct.holds.0, o.lct.holds.1) in
        let small : place k < J.count = ord.placed k km.small in
        let w : o.start + processing J Ω ≤ ect (Θ (place k))
        = (ect_is (Θ (place k)) (Θ_some (place k) small)).bounds (o.start + processing J Ω) (record { part = Ω; within = sub; start = o.start; est = o.est; sum = refl }) in
        let c : ect (Θ (place k)) ≤ completion J k = rw (ord.there k km.small) at (level_fits (place k) small) in
        omega (arith, o.over, o.lct.bounds (completion J k) (k, km, refl))

    -- the new start is at least each bound
    edge_now : (i b : ℕ) → EdgeFindingBound J i b → b ≤ now i
    edge_now i b r = let (o, q) = edge_left i b r in omega (arith, o.raised)

    pub no_passing : (i b : ℕ) → EdgeFindingBound J i b → b ≤ J.latest i
    no_passing i b r = omega (arith, edge_now i b r, f.inside i r.outside.small)

    -- a start is unchanged, or raised to one of its bounds
    now_edge : (i : ℕ) → i < J.count → (now i ≡ J.earliest i) ⊎ ((J.earliest i < now i) × EdgeFindingBound J i (now i))
    now_edge i q = elim (dec_lt (place i) t) [
      | no z ↦ inl (f.same_on i q (omega arith))
      | yes z ↦ elim (bool (Λ i)) [
        | inl y ↦ inl (f.same_in i (record { small = q; mem = y }))
        | inr y ↦ (let o : LeftLambda t i (now i) = f.left i (record { small = q; mem = y }) z in
            elim (dec_le (ect (Θ o.level)) (J.earliest i)) [
              | yes c ↦ inl (omega (arith, o.raised))
              | no c ↦ inr (let e : ect (Θ o.level) ≡ now i = omega (arith, o.raised) in (omega arith, rw e at (left_edge i (now i) q o)))
            ])
      ]
    ]

    pub starts : (i : ℕ) → i < J.count → Largest natural (λ v. (J.earliest i ≡ v) ⊎ EdgeFindingBound J i v) (now i)
    starts i q = record { holds = elim (now_edge i q) [ inl z ↦ inl (sym z) | inr z ↦ inr z.1 ]; bounds = bounds }
      where
        bounds : (w : ℕ) → (J.earliest i ≡ w) ⊎ EdgeFindingBound J i w → w ≤ now i
        bounds w (inl z) = elim (now_edge i q) [ inl y ↦ omega arith | inr y ↦ omega (arith, y.0) ]
        bounds w (inr r) = edge_now i w r

    largest : (i : ℕ) → i < J.count → J.earliest i < now i → Largest natural (EdgeFindingBound J i) (now i)
    largest i q up = record { holds = elim (now_edge i q) [ inl z ↦ absurd (omega arith) | inr z ↦ z.1 ]; bounds = edge_now i }

    pub finish : (m : ℕ) (task bound : ℕ → ℕ) → Posts J now m task bound → Done J now m task bound
    finish m task bound p =
        let at_largest : (j : ℕ) → j < m → Largest natural (EdgeFindingBound J (task j)) (bound j)
        = λ j q. rw (p.agrees j q) (largest (task j) (p.small j q) (omega (arith, p.raises j q, p.agrees j q))) in
        search (no_overload, no_passing, starts, at_largest)

  -- A level whose ect passes its end holds a set that overloads its span.
  pub overloaded : (t : ℕ) → t < J.count → End t < ect (Θ t) → (Ω : TaskSet) × Overloads J Ω
  overloaded t small over = go (ect_is (Θ t) (Θ_some t small)).holds
    where
      go : EstPlusP J (Θ t) (ect (Θ t)) → (Ω : TaskSet) × Overloads J Ω
      go f = elim (top f.part (completion J) J.count) [
        | inl none ↦ clash f.est.holds.1.mem (none f.est.holds.0 f.est.holds.1.small)
        | inr m ↦ (
          f.part,
          record {
            start = f.start;
            end = completion J m.at;
            est = f.est;
            lct = record { holds = (m.at, record { small = m.small; mem = m.mem }, refl); bounds = λ w h. omega (arith, m.top h.0 h.1.small h.1.mem, h.2) };
            over = omega (arith, f.sum, ends_by t m.at (record { small = m.small; mem = f.within m.at (record { small = m.small; mem = m.mem }) }));
          },
        )
      ]
