-- The tasks by latest completion and the first of them: those read overload exactly where some set of all the tasks does.
use mathlib.Core.Path.{◌≡◌, refl, sym, ap, subst, ◌∙◌}
use mathlib.Core.Bool.{true, false}
use mathlib.Core.Logic.{◌⊎◌, inl, inr}
use mathlib.Core.List.{List}
use Prim.Native.Nat.{ℕ, suc, ◌+◌, ◌≤◌, ◌<◌}
use native.Mathlib.Omega.{arith}
use lib.Dec.{leb}
use lib.ListN.{get_or, take, length-take}
use lib.Seq.{get_or-take}
use borrow.Author.Tests.{leb-true}
use Rattle.integers.specs.Orders.{index, has, Distinct, Permutes, numbers, Ordered}
use Rattle.integers.proofs.Bools.{bool, clash}
use Rattle.integers.proofs.Permutations.{has_at, index_at, index_back, numbers_permute}
use Rattle.integers.proofs.StableSort.{sort_permutes, sort_ordered, key_whole, key_chain}
use Rattle.scheduling.specs.Scheduling.{natural, Tasks, Proper, TaskSet, In, NonEmpty, EstPlusP, Overloads, completion, processing}
use Rattle.scheduling.specs.Ects.{ect_of}
use Rattle.scheduling.proofs.Ects.{ect_is, ect_some}
use Rattle.scheduling.proofs.Exists.{largest_at}
use Rattle.trees.proofs.Ects.{exceeds_yes, some_exceeds}
use Rattle.overload_test.specs.ReadTasks.{by_completion, read, overloads_at}

-- The front of a list ----------------------------------------------------------------------------------------------------------

-- a number is among the first k exactly where its place is before k
front_has : (l : List ℕ) (k x : ℕ) → has l x ≡ true → index l x < k → has (take k l) x ≡ true
front_has l k x h q =
    let (small, is) = index_at l x h in
    subst (λ (y : ℕ). has (take k l) y ≡ true) (get_or-take k l (index l x) 0 q ∙ is) (has_at (take k l) (index l x) (omega (arith, length-take k l, small)))

front_place : (l : List ℕ) → Distinct l → (k x : ℕ) → has (take k l) x ≡ true → (has l x ≡ true) × (index l x < k)
front_place l d k x h =
    let (small, is) = index_at (take k l) x h in
    let j : ℕ = index (take k l) x in
    let q : j < k = omega (arith, length-take k l, small) in
    let e : get_or l j 0 ≡ x = sym (get_or-take k l j 0 q) ∙ is in
    let z : index l x ≡ j = ap (index l) (sym e) ∙ index_back l d j (omega (arith, length-take k l, small)) in
    (subst (λ (y : ℕ). has l y ≡ true) e (has_at l j (omega (arith, length-take k l, small))), omega (arith, z, q))

module _ (J : Tasks natural) where
  -- The order ------------------------------------------------------------------------------------------------------------------

  permutes : Permutes J.count (by_completion J)
  permutes = sort_permutes (λ j k. leb (completion J j) (completion J k)) J.count (numbers 0 J.count) (numbers_permute J.count)

  abbrev at : ℕ → ℕ
  at t = get_or (by_completion J) t 0

  abbrev place : ℕ → ℕ
  place k = index (by_completion J) k

  pub by_completion_is : Ordered J.count (λ t. get_or (by_completion J) t 0) (λ k. index (by_completion J) k) (λ j k. completion J j ≤ completion J k)
  by_completion_is =
      let r = sort_ordered (λ j k. leb (completion J j) (completion J k)) (key_whole (completion J)) (key_chain (completion J)) J.count (numbers 0 J.count) (numbers_permute J.count) in
      record { task = r.task; placed = r.placed; there = r.there; back = r.back; sorted = λ s t q h. leb-true _ _ (r.sorted s t q h) }

  -- a task is read exactly where its place is before k
  read_yes : (k j : ℕ) → j < J.count → place j < k → read J k j ≡ true
  read_yes k j q r = front_has (by_completion J) k j (permutes.every j q) r

  pub read_place : (k j : ℕ) → read J k j ≡ true → place j < k
  read_place k j h = (front_place (by_completion J) permutes.distinct k j h).1

  pub read_small : (k j : ℕ) → read J k j ≡ true → j < J.count
  read_small k j h = permutes.below j (front_place (by_completion J) permutes.distinct k j h).0

  -- one task more
  pub read_new : (k : ℕ) → k < J.count → read J (suc k) (get_or (by_completion J) k 0) ≡ true
  read_new k q = read_yes (suc k) (at k) (by_completion_is.task k q) (omega (arith, by_completion_is.back k q))

  pub read_old : (k j : ℕ) → (j ≡ get_or (by_completion J) k 0 → ⊥) → read J (suc k) j ≡ read J k j
  read_old k j ne = by (bool (read J (suc k) j)) (bool (read J k j))
    where
      by : (read J (suc k) j ≡ true) ⊎ (read J (suc k) j ≡ false) → (read J k j ≡ true) ⊎ (read J k j ≡ false) → read J (suc k) j ≡ read J k j
      by (inl a) (inl b) = a ∙ sym b
      by (inl a) (inr b) =
          let q : j < J.count = read_small (suc k) j a in
          let other : place j ≡ k → ⊥ = λ z. ne (sym (by_completion_is.there j q) ∙ ap at z) in
          clash (read_yes k j q (omega (arith, read_place (suc k) j a, other))) b
      by (inr a) (inl b) = clash (read_yes (suc k) j (read_small k j b) (omega (arith, read_place k j b))) a
      by (inr a) (inr b) = a ∙ sym b

  pub read_none : (j : ℕ) → read J 0 j ≡ false
  read_none j = elim (bool (read J 0 j)) [ inl y ↦ absurd (omega (arith, read_place 0 j y)) | inr y ↦ y ]

  -- Overloads ------------------------------------------------------------------------------------------------------------------

  module _ (ok : Proper J) where
    some_read : (k : ℕ) → k < J.count → NonEmpty J (read J (suc k))
    some_read k q = (at k, record { small = by_completion_is.task k q; mem = read_new k q })

    -- those read end by the latest completion of the last
    ends : (k j : ℕ) → k < J.count → In J (read J (suc k)) j → completion J j ≤ completion J (at k)
    ends k j q h = subst (λ (i : ℕ). completion J i ≤ completion J (at k)) (by_completion_is.there j h.small) (by_completion_is.sorted (place j) k (omega (arith, read_place (suc k) j h.mem)) q)

    -- where their ect is past it, the part of them that attains the ect overloads
    pub shown : (k : ℕ) → k < J.count → overloads_at J k ≡ true → (Ω : TaskSet) × Overloads J Ω
    shown k q y = let (v, is, over) = exceeds_yes (ect_of J (read J (suc k))) (completion J (at k)) y in go v over ((ect_is J ok (read J (suc k)) v).0 is).holds
      where
        go : (v : ℕ) → completion J (at k) < v → EstPlusP J (read J (suc k)) v → (Ω : TaskSet) × Overloads J Ω
        go v over f =
            let (m, mm, mt) = largest_at J f.part (completion J) (f.est.holds.0, f.est.holds.1) in (
              f.part,
              record {
                start = f.start;
                end = completion J m;
                est = f.est;
                lct = record { holds = (m, mm, refl); bounds = λ w h. omega (arith, mt h.0 h.1, h.2) };
                over = omega (arith, f.sum, over, ends k m q (record { small = mm.small; mem = f.within m mm }));
              },
            )

    -- a set that overloads is all read with its last task, and shows then
    pub record Met (Ω : TaskSet) : Type 0 where
      pub last : ℕ
      pub member : In J Ω last
      pub shows : overloads_at J (index (by_completion J) last) ≡ true

    pub last_met : (Ω : TaskSet) → Overloads J Ω → Met Ω
    last_met Ω o =
        let (m, mm, mt) = largest_at J Ω place (o.lct.holds.0, o.lct.holds.1) in
        let k : ℕ = place m in
        let q : k < J.count = by_completion_is.placed m mm.small in
        let (v, is, largest) = ect_some J ok (read J (suc k)) (some_read k q) in
        let bound : o.start + processing J Ω ≤ v
        = largest.bounds (o.start + processing J Ω) (record { part = Ω; within = λ j h. read_yes (suc k) j h.small (omega (arith, mt j h)); start = o.start; est = o.est; sum = refl }) in
        let same : completion J (at k) ≡ completion J m = ap (completion J) (by_completion_is.there m mm.small) in
        record {
          last = m;
          member = mm;
          shows = some_exceeds (ect_of J (read J (suc k))) v (completion J (at k)) is
              (omega (arith, o.over, o.lct.bounds (completion J m) (m, mm, refl), bound, same));
        }

    pub met : (Ω : TaskSet) → Overloads J Ω → (k : ℕ) × (k < J.count) × (overloads_at J k ≡ true)
    met Ω o = let l = last_met Ω o in (place l.last, by_completion_is.placed l.last l.member.small, l.shows)
