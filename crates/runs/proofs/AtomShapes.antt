-- The atoms of a run's reasons: ≥ or ≤ on a task, with a value near the tasks' starts; and how many they are.
use mathlib.Core.Path.{◌≡◌, refl}
use mathlib.Core.Bool.{true, false}
use mathlib.Core.Option.{some}
use mathlib.Core.List.{List, [], ◌∷◌}
use mathlib.Core.Logic.{inl, inr}
use Prim.Native.Nat.{ℕ, ◌+◌, ◌-◌, ◌*◌, ◌/◌, ◌≤◌, ◌<◌, min}
use native.Mathlib.Omega.{arith}
use lib.Dec.{eqb, leb, ltb}
use lib.IntN.{ℤ, pos, ◌+ℤ◌}
use lib.ListN.{length, get_or}
use lib.Signed.{◌≤ℤ◌}
use borrow.Author.Tests.{eqb-true, ltb-true}
use Rattle.integers.specs.Limits.{DURATIONS, MIRRORED}
use Rattle.integers.specs.Moments.{moment, Above, instant, zero_at}
use Rattle.integers.specs.Orders.{index, has}
use Rattle.integers.proofs.Bools.{bool}
use Rattle.integers.proofs.Ints.{up, dn, ints, sumℤ}
use Rattle.integers.proofs.MomentSums.{mono, at_moment}
use Rattle.integers.proofs.Permutations.{has_here, has_later}
use Rattle.scheduling.specs.Scheduling.{natural, Tasks, tasks_of, Proper, TaskSet, ◌with◌, completion, processing, Atom, Every}
use Rattle.scheduling.proofs.Every.{every_append}
use Rattle.scheduling.proofs.Processing.{processing_all, processing_mono, processing_less, processing_with}
use Rattle.scheduling.specs.Moments.{moments, ByEarliest, ByCompletion}
use Rattle.trees.specs.Leaves.{Leaf, theta}
use Rattle.trees.specs.Leaves as leaves
use Rattle.trees.proofs.RootAnswers as tree
use Rattle.runs.specs.Traces.{Post, Trace, overload}
use Rattle.runs.specs.Demand.{consequent_of, post}
use Rattle.runs.specs.Runs.{at_least, at_most, within, conflict, conflict_of, bounds, propagation, propagation_of, propagate, earliest_order, completion_order}
use Rattle.runs.proofs.Demand.{AcceptedTasks, accepted_above, accepted_proper, by_earliest_is, by_completion_is}
use Rattle.runs.proofs.AtomRoom as room
use Rattle.runs.proofs.LevelSteps.{Measure, OutOk, run_ok}
use Rattle.runs.proofs.WalkStops as stops

-- An atom of a reason on one of the tasks J. None of these can end before `low` or start after `high`, and they last d in all. A task that starts at the value starts at most
-- d before `low`, and ends at most d after `high`.
pub record Shaped (o : ℕ) (J : Tasks natural) (low high d : ℕ) (a : Atom) : Type 0 where
  pub task : a.variable < J.count
  pub kind : a.kind < 2
  pub at : ℕ
  pub value : a.value ≡ instant o at
  pub from : low ≤ at + d
  pub to : at + J.duration a.variable ≤ high + d

pub record ShapedPost (o : ℕ) (J : Tasks natural) (low high d : ℕ) (p : Post) : Type 0 where
  pub says : Shaped o J low high d (consequent_of p)
  pub because : Every (Shaped o J low high d) p.reason
  pub few : length p.reason ≤ 2 * J.count

pub record ShapedEnd (o : ℕ) (J : Tasks natural) (low high d : ℕ) (reason : List Atom) : Type 0 where
  pub because : Every (Shaped o J low high d) reason
  pub few : length reason ≤ 2 * J.count

module _ (o : ℕ) (J : Tasks natural) (ok : Proper J) (low high d : ℕ) (early : (k : ℕ) → k < J.count → low ≤ J.earliest k + J.duration k) (late : (k : ℕ) → k < J.count → J.latest k ≤ high)
    (all : processing J (λ _. true) ≤ d) where
  abbrev n : ℕ
  n = J.count

  abbrev Fits : Atom → Type 0
  Fits = Shaped o J low high d

  -- a task's start, duration and completion
  record Task (k : ℕ) : Type 0 where
    small : k < n
    starts : low ≤ J.earliest k + J.duration k
    until : J.earliest k ≤ high
    lasts : 1 ≤ J.duration k
    short : J.duration k ≤ d
    ends : low ≤ completion J k
    by : completion J k ≤ high + d

  task : (k : ℕ) → k < n → Task k
  task k q = omega (arith, q, early k q, late k q, ok.ranges k q, ok.lasts k q, all, processing_less J (λ _. true) k (record { small = q; mem = refl }))

  abbrev TasksOnly : List ℕ → Type 0
  TasksOnly ks = (k : ℕ) → has ks k ≡ true → k < n

  head : (k : ℕ) (ks : List ℕ) → TasksOnly (k ∷ ks) → Task k
  head k ks h = task k (h k (has_here k ks))

  rest : (k : ℕ) (ks : List ℕ) → TasksOnly (k ∷ ks) → TasksOnly ks
  rest k ks h j q = h j (has_later k j ks q)

  -- the atoms of one task
  low_atom : (k v : ℕ) → Task k → low ≤ v + d → v ≤ high → Fits (at_least o J k v)
  low_atom k v t p q = record { task = t.small; kind = omega arith; at = v; value = refl; from = p; to = omega (arith, t.short) }

  high_atom : (k v : ℕ) → Task k → low ≤ v → v ≤ high + d → Fits (at_most o J k (v - J.duration k))
  high_atom k v t p q = record { task = t.small; kind = omega arith; at = v - J.duration k; value = refl; from = omega (arith, t.short); to = omega (arith, t.short) }

  within_fits : (u v : ℕ) → low ≤ u + d → u ≤ high → low ≤ v → v ≤ high + d → (ks : List ℕ) → TasksOnly ks → Every Fits (within o J u v ks)
  unfolding within
  within_fits u v a b c e [] h = tt
  within_fits u v a b c e (k ∷ ks) h = let t = head k ks h in (low_atom k u t a b, (high_atom k v t c e, within_fits u v a b c e ks (rest k ks h)))

  -- The overflow is shared out between e and c: the one falls to c + 1 − p at the lowest, the other rises to e + p − 1 at the highest.
  conflict_of_fits : (c p e : ℕ) → low ≤ c → c ≤ high + d → p ≤ d → low ≤ e + d → e ≤ high → (ks : List ℕ) → TasksOnly ks → Every Fits (conflict_of o J c p e ks)
  conflict_of_fits c p e a b q u v =
      let delta = (e + p) - (c + 1) in
      within_fits (e - delta / 2) (c + (delta - delta / 2)) (omega arith) (omega arith) (omega arith) (omega arith)

  conflict_fits : (c p : ℕ) → low ≤ c → c ≤ high + d → p ≤ d → (ks : List ℕ) → TasksOnly ks → Every Fits (conflict o J c p ks)
  unfolding conflict
  conflict_fits c p a b q [] h = tt
  conflict_fits c p a b q (k ∷ []) h = let t = head k [] h in conflict_of_fits c p (J.earliest k) a b q (omega (arith, t.starts, t.short)) t.until (k ∷ []) h
  conflict_fits c p a b q (k ∷ j ∷ ks) h = let t = head k (j ∷ ks) h in
      elim (bool (ltb c (J.earliest k + p))) [
        | inl y ↦ rw (y, conflict) (conflict_of_fits c p (J.earliest k) a b q (omega (arith, t.starts, t.short)) t.until (k ∷ j ∷ ks) h)
        | inr y ↦ rw (y, conflict) (conflict_fits c (p - J.duration k) a b (omega arith) (j ∷ ks) (rest k (j ∷ ks) h))
      ]

  bounds_fits : (b r last p : ℕ) → low ≤ r + d → r ≤ high → low ≤ last → last ≤ high + d → (ks : List ℕ) → TasksOnly ks → Every Fits (bounds o J b r last p ks)
  unfolding bounds
  bounds_fits b r last p u v w x [] h = tt
  bounds_fits b r last p u v w x (k ∷ ks) h = let t = head k ks h in
      elim (bool (eqb b (J.earliest k + p))) [
        | inl y ↦ rw (y, bounds) (
            let z : b ≡ J.earliest k + p = eqb-true b (J.earliest k + p) y in
            within_fits (b - p) last (omega (arith, t.starts, t.short)) (omega (arith, t.until)) w x (k ∷ ks) h)
        | inr y ↦ rw (y, bounds) (low_atom k r t u v, (high_atom k last t w x, bounds_fits b r last (p - J.duration k) u v w x ks (rest k ks h)))
      ]

  -- i is none of the tasks that last p
  propagation_of_fits : (i b p r : ℕ) → Task i → p + J.duration i ≤ d → low ≤ r + d → r ≤ high → low < r + p + J.duration i → (ks : List ℕ) → TasksOnly ks
      → Every Fits (propagation_of o J i b p r ks)
  propagation_of_fits i b p r t q u v w ks h =
      let last = r + p + J.duration i - 1 in
      every_append Fits (bounds o J b r last p ks) (at_least o J i r ∷ []) (bounds_fits b r last p u v (omega arith) (omega arith) ks h) (low_atom i r t u v, tt)

  propagation_fits : (i b c p : ℕ) → Task i → low ≤ c → p + J.duration i ≤ d → (ks : List ℕ) → TasksOnly ks → Every Fits (propagation o J i b c p ks)
  unfolding propagation
  propagation_fits i b c p t a q [] h = tt
  propagation_fits i b c p t a q (k ∷ ks) h = let u = head k ks h in
      let r = min (J.earliest i) (J.earliest k) in
      elim (bool (ltb c (min (J.earliest i) (J.earliest k) + p + J.duration i))) [
        | inl y ↦ rw (y, propagation)
            (propagation_of_fits i b p r t q (omega (arith, t.starts, t.short, u.starts, u.short)) (omega (arith, t.until)) (omega (arith, ltb-true c (r + p + J.duration i) y)) (k ∷ ks) h)
        | inr y ↦ rw (y, propagation) (propagation_fits i b c (p - J.duration k) t a (omega arith) ks (rest k ks h))
      ]

  -- every post and every overload of a run
  module _ (est_order lct_order : List ℕ) (rk : ByEarliest J (λ j. get_or est_order j 0) (λ k. index est_order k)) (ord : ByCompletion J (λ t. get_or lct_order t 0) (λ k. index lct_order k)) where
    module _ (t : ℕ) (ls : List Leaf) (Λ : TaskSet) (s : tree.Represents J ok est_order rk ls (λ k. leb t (index lct_order k)) Λ) (small : t < n) where
      abbrev Θ : TaskSet
      Θ k = leb t (index lct_order k)

      listed : TasksOnly (theta J est_order ls)
      listed k h = (tree.theta_only J ok est_order rk ls Θ Λ s k h).small

      sum_is : leaves.sum J est_order ls ≡ processing J Θ
      sum_is = tree.sum_of J ok est_order rk ls Θ Λ s

      sum_most : leaves.sum J est_order ls ≤ d
      sum_most = omega (arith, all, sum_is, processing_mono J Θ (λ _. true) (λ k h. refl))

      -- a task outside Θ leaves that much less for Θ
      sum_with : (i : ℕ) → i < n → Θ i ≡ false → leaves.sum J est_order ls + J.duration i ≤ d
      sum_with i q z = omega (arith, all, sum_is, processing_with J Θ i (record { small = q; mem = z }), processing_mono J (Θ with i) (λ _. true) (λ k h. refl))

      last : Task (get_or lct_order t 0)
      last = task (get_or lct_order t 0) (ord.task t small)

      ect_most : (b : ℕ) → leaves.ect J est_order ls ≡ some b → b ≤ high + leaves.sum J est_order ls
      ect_most b is =
          let e = (stops.ect_is o J ok est_order lct_order rk ord t ls Λ s small b is).holds in
          let (k, m, z) = e.est.holds in
          omega (arith, z, e.sum, sum_is, (task k m.small).until, processing_mono J e.part Θ e.within)

    pub shaped : Measure o J ok est_order lct_order rk ord (ShapedPost o J low high d) (ShapedEnd o J low high d)
    shaped = record {
      of_post = λ t ls Λ s x b small f late over is up edge.
          let i = task (get_or est_order x 0) f.gray.small in
          let m : leaves.sum J est_order ls + J.duration (get_or est_order x 0) ≤ d = sum_with t ls Λ s small (get_or est_order x 0) f.gray.small f.out in
          record {
            says = record { task = i.small; kind = omega arith; at = b; value = refl; from = omega (arith, i.starts, i.short, up); to = omega (arith, m, ect_most t ls Λ s small b is) };
            because = propagation_fits (get_or est_order x 0) b (completion J (get_or lct_order t 0)) (leaves.sum J est_order ls) i (last t ls Λ s small).ends m (theta J est_order ls)
                (listed t ls Λ s small);
            few = omega (arith, (room.short o J ok est_order lct_order rk ord).of_post t ls Λ s x b small f late over is up edge);
          };
      of_end = λ t ls Λ s small over wrong. record {
        because = conflict_fits (completion J (get_or lct_order t 0)) (leaves.sum J est_order ls) (last t ls Λ s small).ends (last t ls Λ s small).by (sum_most t ls Λ s small) (theta J est_order ls)
            (listed t ls Λ s small);
        few = (room.short o J ok est_order lct_order rk ord).of_end t ls Λ s small over wrong;
      };
    }

-- Of an accepted run whose tasks cannot end before −near nor start after near, wherever they start: their durations sum to at most DURATIONS.
module _ (limit near : ℕ) (fits : limit ≤ MIRRORED) (close : near ≤ MIRRORED) (ds : List ℕ) (es ls : List ℤ) (a : AcceptedTasks limit ds es ls)
    (ends : (k : ℕ) → k < length ds → Above near (get_or es k (pos 0) +ℤ pos (get_or ds k 0))) (starts : (k : ℕ) → k < length ds → get_or ls k (pos 0) ≤ℤ pos near) where
  abbrev tr : Trace
  tr = propagate ds es ls

  abbrev J : Tasks natural
  J = moments zero_at (tasks_of ds es ls)

  abbrev least : ℕ
  least = zero_at - near

  abbrev greatest : ℕ
  greatest = zero_at + near

  proper : Proper J
  proper = accepted_proper limit fits ds es ls a

  from : (k : ℕ) → k < length ds → least ≤ moment zero_at (get_or es k (pos 0)) + get_or ds k 0
  unfolding up dn
  from k q = omega (
    ints,
    at_moment near (get_or es k (pos 0) +ℤ pos (get_or ds k 0)) (ends k q),
    sumℤ (get_or es k (pos 0)) (pos (get_or ds k 0)),
    at_moment zero_at (get_or es k (pos 0)) (accepted_above limit fits ds es ls a k q),
  )

  to : (k : ℕ) → k < length ds → moment zero_at (get_or ls k (pos 0)) ≤ greatest
  to k q = mono zero_at (get_or ls k (pos 0)) (pos near) (starts k q)

  short : processing J (λ _. true) ≤ DURATIONS
  short = omega (arith, processing_all J, a.sum)

  abbrev Post' : Post → Type 0
  Post' = ShapedPost zero_at J least greatest DURATIONS

  abbrev End' : List Atom → Type 0
  End' = ShapedEnd zero_at J least greatest DURATIONS

  out : OutOk zero_at J proper (earliest_order J) (completion_order J) (by_earliest_is J) (by_completion_is J) Post' End'
      (shaped zero_at J proper least greatest DURATIONS from to short (earliest_order J) (completion_order J) (by_earliest_is J) (by_completion_is J)) tr
  unfolding propagate
  out = run_ok zero_at J proper (earliest_order J) (completion_order J) (by_earliest_is J) (by_completion_is J) Post' End'
      (shaped zero_at J proper least greatest DURATIONS from to short (earliest_order J) (completion_order J) (by_earliest_is J) (by_completion_is J)) a.some

  pub post_shaped : (j : ℕ) → j < length tr.posts → ShapedPost zero_at (moments zero_at (tasks_of ds es ls)) (zero_at - near) (zero_at + near) DURATIONS (post tr j)
  post_shaped = out.goods

  pub overload_shaped : (reason : List Atom) → tr.end ≡ overload reason → ShapedEnd zero_at (moments zero_at (tasks_of ds es ls)) (zero_at - near) (zero_at + near) DURATIONS reason
  overload_shaped = out.over
