-- A run is right: what its trace leaves is what demand 3 says, for every accepted input.
use mathlib.Core.Path.{◌≡◌, refl, sym}
use mathlib.Core.Bool.{true}
use mathlib.Core.Logic.{◌⊎◌, inl, inr, ◌↔◌}
use mathlib.Core.List.{List}
use Prim.Native.Nat.{ℕ, suc, ◌≤◌, ◌<◌}
use native.Mathlib.Decide.{dec_le, dec_lt}
use native.Mathlib.Omega.{arith}
use lib.IntN.{ℤ, pos}
use lib.Signed.{◌≤ℤ◌, ◌<ℤ◌, clash_ℤ}
use lib.ListN.{length, get_or}
use borrow.Author.Tests.{leb-true}
use Rattle.integers.specs.Limits.{TASKS, DURATIONS, MIRRORED}
use Rattle.integers.specs.Moments.{moment, Above, zero_at}
use Rattle.integers.specs.Orders.{index, numbers, Ordered}
use Rattle.integers.proofs.Ints.{ints}
use Rattle.integers.proofs.MomentSums.{same, reflect, reflect<, above_up, more_above, at_moment}
use Rattle.integers.proofs.Permutations.{numbers_permute}
use Rattle.integers.proofs.StableSort.{sort_ordered, key_whole, key_chain}
use Rattle.scheduling.specs.Scheduling.{whole, natural, Tasks, tasks_of, Proper, total, processing, completion, Done, Conflict}
use Rattle.scheduling.proofs.Processing.{processing_all}
use Rattle.scheduling.proofs.Ects as ects
use Rattle.scheduling.proofs.Clocks.{sound, done←, conflict←}
use Rattle.scheduling.specs.Moments.{moments, ByEarliest, ByCompletion}
use Rattle.scheduling.proofs.Schedules.{conflict_sound}
use Rattle.runs.specs.Traces.{End, done, overload, emptied, Trace}
use Rattle.runs.specs.Runs.{run, propagate, by_completion, earliest_order, completion_order}
use Rattle.runs.specs.Demand.{Right, PostRight, OverloadRight, post}
use Rattle.runs.proofs.LevelSteps.{OutOk, run_ok}
use Rattle.runs.proofs.RightReasons.{all_right}

-- What no number refuses: from 1 to TASKS tasks, durations of 1 or more that sum to at most DURATIONS, starts within ±limit, each earliest at most its latest.
-- The caller's limit is START; mirrored, such starts are within MIRRORED.
pub record AcceptedTasks (limit : ℕ) (ds : List ℕ) (es ls : List ℤ) : Type 0 where
  pub some : 1 ≤ length ds
  pub few : length ds ≤ TASKS
  pub lasts : (k : ℕ) → k < length ds → 1 ≤ get_or ds k 0
  pub sum : total (λ k. get_or ds k 0) (length ds) ≤ DURATIONS
  pub from : (k : ℕ) → k < length ds → Above limit (get_or es k (pos 0))
  pub to : (k : ℕ) → k < length ds → get_or ls k (pos 0) ≤ℤ pos limit
  pub ranges : (k : ℕ) → k < length ds → get_or es k (pos 0) ≤ℤ get_or ls k (pos 0)

pub is_done : (e : End) → (e ≡ done) ⊎ (e ≡ done → ⊥)
is_done done = inl refl
is_done (overload r) = inr (λ z. let y : ◌≡◌ {A = ℕ} 0 1 = cc in omega arith)
is_done emptied = inr (λ z. let y : ◌≡◌ {A = ℕ} 0 1 = cc in omega arith)

is_emptied : (e : End) → (e ≡ emptied) ⊎ (e ≡ emptied → ⊥)
is_emptied done = inr (λ z. let y : ◌≡◌ {A = ℕ} 0 1 = cc in omega arith)
is_emptied (overload r) = inr (λ z. let y : ◌≡◌ {A = ℕ} 0 1 = cc in omega arith)
is_emptied emptied = inl refl

-- of any clock's zero that is deep enough
module _ (o : ℕ) (Z : Tasks whole) (okz : Proper Z) (deepz : (k : ℕ) → k < Z.count → Above o (Z.earliest k)) (one : 1 ≤ Z.count)
    (room : (k : ℕ) → k < Z.count → processing (moments o Z) (λ _. true) ≤ moment o (Z.earliest k)) (est_order lct_order : List ℕ)
    (rk : ByEarliest (moments o Z) (λ j. get_or est_order j 0) (λ k. index est_order k)) (ord : ByCompletion (moments o Z) (λ t. get_or lct_order t 0) (λ k. index lct_order k)) where
  abbrev tr : Trace
  tr = run o (moments o Z) est_order lct_order

  out : OutOk o (moments o Z) (sound o Z okz deepz) est_order lct_order rk ord (PostRight Z) (OverloadRight Z) (all_right o Z okz deepz est_order lct_order rk ord room) tr
  out = run_ok o (moments o Z) (sound o Z okz deepz) est_order lct_order rk ord (PostRight Z) (OverloadRight Z) (all_right o Z okz deepz est_order lct_order rk ord room) one

  bound_above : (j : ℕ) → j < length tr.posts → Above o (post tr j).bound
  bound_above j q = let p : PostRight Z (post tr j) = out.goods j q in
      above_up o (Z.earliest (post tr j).task) (post tr j).bound (omega (ints, p.raises)) (deepz (post tr j).task p.small)

  finished : tr.end ≡ done → Done Z (λ k. get_or tr.starts k (pos 0)) (length tr.posts) (λ j. (post tr j).task) (λ j. (post tr j).bound)
  finished z = done← o Z okz deepz (λ k. get_or tr.starts k (pos 0)) (length tr.posts) (λ j. (post tr j).task) (λ j. (post tr j).bound) (λ k q. out.above k) bound_above (out.when_done z)

  not_wrong : tr.end ≡ done → Conflict Z → ⊥
  not_wrong z (inl (Ω, v)) = (finished z).no_overload Ω v
  not_wrong z (inr (i, b, r, q)) = clash_ℤ q ((finished z).no_passing i b r)

  wrong : (tr.end ≡ done → ⊥) → Conflict Z
  wrong h = conflict← o Z okz deepz (out.otherwise h)

  -- the starts, whatever the outcome
  abbrev many : ℕ
  many = out.left.many

  first_many : (j : ℕ) → j < length tr.posts → (many ≤ j → ⊥) → get_or tr.starts (post tr j).task (pos 0) ≡ (post tr j).bound
  first_many j q n = same o (get_or tr.starts (post tr j).task (pos 0)) (post tr j).bound (out.above (post tr j).task) (bound_above j q) (sym (out.left.stand.stand.agrees j (omega arith)))

  latest_above : (k : ℕ) → k < Z.count → Above o (Z.latest k)
  latest_above k q = above_up o (Z.earliest k) (Z.latest k) (okz.ranges k q) (deepz k q)

  in_range : (j : ℕ) → j < length tr.posts → j < many → (post tr j).bound ≤ℤ Z.latest (post tr j).task
  in_range j q r =
      let small = out.left.stand.stand.small j r in
      reflect o (post tr j).bound (Z.latest (post tr j).task) (bound_above j q) (latest_above (post tr j).task small)
      (omega (arith, out.left.stand.stand.agrees j r, out.left.stand.to (post tr j).task small))

  past : (j : ℕ) → j < length tr.posts → many ≤ j → Z.latest (post tr j).task <ℤ (post tr j).bound
  past j q r = reflect< o (Z.latest (post tr j).task) (post tr j).bound (latest_above (post tr j).task (out.goods j q).small) (bound_above j q) (out.left.stand.above j r q)

  above : (j : ℕ) → j < length tr.posts → Z.latest (post tr j).task <ℤ (post tr j).bound ↔ ((tr.end ≡ emptied) × (suc j ≡ length tr.posts))
  above j q = (
    λ h. elim (dec_le many j) [
      | yes y ↦ elim (is_emptied tr.end) [ inl e ↦ (e, omega (arith, out.left.but_last e)) | inr n ↦ absurd (omega (arith, out.left.all n)) ]
      | no y ↦ absurd (clash_ℤ h (in_range j q (omega arith)))
    ],
    λ (e, z). past j q (omega (arith, out.left.but_last e)),
  )

  stands : (j : ℕ) → j < length tr.posts → (post tr j).bound ≤ℤ Z.latest (post tr j).task → get_or tr.starts (post tr j).task (pos 0) ≡ (post tr j).bound
  stands j q h = first_many j q (λ r. clash_ℤ (past j q r) h)

  stays : (k : ℕ) → k < Z.count → ((j : ℕ) → j < length tr.posts → (post tr j).bound ≤ℤ Z.latest (post tr j).task → (post tr j).task ≡ k → ⊥) → get_or tr.starts k (pos 0) ≡ Z.earliest k
  stays k q no_post = same o (get_or tr.starts k (pos 0)) (Z.earliest k) (out.above k) (deepz k q) (elim (dec_lt (moment o (Z.earliest k)) (moment o (get_or tr.starts k (pos 0)))) [
    | yes y ↦ (let (j, r, e) = out.left.stand.stand.every k q y in let s : j < length tr.posts = omega (arith, few) in absurd (no_post j s (in_range j s r) e))
    | no y ↦ omega (arith, out.left.stand.from k q)
  ])
    where
      few : many ≤ length tr.posts
      few = elim (is_emptied tr.end) [ inl e ↦ omega (arith, out.left.but_last e) | inr n ↦ omega (arith, out.left.all n) ]

  not_wrong_done : (Conflict Z → ⊥) → tr.end ≡ done
  not_wrong_done n = elim (is_done tr.end) [ inl z ↦ z | inr z ↦ absurd (n (wrong z)) ]

  some_post : tr.end ≡ emptied → 1 ≤ length tr.posts
  some_post e = omega (arith, out.left.but_last e)

  pub run_right : Right Z tr
  run_right = search (not_wrong, not_wrong_done, finished, wrong, conflict_sound Z okz, out.goods, out.over, some_post, above, stands, stays)

-- the two orders of a run
pub by_earliest_is : (J : Tasks natural) → ByEarliest J (λ j. get_or (earliest_order J) j 0) (λ k. index (earliest_order J) k)
by_earliest_is J = ects.by_earliest_is J

pub by_completion_is : (J : Tasks natural) → ByCompletion J (λ j. get_or (completion_order J) j 0) (λ k. index (completion_order J) k)
by_completion_is J =
    let r : Ordered J.count (λ j. get_or (completion_order J) j 0) (λ k. index (completion_order J) k) (λ j k. by_completion J j k ≡ true)
    = sort_ordered (by_completion J) (λ a b. key_whole (completion J) b a) (λ a b c h k. key_chain (completion J) c b a k h) J.count (numbers 0 J.count) (numbers_permute J.count) in
    record { task = r.task; placed = r.placed; there = r.there; back = r.back; sorted = λ s t q h. leb-true _ _ (r.sorted s t q h) }

-- accepted tasks are proper, and start after the least moment
module _ (limit : ℕ) (near : limit ≤ MIRRORED) (ds : List ℕ) (es ls : List ℤ) (a : AcceptedTasks limit ds es ls) where
  pub accepted_above : (k : ℕ) → k < length ds → Above zero_at (get_or es k (pos 0))
  accepted_above k q = more_above limit zero_at (omega arith) (get_or es k (pos 0)) (a.from k q)

  okz : Proper (tasks_of ds es ls)
  okz = record { ranges = a.ranges; lasts = a.lasts }

  pub accepted_proper : Proper (moments zero_at (tasks_of ds es ls))
  accepted_proper = sound zero_at (tasks_of ds es ls) okz accepted_above

-- within a limit that leaves room before the least moment for all durations
pub demand_3 : (limit : ℕ) → limit ≤ MIRRORED → (ds : List ℕ) (es ls : List ℤ) → AcceptedTasks limit ds es ls → Right (tasks_of ds es ls) (propagate ds es ls)
unfolding propagate
demand_3 limit near ds es ls a =
    let J : Tasks natural = moments zero_at (tasks_of ds es ls) in
    let deep = accepted_above limit near ds es ls a in
    run_right zero_at (tasks_of ds es ls) (okz limit near ds es ls a) deep a.some
    (λ k q. omega (arith, processing_all J, a.sum, at_moment limit (get_or es k (pos 0)) (a.from k q), at_moment zero_at (get_or es k (pos 0)) (deep k q)))
    (earliest_order J) (completion_order J) (by_earliest_is J) (by_completion_is J)
