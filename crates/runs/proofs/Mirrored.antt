-- The mirrored pass is right: a run on mirrored tasks, mirrored back, is what the mirrored rule gives, and its words are the run's, mirrored in place.
use mathlib.Core.Path.{◌≡◌, refl, sym, ap, ap₂, subst, fun_ext, ◌∙◌}
use mathlib.Core.Bool.{true}
use mathlib.Core.List.{List, [], ◌∷◌, ◌++◌, map, map-append}
use mathlib.Core.Logic.{◌↔◌}
use Prim.Native.Nat.{ℕ, zero, suc, ◌+◌, ◌-◌, ◌*◌, ◌≤◌, ◌<◌}
use native.Mathlib.Omega.{arith}
use lib.IntN.{ℤ, pos, ◌+ℤ◌}
use lib.ListN.{length, get_or, set, drop, length-map, get_or-append}
use lib.Signed.{◌≤ℤ◌, ◌<ℤ◌}
use mir.Syntax.{w32}
use mir.Val.{SFits}
use Rattle.integers.specs.Limits.{START, DURATIONS, MIRRORED}
use Rattle.integers.specs.Moments.{Above, instant, zero_at}
use Rattle.integers.proofs.FilledLists.{filled_none, filled_more, filled_length, filled_past, filled_all}
use Rattle.integers.proofs.Lists.{get_d_map_in}
use Rattle.integers.proofs.Ints.{up, dn, ints, sumℤ, sub_law, fits_show}
use Rattle.integers.proofs.MomentSums.{above_show, at_moment}
use Rattle.scheduling.specs.Scheduling.{whole, natural, Tasks, tasks_of, Proper, Atom, Every, PassesWith, PassesAlone}
use Rattle.scheduling.specs.Words.{atom_words, no_atom}
use Rattle.scheduling.specs.MirroredTime.{start_mirrored, mirror, mirror_kind, mirror_atom, mirror_atoms, MirroredDone}
use Rattle.scheduling.proofs.MirroredTime.{at_mirror, start_twice, start_falls, atom_twice, atoms_twice, edge_mirrored, conflict_mirrored, schedule_mirrored, done_mirrored}
use Rattle.scheduling.proofs.MirroredTime.{holds_mirrored}
use Rattle.scheduling.proofs.Every.{every_append, every_map}
use Rattle.scheduling.proofs.Processing.{processing_all, processing_less}
use Rattle.scheduling.specs.Moments.{moments}
use Rattle.scheduling.proofs.Words.{Three, three_words, atoms_length, atom_set}
use Rattle.runs.specs.Traces.{Post, End, done, overload, emptied, Trace}
use Rattle.runs.specs.Runs.{earliest_order, completion_order}
use Rattle.runs.specs.Demand.{Right, PostRight, OverloadRight, consequent_of, no_post, post}
use Rattle.runs.specs.Words.{post_words, reasons, end_reason, atoms_in, posts_after, atoms_after}
use Rattle.runs.specs.MirroredWords.{Near, posts_to, atoms_to}
use Rattle.runs.specs.Mirrored.{starts_mirrored, duration_in, mirror_post, mirror_end, mirror_trace, mirrored_run, mirrored_pass, MirroredPostRight, MirroredOverloadRight, MirroredRight}
use Rattle.runs.proofs.WrittenSlices.{posts_length}
use Rattle.runs.proofs.Demand.{AcceptedTasks, accepted_proper, by_earliest_is, by_completion_is, demand_3}
use Rattle.runs.proofs.WordRoom.{posts_fit, atoms_fit}
use Rattle.runs.proofs.InnerLoop.{propagate_is}
use Rattle.runs.proofs.PostReaders.{four_words}
use Rattle.runs.proofs.AtomShapes.{Shaped, post_shaped, overload_shaped}
use Rattle.runs.proofs.StartsLeft.{starts_length, starts_between}

-- Lists of starts --------------------------------------------------------------------------------------------------------------

-- a mirrored list, by its places: past its end both sides are 0
pub mirror_at : (ds : List ℕ) (zs : List ℤ) → length zs ≡ length ds → (k : ℕ) → get_or (starts_mirrored ds zs) k (pos 0) ≡ start_mirrored (get_or ds k 0) (get_or zs k (pos 0))
mirror_at [] [] e k = refl
mirror_at [] (z ∷ zs) e k = absurd (omega arith)
mirror_at (d ∷ ds) [] e k = absurd (omega arith)
mirror_at (d ∷ ds) (z ∷ zs) e zero = refl
mirror_at (d ∷ ds) (z ∷ zs) e (suc k) = mirror_at ds zs (omega arith) k

pub mirror_length : (ds : List ℕ) (zs : List ℤ) → length zs ≡ length ds → length (starts_mirrored ds zs) ≡ length ds
mirror_length [] zs e = refl
mirror_length (d ∷ ds) [] e = e
mirror_length (d ∷ ds) (z ∷ zs) e = ap suc (mirror_length ds zs (omega arith))

-- the tasks of the mirrored lists are the mirrored tasks
pub mirror_tasks : (ds : List ℕ) (es ls : List ℤ) → length es ≡ length ds → length ls ≡ length ds → tasks_of ds (starts_mirrored ds ls) (starts_mirrored ds es) ≡ mirror (tasks_of ds es ls)
mirror_tasks ds es ls e l = λ i. record {
  count = length ds;
  earliest = λ k. mirror_at ds ls l k i;
  latest = λ k. mirror_at ds es e k i;
  duration = λ k. get_or ds k 0;
}

-- a start and one that is mirrored: mirroring the other in its place turns their order around
above : (p : ℕ) (z s : ℤ) → s ≤ℤ start_mirrored p z → z ≤ℤ start_mirrored p s
above p z s h = omega (ints, at_mirror p z, at_mirror p s)

below : (p : ℕ) (z s : ℤ) → start_mirrored p z ≤ℤ s → start_mirrored p s ≤ℤ z
below p z s h = omega (ints, at_mirror p z, at_mirror p s)

below< : (p : ℕ) (z s : ℤ) → start_mirrored p z <ℤ s → start_mirrored p s <ℤ z
below< p z s h = omega (ints, at_mirror p z, at_mirror p s)

-- Traces -----------------------------------------------------------------------------------------------------------------------

module _ (ds : List ℕ) where
  end_twice : (e : End) → mirror_end ds (mirror_end ds e) ≡ e
  end_twice done = refl
  end_twice (overload r) = ap overload (atoms_twice (duration_in ds) r)
  end_twice emptied = refl

  -- so it ends as the trace does
  pub end_done : (e : End) → mirror_end ds e ≡ done ↔ e ≡ done
  end_done e = (λ z. sym (end_twice e) ∙ ap (mirror_end ds) z, λ z. ap (mirror_end ds) z)

  end_emptied : (e : End) → mirror_end ds e ≡ emptied ↔ e ≡ emptied
  end_emptied e = (λ z. sym (end_twice e) ∙ ap (mirror_end ds) z, λ z. ap (mirror_end ds) z)

  pub end_overload : (e : End) (reason : List Atom) → mirror_end ds e ≡ overload reason → (r : List Atom) × (e ≡ overload r) × (mirror_atoms (duration_in ds) r ≡ reason)
  end_overload e reason z = (mirror_atoms (duration_in ds) reason, sym (end_twice e) ∙ ap (mirror_end ds) z, atoms_twice (duration_in ds) reason)

  module _ (t : Trace) where
    pub posts_same : length (mirror_trace ds t).posts ≡ length t.posts
    posts_same = length-map t.posts (mirror_post ds)

    pub post_at : (j : ℕ) → j < length t.posts → post (mirror_trace ds t) j ≡ mirror_post ds (post t j)
    post_at j q = get_d_map_in (mirror_post ds) t.posts j no_post no_post q

-- What is right in mirrored time is right in the caller's.
module _ (ds : List ℕ) (es ls : List ℤ) where
  abbrev J : Tasks whole
  J = tasks_of ds es ls

  right_post : (p : Post) → PostRight (mirror J) p → MirroredPostRight J (mirror_post ds p)
  right_post p r = record {
    small = r.small;
    lowers = omega (ints, at_mirror (J.duration p.task) p.bound, at_mirror (J.duration p.task) (J.latest p.task), r.raises);
    rule = (edge_mirrored J p.task p.bound).0 r.edge;
    holds = λ s h. above (J.duration p.task) (s p.task) p.bound (r.holds (λ k. start_mirrored (J.duration k) (s k)) (schedule_mirrored J s h));
    reason_holds = holds_mirrored J p.reason r.reason_holds;
    reason_passes = subst (λ (a : Atom). PassesWith (mirror J) (mirror_atoms J.duration (mirror_atoms J.duration p.reason)) a) (sym (atom_twice J.duration (consequent_of p)))
        (subst (λ (xs : List Atom). PassesWith (mirror J) xs (consequent_of p)) (sym (atoms_twice J.duration p.reason)) r.reason_passes);
  }

  right_overload : (reason : List Atom) → OverloadRight (mirror J) reason → MirroredOverloadRight J (mirror_atoms J.duration reason)
  right_overload reason r = record {
    reason_holds = holds_mirrored J reason r.reason_holds;
    reason_passes = subst (PassesAlone (mirror J)) (sym (atoms_twice J.duration reason)) r.reason_passes;
  }

  pub right_mirrored : (t : Trace) → length t.starts ≡ length ds → Right (mirror J) t → MirroredRight J (mirror_trace ds t)
  right_mirrored t long r = record {
    exactly = (
      λ z c. r.exactly.0 ((end_done ds t.end).0 z) ((conflict_mirrored J).1 c),
      λ n. (end_done ds t.end).1 (r.exactly.1 (λ c. n ((conflict_mirrored J).0 c))),
    );
    when_done = λ z. subst (λ (m : ℕ). MirroredDone J now m (λ j. (post (mirror_trace ds t) j).task) bound) (sym (posts_same ds t))
        (subst (λ (f : ℕ → ℕ). MirroredDone J now (length t.posts) f bound) (fun_ext tasks)
        (done_mirrored J (λ k. get_or t.starts k (pos 0)) now (length t.posts) (λ j. (post t j).task) (λ j. (post t j).bound) bound
        (λ k q. mirror_at ds t.starts long k) (λ j q. ap (λ (p : Post). p.bound) (post_at ds t j q)) (r.when_done ((end_done ds t.end).0 z))));
    otherwise = λ n s h. r.otherwise (λ z. n ((end_done ds t.end).1 z)) (λ k. start_mirrored (J.duration k) (s k)) (schedule_mirrored J s h);
    posts = λ j q. let p : j < length t.posts = omega (arith, posts_same ds t) in subst (MirroredPostRight J) (sym (post_at ds t j p)) (right_post (post t j) (r.posts j p));
    overloads = λ reason z. let (a, e, same) = end_overload ds t.end reason z in subst (MirroredOverloadRight J) same (right_overload a (r.overloads a e));
    some_post = λ e. omega (arith, posts_same ds t, r.some_post ((end_emptied ds t.end).0 e));
    -- the latest starts, whatever the outcome
    below = λ j m. let q : j < length t.posts = omega (arith, posts_same ds t) in
        subst (λ (x : Post). x.bound <ℤ J.earliest x.task ↔ ((mirror_end ds t.end ≡ emptied) × (suc j ≡ length (mirror_trace ds t).posts))) (sym (post_at ds t j q)) (
          λ h. (let (e, z) = (r.above j q).0 (below< _ (post t j).bound (J.earliest (post t j).task) h) in ((end_emptied ds t.end).1 e, z ∙ sym (posts_same ds t))),
          λ (e, z). below< _ (J.earliest (post t j).task) (post t j).bound ((r.above j q).1 ((end_emptied ds t.end).0 e, z ∙ posts_same ds t)),
        );
    stands = λ j m. let q : j < length t.posts = omega (arith, posts_same ds t) in
        subst (λ (x : Post). J.earliest x.task ≤ℤ x.bound → now x.task ≡ x.bound) (sym (post_at ds t j q))
        (λ h. mirror_at ds t.starts long _ ∙ ap (start_mirrored _) (r.stands j q (above _ (post t j).bound (J.earliest (post t j).task) h)));
    stays = λ k q none. mirror_at ds t.starts long k ∙ ap (start_mirrored (J.duration k)) (r.stays k q (λ j m h.
        subst (λ (x : Post). J.earliest x.task ≤ℤ x.bound → x.task ≡ k → ⊥) (post_at ds t j m) (none j (omega (arith, posts_same ds t)))
        (above _ (J.earliest (post t j).task) (post t j).bound h))) ∙ start_twice (J.duration k) (J.latest k);
  }
    where
      now : ℕ → ℤ
      now k = get_or (starts_mirrored ds t.starts) k (pos 0)

      bound : ℕ → ℤ
      bound j = (post (mirror_trace ds t) j).bound

      -- past the last post both are task 0
      tasks : (j : ℕ) → (post t j).task ≡ (post (mirror_trace ds t) j).task
      tasks j = each t.posts j
        where
          each : (ps : List Post) (j : ℕ) → (get_or ps j no_post).task ≡ (get_or (map (mirror_post ds) ps) j no_post).task
          each [] j = refl
          each (p ∷ ps) zero = refl
          each (p ∷ ps) (suc j) = each ps j

-- The pass ---------------------------------------------------------------------------------------------------------------------

shaped_near : (ds : List ℕ) (es ls : List ℤ) (a : Atom) → Shaped zero_at (moments zero_at (tasks_of ds es ls)) (zero_at - START) (zero_at + START) DURATIONS a → Near ds a
unfolding up dn
shaped_near ds es ls a s = record {
  task = s.task;
  kind = s.kind;
  low = subst (Above MIRRORED) (sym s.value) (above_show MIRRORED (instant zero_at s.at) (omega (arith, sub_law s.at zero_at, s.from)));
  high = subst (λ (z : ℤ). (z +ℤ pos p) ≤ℤ pos MIRRORED) (sym s.value) (omega (ints, sumℤ (instant zero_at s.at) (pos p), sub_law s.at zero_at, s.to));
}
  where
    p : ℕ
    p = duration_in ds a.variable

all_reasons : (P : Atom → Type 0) (ps : List Post) → ((j : ℕ) → j < length ps → Every P (get_or ps j no_post).reason) → Every P (reasons ps)
unfolding reasons
all_reasons P [] h = tt
all_reasons P (p ∷ ps) h = every_append P p.reason (reasons ps) (h 0 (omega arith)) (all_reasons P ps (λ j q. h (suc j) (omega arith)))

pub near_at : (ds : List ℕ) (xs : List Atom) → Every (Near ds) xs → (m : ℕ) → m < length xs → Near ds (get_or xs m no_atom)
near_at ds [] h m q = absurd (omega arith)
near_at ds (a ∷ rest) h zero q = h.0
near_at ds (a ∷ rest) h (suc m) q = near_at ds rest h.1 m (omega arith)

-- Mirrored back, what is near is within ±MIRRORED, and so fits an i32.
pub near_mirrored : (ds : List ℕ) (a : Atom) → Near ds a → Above MIRRORED (start_mirrored (duration_in ds a.variable) a.value)
    × (start_mirrored (duration_in ds a.variable) a.value ≤ℤ pos MIRRORED)
unfolding up dn
near_mirrored ds a r = (
  above_show MIRRORED (start_mirrored p a.value) (omega (ints, at_mirror p a.value, sumℤ a.value (pos p), r.high)),
  omega (ints, at_mirror p a.value, at_moment MIRRORED a.value r.low),
)
  where
    p : ℕ
    p = duration_in ds a.variable

pub near_fits : (ds : List ℕ) (a : Atom) → Near ds a → SFits w32 (start_mirrored (duration_in ds a.variable) a.value)
unfolding up dn
near_fits ds a r =
    let (low, high) = near_mirrored ds a r in
    let z : ℤ = start_mirrored (duration_in ds a.variable) a.value in
    fits_show w32 z (omega (ints, at_moment MIRRORED z low, high)) (omega (ints, at_moment MIRRORED z low, high))

-- What the caller lends, mirrored, is accepted with the wider limit.
module _ (ds : List ℕ) (es ls : List ℤ) (a : AcceptedTasks START ds es ls) (long_es : length es ≡ length ds) (long_ls : length ls ≡ length ds) where
  -- what the run is called with
  abbrev early : List ℤ
  early = starts_mirrored ds ls

  abbrev late : List ℤ
  late = starts_mirrored ds es

  lasting : (k : ℕ) → k < length ds → get_or ds k 0 ≤ DURATIONS
  lasting k q = let N = moments zero_at (tasks_of ds es ls) in omega (arith, a.sum, processing_all N, processing_less N (λ _. true) k (record { small = q; mem = refl }))

  -- none ends before −START, nor starts after START
  ending : (k : ℕ) → k < length ds → Above START (get_or early k (pos 0) +ℤ pos (get_or ds k 0))
  unfolding up dn
  ending k q =
      let s : ℤ = start_mirrored (get_or ds k 0) (get_or ls k (pos 0)) in
      rw (mirror_at ds ls long_ls k) (omega (ints, at_mirror (get_or ds k 0) (get_or ls k (pos 0)), sumℤ s (pos (get_or ds k 0)), a.to k q))

  starting : (k : ℕ) → k < length ds → get_or late k (pos 0) ≤ℤ pos START
  unfolding up dn
  starting k q = rw (mirror_at ds es long_es k) (omega (ints, at_mirror (get_or ds k 0) (get_or es k (pos 0)), a.from k q))

  pub mirrored_accepted : AcceptedTasks MIRRORED ds (starts_mirrored ds ls) (starts_mirrored ds es)
  unfolding up dn
  mirrored_accepted = record {
    some = a.some;
    few = a.few;
    lasts = a.lasts;
    sum = a.sum;
    from = λ k q. rw (mirror_at ds ls long_ls k) (omega (ints, at_mirror (get_or ds k 0) (get_or ls k (pos 0)), lasting k q, a.to k q));
    to = λ k q. omega (ints, starting k q);
    ranges = λ k q. rw (mirror_at ds ls long_ls k, mirror_at ds es long_es k) (start_falls (get_or ds k 0) (get_or es k (pos 0)) (get_or ls k (pos 0)) (a.ranges k q));
  }

  pub mirrored_right : MirroredRight (tasks_of ds es ls) (mirrored_pass ds es ls)
  mirrored_right = right_mirrored ds es ls (mirrored_run ds es ls) (starts_length ds early late)
      (subst (λ (K : Tasks whole). Right K (mirrored_run ds es ls)) (mirror_tasks ds es ls long_es long_ls)
      (demand_3 MIRRORED (omega arith) ds early late mirrored_accepted))

  -- However the pass ends, each latest start that it leaves is in its task's range,
  pub latest_between : (k : ℕ) → k < length ds → (get_or es k (pos 0) ≤ℤ get_or (mirrored_pass ds es ls).starts k (pos 0)) × (get_or (mirrored_pass ds es ls).starts k (pos 0) ≤ℤ get_or ls k (pos 0))
  latest_between k q =
      let h = starts_between ds early late MIRRORED (omega arith) mirrored_accepted k q in
      let d : ℕ = get_or ds k 0 in
      let s : ℤ = get_or (mirrored_run ds es ls).starts k (pos 0) in
      subst (λ (z : ℤ). (get_or es k (pos 0) ≤ℤ z) × (z ≤ℤ get_or ls k (pos 0))) (sym (mirror_at ds (mirrored_run ds es ls).starts (starts_length ds early late) k)) (
        above d (get_or es k (pos 0)) s (subst (λ (z : ℤ). s ≤ℤ z) (mirror_at ds es long_es k) h.1),
        below d (get_or ls k (pos 0)) s (subst (λ (z : ℤ). z ≤ℤ s) (mirror_at ds ls long_ls k) h.0),
      )

  -- and the run's bounds and reasons are near, so that they can be mirrored in words.
  pub post_near : (j : ℕ) → j < length (mirrored_run ds es ls).posts → Near ds (consequent_of (post (mirrored_run ds es ls) j))
  post_near j q = shaped_near ds early late (consequent_of (post (mirrored_run ds es ls) j))
      (post_shaped MIRRORED START (omega arith) (omega arith) ds early late mirrored_accepted ending starting j q).says

  -- a post's reason and an overload's have at most two atoms to a task
  pub reason_near : (j : ℕ) → j < length (mirrored_run ds es ls).posts → Every (Near ds) (post (mirrored_run ds es ls) j).reason × (length (post (mirrored_run ds es ls) j).reason ≤ 2 * length ds)
  reason_near j q =
      let s = post_shaped MIRRORED START (omega arith) (omega arith) ds early late mirrored_accepted ending starting j q in
      (every_map (shaped_near ds early late) (post (mirrored_run ds es ls) j).reason s.because, s.few)

  pub overload_near : (reason : List Atom) → (mirrored_run ds es ls).end ≡ overload reason → Every (Near ds) reason × (length reason ≤ 2 * length ds)
  overload_near reason e =
      let s = overload_shaped MIRRORED START (omega arith) (omega arith) ds early late mirrored_accepted ending starting reason e in
      (every_map (shaped_near ds early late) reason s.because, s.few)

  pub atoms_near : Every (Near ds) (reasons (mirrored_run ds es ls).posts ++ end_reason (mirrored_run ds es ls).end)
  atoms_near = every_append (Near ds) (reasons (mirrored_run ds es ls).posts) (end_reason (mirrored_run ds es ls).end)
      (all_reasons (Near ds) (mirrored_run ds es ls).posts (λ j q. (reason_near j q).0))
      (ended (mirrored_run ds es ls).end refl)
    where
      ended : (e : End) → (mirrored_run ds es ls).end ≡ e → Every (Near ds) (end_reason e)
      ended done z = tt
      ended (overload r) z = (overload_near r z).0
      ended emptied z = tt

  -- They fit the lent slices as a run's do.
  abbrev N : Tasks natural
  N = moments zero_at (tasks_of ds early late)

  proper : Proper N
  proper = accepted_proper MIRRORED (omega arith) ds early late mirrored_accepted

  pub mirrored_posts_fit : length (post_words 0 (mirrored_run ds es ls).posts) ≤ 4 * length ds
  mirrored_posts_fit = subst (λ (t : Trace). length (post_words 0 t.posts) ≤ 4 * length ds) (sym (propagate_is ds early late))
      (posts_fit zero_at N proper (earliest_order N) (completion_order N) (by_earliest_is N) (by_completion_is N) a.some)

  pub mirrored_atoms_fit : length (atom_words (reasons (mirrored_run ds es ls).posts ++ end_reason (mirrored_run ds es ls).end)) ≤ 6 * (length ds * length ds)
  mirrored_atoms_fit = subst (λ (t : Trace). length (atom_words (reasons t.posts ++ end_reason t.end)) ≤ 6 * (length ds * length ds)) (sym (propagate_is ds early late))
      (atoms_fit zero_at N proper (earliest_order N) (completion_order N) (by_earliest_is N) (by_completion_is N) a.some)

-- Words ------------------------------------------------------------------------------------------------------------------------

-- another bound for a post: one store
post_set : (ps : List Post) (tail : List ℤ) (from j : ℕ) (p : Post) → j < length ps → p.task ≡ (get_or ps j no_post).task → length p.reason ≡ length (get_or ps j no_post).reason
    → set (post_words from ps ++ tail) (4 * j + 1) p.bound ≡ post_words from (set ps j p) ++ tail
unfolding post_words
post_set [] tail from j p h e r = absurd (omega arith)
post_set (q ∷ ps) tail from zero p h e r = ap₂ (λ (k m : ℕ). pos k ∷ p.bound ∷ pos from ∷ pos m ∷ (post_words (from + m) ps ++ tail)) (sym e) (sym r)
post_set (q ∷ ps) tail from (suc j) p h e r =
    let b : 4 * suc j + 1 ≡ suc (suc (suc (suc (4 * j + 1)))) = omega arith in
    rw b (ap (λ (l : List ℤ). pos q.task ∷ q.bound ∷ pos from ∷ pos (length q.reason) ∷ l) (post_set ps tail (from + length q.reason) j p (omega arith) e r))

module _ (ds : List ℕ) where
  -- how many words
  pub post_words_length : (ps : List Post) (from : ℕ) → length (post_words from (map (mirror_post ds) ps)) ≡ length (post_words from ps)
  post_words_length ps from = omega (arith, posts_length ps from, posts_length (map (mirror_post ds) ps) from, length-map ps (mirror_post ds))

  pub atom_words_length : (xs : List Atom) → length (atom_words (mirror_atoms (duration_in ds) xs)) ≡ length (atom_words xs)
  atom_words_length xs = omega (arith, atoms_length xs, atoms_length (mirror_atoms (duration_in ds) xs), length-map xs (mirror_atom (duration_in ds)))

  -- the atoms of a mirrored trace
  pub reasons_mirrored : (ps : List Post) → reasons (map (mirror_post ds) ps) ≡ mirror_atoms (duration_in ds) (reasons ps)
  unfolding reasons
  reasons_mirrored [] = refl
  reasons_mirrored (p ∷ ps) = ap (λ (l : List Atom). mirror_atoms (duration_in ds) p.reason ++ l) (reasons_mirrored ps) ∙ sym (map-append (mirror_atom (duration_in ds)) p.reason (reasons ps))

  end_mirrored : (e : End) → end_reason (mirror_end ds e) ≡ mirror_atoms (duration_in ds) (end_reason e)
  end_mirrored done = refl
  end_mirrored (overload r) = refl
  end_mirrored emptied = refl

  pub atoms_mirrored : (t : Trace) → atoms_in (mirror_trace ds t) ≡ mirror_atoms (duration_in ds) (atoms_in t)
  atoms_mirrored t = ap₂ (λ (a b : List Atom). a ++ b) (reasons_mirrored t.posts) (end_mirrored t.end) ∙ sym (map-append (mirror_atom (duration_in ds)) (reasons t.posts) (end_reason t.end))

  pub posts_begin : (ps : List Post) → posts_to ds 0 ps ≡ ps
  posts_begin ps = filled_none (λ k. mirror_post ds (get_or ps k no_post)) ps

  pub atoms_begin : (xs : List Atom) → atoms_to ds 0 xs ≡ xs
  atoms_begin xs = filled_none (λ k. mirror_atom (duration_in ds) (get_or xs k no_atom)) xs

  module _ (ps : List Post) (tail : List ℤ) (from i : ℕ) (q : i < length ps) where
    long : i < length (posts_to ds i ps)
    long = omega (arith, filled_length (λ k. mirror_post ds (get_or ps k no_post)) i ps)

    still : get_or (posts_to ds i ps) i no_post ≡ get_or ps i no_post
    still = filled_past (λ k. mirror_post ds (get_or ps k no_post)) i ps no_post i (omega arith)

    -- what a turn reads, and what it leaves
    pub post_task : get_or (post_words from (posts_to ds i ps) ++ tail) (4 * i) (pos 0) ≡ pos (get_or ps i no_post).task
    post_task = get_or-append (post_words from (posts_to ds i ps)) tail (pos 0) (4 * i) (omega (arith, posts_length (posts_to ds i ps) from, long)) ∙ (four_words (posts_to ds i ps) from i long).task
        ∙ ap (λ (p : Post). pos p.task) still

    pub post_bound : get_or (post_words from (posts_to ds i ps) ++ tail) (4 * i + 1) (pos 0) ≡ (get_or ps i no_post).bound
    post_bound = get_or-append (post_words from (posts_to ds i ps)) tail (pos 0) (4 * i + 1) (omega (arith, posts_length (posts_to ds i ps) from, long))
        ∙ (four_words (posts_to ds i ps) from i long).bound ∙ ap (λ (p : Post). p.bound) still

    pub posts_step : set (post_words from (posts_to ds i ps) ++ tail) (4 * i + 1) (start_mirrored (duration_in ds (get_or ps i no_post).task) (get_or ps i no_post).bound) ≡ post_words from
        (posts_to ds (i + 1) ps) ++ tail
    posts_step = post_set (posts_to ds i ps) tail from i (mirror_post ds (get_or ps i no_post)) long (ap (λ (p : Post). p.task) (sym still))
        (length-map (get_or ps i no_post).reason (mirror_atom (duration_in ds)) ∙ ap (λ (p : Post). length p.reason) (sym still))
        ∙ ap (λ (l : List Post). post_words from l ++ tail) (sym (filled_more (λ k. mirror_post ds (get_or ps k no_post)) i ps))

  module _ (xs : List Atom) (tail : List ℤ) (i : ℕ) (q : i < length xs) where
    long_atoms : i < length (atoms_to ds i xs)
    long_atoms = omega (arith, filled_length (λ k. mirror_atom (duration_in ds) (get_or xs k no_atom)) i xs)

    still_atom : get_or (atoms_to ds i xs) i no_atom ≡ get_or xs i no_atom
    still_atom = filled_past (λ k. mirror_atom (duration_in ds) (get_or xs k no_atom)) i xs no_atom i (omega arith)

    pub atom_read : Three (atom_words (atoms_to ds i xs) ++ tail) (3 * i) (get_or xs i no_atom)
    atom_read = subst (Three (atom_words (atoms_to ds i xs) ++ tail) (3 * i)) still_atom (three_words (atoms_to ds i xs) tail i no_atom long_atoms)

    pub atoms_step : set (set (atom_words (atoms_to ds i xs) ++ tail) (3 * i + 1) (pos (mirror_kind (get_or xs i no_atom).kind))) (3 * i + 2)
        (start_mirrored (duration_in ds (get_or xs i no_atom).variable) (get_or xs i no_atom).value)
        ≡ atom_words (atoms_to ds (i + 1) xs) ++ tail
    atoms_step = atom_set (atoms_to ds i xs) tail i (mirror_atom (duration_in ds) (get_or xs i no_atom)) no_atom long_atoms (ap (λ (a : Atom). a.variable) (sym still_atom))
        ∙ ap (λ (l : List Atom). atom_words l ++ tail) (sym (filled_more (λ k. mirror_atom (duration_in ds) (get_or xs k no_atom)) i xs))

  -- at the end the slices hold the mirrored trace's words, and after them what stood there
  pub posts_after_are : (entry : List ℤ) (t : Trace) → post_words 0 (posts_to ds (length t.posts) t.posts) ++ drop (length (post_words 0 t.posts)) entry ≡ posts_after entry (mirror_trace ds t)
  posts_after_are entry t = ap₂ (λ (l : List Post) (k : ℕ). post_words 0 l ++ drop k entry) (filled_all (mirror_post ds) no_post t.posts) (sym (post_words_length t.posts 0))

  pub atoms_after_are : (entry : List ℤ) (t : Trace) → atom_words (atoms_to ds (length (atoms_in t)) (atoms_in t)) ++ drop (length (atom_words (atoms_in t))) entry ≡ atoms_after entry (mirror_trace ds t)
  atoms_after_are entry t = ap₂ (λ (l : List Atom) (k : ℕ). atom_words l ++ drop k entry) (filled_all (mirror_atom (duration_in ds)) no_atom (atoms_in t)) (sym (atom_words_length (atoms_in t)))
      ∙ ap (λ (l : List Atom). atom_words l ++ drop (length (atom_words l)) entry) (sym (atoms_mirrored t))
