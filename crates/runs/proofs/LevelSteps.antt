-- What holds at each level of a run, and how each step keeps it. A property of posts and reasons is part of it where it holds of each that the run makes.
use mathlib.Core.Path.{◌≡◌, refl, sym, ap, subst, ◌∙◌}
use mathlib.Core.Bool.{true, false}
use mathlib.Core.Logic.{inl, inr}
use mathlib.Core.List.{List, [], ◌∷◌, ◌++◌, map}
use mathlib.Core.Option.{Option, some}
use Prim.Native.Nat.{ℕ, zero, suc, ◌+◌, ◌-◌, ◌*◌, ◌≤◌, ◌<◌}
use native.Mathlib.Omega.{arith}
use native.Mathlib.Decide.{dec_lt, ℕ_discrete}
use lib.Dec.{leb}
use lib.IntN.{pos, sub_ℕ}
use lib.ListN.{length, get_or, set, replicate, length-set, length-replicate, get_or-replicate, get_or-append}
use lib.Seq.{get_or-set_same, get_or-set_other, get_or-append_seam}
use borrow.Author.Tests.{ne_eqb, le-leb, lt-leb}
use Rattle.scheduling.specs.Scheduling.{natural, Tasks, Proper, TaskSet, ◌with◌, In, NonEmpty, completion, Ect, Overloads, EdgeFindingBound, Done, Conflict, Atom}
use Rattle.integers.proofs.Bools.{leb_step, bool, clash, below_suc}
use Rattle.integers.proofs.Lists.{get_d_map_in, length_snoc}
use Rattle.scheduling.proofs.Sets.{◌less◌, less_self, with_new}
use Rattle.scheduling.proofs.Scan.{scan, scan_is}
use Rattle.scheduling.proofs.Correspondence.{done_carried}
use Rattle.scheduling.proofs.Agreement.{same_sets}
use Rattle.scheduling.proofs.Levels.{Posts, Facts, next, leave, last_fits, edge, finish, overloaded, more}
use Rattle.scheduling.proofs.SetSizes.{card, card_zero, card_less, card_same, card_most, card_none, card_with}
use Rattle.integers.specs.Moments.{moment, Above, instant}
use Rattle.integers.proofs.MomentSums.{moment_instant, instant_above, zero_above}
use Rattle.scheduling.specs.Moments.{ByEarliest, ByCompletion}
use Rattle.integers.specs.Orders.{index}
use Rattle.runs.specs.Traces.{Post, End, done, overload, emptied, Trace}
use Rattle.trees.specs.Leaves.{Leaf, empty, white, gray, in_theta, in_lambda, white_at, gray_at, theta}
use Rattle.runs.specs.Runs.{State, Turn, on, stop, inner, outer, run, tabulate, conflict, propagation}
use Rattle.runs.specs.Runs as edges
use Rattle.trees.specs.Leaves as leaves
use Rattle.trees.specs.Ects.{exceeds}
use Rattle.trees.proofs.Ects.{one_moment, some_past, some_within}
use Rattle.trees.proofs.RootAnswers as tree
use Rattle.runs.specs.Demand.{no_post}
use Rattle.runs.proofs.InnerLoop.{inner_end, inner_by, outer_end, outer_by}
use Rattle.runs.proofs.TaskLists.{tab_length, tab_at}

pub map_above : (o : ℕ) (l : List ℕ) (k : ℕ) → Above o (get_or (map (λ (m : ℕ). sub_ℕ m o) l) k (pos 0))
map_above o [] k = zero_above o
map_above o (x ∷ xs) zero = instant_above o x
map_above o (x ∷ xs) (suc k) = map_above o xs k

-- posts look at the same starts, and at the tasks and bounds below m
posts_same : (J : Tasks natural) (now now' : ℕ → ℕ) (m : ℕ) (task bound task' bound' : ℕ → ℕ) → ((k : ℕ) → k < J.count → now' k ≡ now k)
    → ((j : ℕ) → j < m → task' j ≡ task j) → ((j : ℕ) → j < m → bound' j ≡ bound j) → Posts J now m task bound → Posts J now' m task' bound'
posts_same J now now' m task bound task' bound' ns ts bs p = record {
  small = λ j q. subst (λ (i : ℕ). i < J.count) (sym (ts j q)) (p.small j q);
  raises = λ j q. rw (ts j q, bs j q) (p.raises j q);
  agrees = λ j q. bs j q ∙ p.agrees j q ∙ sym (ns (task j) (p.small j q)) ∙ ap now' (sym (ts j q));
  every = λ k q h. (let (j, a, c) = p.every k q (rw (ns k q) at h) in (j, a, ts j a ∙ c));
  once = λ i j q r z. p.once i j q r (sym (ts i q) ∙ z ∙ ts j r);
}

-- Of the posts the first m stand in the starts, which are in their ranges, and no other start changed; each post after them is above its task's latest start.
pub record StandsAt (J : Tasks natural) (now : ℕ → ℕ) (m made : ℕ) (task bound : ℕ → ℕ) : Type 0 where
  pub stand : Posts J now m task bound
  pub from : (k : ℕ) → k < J.count → J.earliest k ≤ now k
  pub to : (k : ℕ) → k < J.count → now k ≤ J.latest k
  pub above : (j : ℕ) → m ≤ j → j < made → J.latest (task j) < bound j

-- the ends are apart
module _ {X : Type 0} where
  emptied_not_done : emptied ≡ done → X
  emptied_not_done z = let y : ◌≡◌ {A = ℕ} 0 1 = cc in absurd (omega arith)

  overload_not_done : {r : List Atom} → overload r ≡ done → X
  overload_not_done z = let y : ◌≡◌ {A = ℕ} 0 1 = cc in absurd (omega arith)

  emptied_not_overload : {r : List Atom} → emptied ≡ overload r → X
  emptied_not_overload z = let y : ◌≡◌ {A = ℕ} 0 1 = cc in absurd (omega arith)

  overload_not_emptied : {r : List Atom} → overload r ≡ emptied → X
  overload_not_emptied z = let y : ◌≡◌ {A = ℕ} 0 1 = cc in absurd (omega arith)

module _ (o : ℕ) (J : Tasks natural) (ok : Proper J) (est_order lct_order : List ℕ) (rk : ByEarliest J (λ j. get_or est_order j 0) (λ k. index est_order k))
    (ord : ByCompletion J (λ t. get_or lct_order t 0) (λ k. index lct_order k)) where
  abbrev pub T : ℕ → ℕ
  T j = get_or est_order j 0

  abbrev pub rank : ℕ → ℕ
  rank k = index est_order k

  abbrev pub L : ℕ → ℕ
  L t = get_or lct_order t 0

  abbrev pub place : ℕ → ℕ
  place k = index lct_order k

  abbrev pub n : ℕ
  n = J.count

  abbrev pub E : TaskSet → ℕ
  E Ω = scan J T rank Ω n

  pub E_is : (Ω : TaskSet) → NonEmpty J Ω → Ect J Ω (E Ω)
  E_is Ω = scan_is J T rank ok rk Ω

  abbrev pub Th : ℕ → TaskSet
  Th t k = leb t (place k)

  abbrev pub En : ℕ → ℕ
  En t = completion J (L t)

  abbrev pub Fa : ℕ → TaskSet → (ℕ → ℕ) → Type 0
  Fa = Facts J ok E E_is L place ord

  abbrev pub Shape : List Leaf → TaskSet → TaskSet → Type 0
  Shape = tree.Represents J ok est_order rk

  abbrev pub Found : (ls : List Leaf) (Ω Λ : TaskSet) → Shape ls Ω Λ → ℕ → Type 0
  Found = tree.Found J ok est_order rk

  abbrev pub ect_of : List Leaf → Option ℕ
  ect_of = leaves.ect J est_order

  abbrev pub bar_of : List Leaf → Option ℕ
  bar_of = leaves.ect_bar_of J est_order

  -- Θ has the level's task
  pub theta_some : (t : ℕ) → t < n → In J (Th t) (L t)
  theta_some t small = record { small = ord.task t small; mem = le-leb t (place (L t)) (omega (arith, ord.back t small)) }

  -- what a post and an overload's reason are to be
  pub record Measure (Good : Post → Type 0) (GoodEnd : List Atom → Type 0) : Type 0 where
    pub of_post : (t : ℕ) (ls : List Leaf) (Λ : TaskSet) (s : Shape ls (Th t) Λ) (x b : ℕ) → t < n → Found ls (Th t) Λ s x → place (T x) < t → exceeds (bar_of ls) (En t) ≡ true → ect_of ls ≡ some b
        → J.earliest (T x) < b → EdgeFindingBound J (T x) b
        → Good (record { task = T x; bound = sub_ℕ b o; reason = propagation o J (T x) b (En t) (leaves.sum J est_order ls) (theta J est_order ls) })
    pub of_end : (t : ℕ) (ls : List Leaf) (Λ : TaskSet) (s : Shape ls (Th t) Λ) → t < n → exceeds (ect_of ls) (En t) ≡ true → (Ω : TaskSet) × Overloads J Ω
        → GoodEnd (conflict o J (En t) (leaves.sum J est_order ls) (theta J est_order ls))

  module _ (Good : Post → Type 0) (GoodEnd : List Atom → Type 0) (meas : Measure Good GoodEnd) where
    abbrev pub lam : State → TaskSet
    lam st k = gray_at st.leaves (rank k)

    abbrev pub now : State → ℕ → ℕ
    now st k = get_or st.starts k 0

    abbrev pub task_of : List Post → ℕ → ℕ
    task_of ps j = (get_or ps j no_post).task

    abbrev pub bound_of : List Post → ℕ → ℕ
    bound_of ps j = moment o (get_or ps j no_post).bound

    abbrev pub AllGood : List Post → Type 0
    AllGood ps = (j : ℕ) → j < length ps → Good (get_or ps j no_post)

    -- what holds inside a level t
    pub record Inv (t : ℕ) (st : State) : Type 0 where
      pub size : length st.leaves ≡ n
      pub whites : (k : ℕ) → k < n → white_at st.leaves (rank k) ≡ Th t k
      pub known : length st.starts ≡ n
      pub facts : Fa t (lam st) (now st)
      pub posted : Posts J (now st) (length st.posts) (task_of st.posts) (bound_of st.posts)
      pub good : AllGood st.posts
      -- each level brings one task into Λ, which leaves it by at most one post
      pub few : length st.posts + card J (lam st) ≤ t
      -- and by three leaf changes, of which the last is still to come for those in Λ
      pub counted : st.changes + card J (lam st) ≡ n + 3 * t

    pub shape : (t : ℕ) (st : State) → Inv t st → Shape st.leaves (Th t) (lam st)
    shape t st v = record { size = v.size; whites = v.whites; grays = λ k q. refl }

    -- the tree's ect is that of Θ, past the level's lct or not
    module _ (t : ℕ) (st : State) (small : t < n) (v : Inv t st) where
      pub theta_ect : ect_of st.leaves ≡ some (E (Th t))
      theta_ect = tree.moment_some J ok est_order rk st.leaves (Th t) (lam st) (shape t st v) (L t) (theta_some t small)

      theta_past : exceeds (ect_of st.leaves) (En t) ≡ true → En t < E (Th t)
      theta_past = some_past (ect_of st.leaves) (E (Th t)) (En t) theta_ect

      pub theta_within : exceeds (ect_of st.leaves) (En t) ≡ false → E (Th t) ≤ En t
      theta_within = some_within (ect_of st.leaves) (E (Th t)) (En t) theta_ect

    -- one post more
    module _ (ps : List Post) (p : Post) where
      old : (j : ℕ) → j < length ps → get_or (ps ++ (p ∷ [])) j no_post ≡ get_or ps j no_post
      old j q = get_or-append ps (p ∷ []) no_post j q

      new : get_or (ps ++ (p ∷ [])) (length ps) no_post ≡ p
      new = get_or-append_seam ps p [] no_post

      all_good : AllGood ps → Good p → AllGood (ps ++ (p ∷ []))
      all_good g h j q = below_suc (λ j. Good (get_or (ps ++ (p ∷ [])) j no_post)) (length ps) (λ j r. subst Good (sym (old j r)) (g j r)) (subst Good (sym new) h) j (omega (arith, length_snoc ps p))

    -- no start is below the old one: a task's start is raised when it leaves Λ
    from_entry : (t : ℕ) (st : State) → Inv t st → (k : ℕ) → k < n → J.earliest k ≤ now st k
    from_entry t st v k q = elim (bool (lam st k)) [
      | inl z ↦ omega (arith, v.facts.same_in k (record { small = q; mem = z }))
      | inr z ↦ elim (dec_lt (place k) t) [ yes y ↦ omega (arith, (v.facts.left k (record { small = q; mem = z }) y).raised) | no y ↦ omega (arith, v.facts.same_on k q (omega arith)) ]
    ]

    -- the moments of the starts that a trace has for a state
    told : (t : ℕ) (st : State) → Inv t st → (k : ℕ) → k < n → moment o (get_or (map (instant o) st.starts) k (pos 0)) ≡ now st k
    told t st v k q = ap (moment o) (get_d_map_in (instant o) st.starts k 0 (pos 0) (omega (arith, v.known))) ∙ moment_instant o (now st k)

    -- the posts of a list that begins with those of a state, by these starts
    standing : (t : ℕ) (st : State) (ps : List Post) → Inv t st → ((j : ℕ) → j < length st.posts → get_or ps j no_post ≡ get_or st.posts j no_post)
        → ((j : ℕ) → length st.posts ≤ j → j < length ps → J.latest (task_of ps j) < bound_of ps j)
        → StandsAt J (λ k. moment o (get_or (map (instant o) st.starts) k (pos 0))) (length st.posts) (length ps) (task_of ps) (bound_of ps)
    standing t st ps v olds highs = record {
      stand = posts_same J (now st) (λ k. moment o (get_or (map (instant o) st.starts) k (pos 0))) (length st.posts) (task_of st.posts) (bound_of st.posts) (task_of ps) (bound_of ps)
          (told t st v) (λ j q. ap (λ (p : Post). p.task) (olds j q)) (λ j q. ap (λ (p : Post). moment o p.bound) (olds j q)) v.posted;
      from = λ k q. omega (arith, told t st v k q, from_entry t st v k q);
      to = λ k q. omega (arith, told t st v k q, v.facts.inside k q);
      above = highs;
    }

    -- what a trace leaves of the starts: a post that empties a range is the last one, and no other is above a latest start
    pub record StartsLeft (tr : Trace) : Type 0 where
      pub many : ℕ
      pub all : (tr.end ≡ emptied → ⊥) → many ≡ length tr.posts
      pub but_last : tr.end ≡ emptied → suc many ≡ length tr.posts
      pub stand : StandsAt J (λ k. moment o (get_or tr.starts k (pos 0))) many (length tr.posts) (task_of tr.posts) (bound_of tr.posts)

    all_stand : (t : ℕ) (st : State) (e : End) → (e ≡ emptied → ⊥) → Inv t st → StartsLeft (edges.ended o J est_order lct_order st e)
    all_stand t st e ne v = record { many = length st.posts; all = λ _. refl; but_last = λ z. absurd (ne z); stand = standing t st st.posts v (λ j q. refl) (λ j q r. absurd (omega arith)) }

    -- what holds at the end of a level t: no task of Λ passes
    pub record Closed (t : ℕ) (st : State) : Type 0 where
      pub inv : Inv t st
      pub none_passes : E (Th t) ≤ En t → (k : ℕ) → In J (lam st) k → E (Th t with k) ≤ En t

    -- a run that a post ends at level t
    pub record Emptied (t : ℕ) (st : State) : Type 0 where
      pub wrong : Conflict J
      pub goods : AllGood st.posts
      pub left : StartsLeft (edges.ended o J est_order lct_order st emptied)
      pub few : length st.posts ≤ t
      pub counted : st.changes ≤ n + 3 * t

    -- what the inner loop leaves: after enough turns no task of Λ passes
    abbrev pub TurnOk : Type 0 → ℕ → Turn → Type 0
    TurnOk enough t (on st) = Inv t st × (enough → Closed t st)
    TurnOk enough t (stop st) = Emptied t st

    sooner : {A B : Type 0} (t : ℕ) (u : Turn) → (A → B) → TurnOk B t u → TurnOk A t u
    sooner t (on st) f w = (w.0, λ a. w.1 (f a))
    sooner t (stop st) f w = w

    -- a task was found at leaf x
    module _ (t : ℕ) (st : State) (small : t < n) (v : Inv t st) (x : ℕ) (f : Found st.leaves (Th t) (lam st) (shape t st v) x) (over : exceeds (bar_of st.leaves) (En t) ≡ true) where
      abbrev pub i : ℕ
      i = T x

      at_x : rank i ≡ x
      at_x = rk.back x f.small

      mem : In J (lam st) i
      mem = f.gray

      pub late : place i < t
      late = v.facts.gray i mem

      hit : En t < E (Th t with i)
      hit = omega (
        arith,
        tree.past_found J ok est_order rk st.leaves (Th t) (lam st) (shape t st v) f (En t) over,
        (E_is (Th t with i) (i, record { small = mem.small; mem = with_new (Th t) i })).bounds f.value f.attains,
      )

      -- i leaves Λ
      left : Shape (set st.leaves (rank i) empty) (Th t) (lam st less i)
      left = tree.recoloured J ok est_order rk st.leaves (Th t) (lam st) (Th t) (lam st less i) (shape t st v) i mem.small empty
          (lt-leb t (place i) late) (less_self (lam st) i) (λ j ne. (refl, rw (ne_eqb j i ne)))

      one_less : card J (lam st) ≡ suc (card J (λ k. gray_at (set st.leaves (rank i) empty) (rank k)))
      one_less = omega (arith, card_less J (lam st) i mem, card_same J (λ k. gray_at (set st.leaves (rank i) empty) (rank k)) (lam st less i) left.grays)

      pass_ok : exceeds (ect_of st.leaves) (J.earliest i) ≡ false → Inv t (edges.dropped st x)
      pass_ok y = subst (λ (x : ℕ). Inv t (edges.dropped st x)) at_x (search (
        arith,
        left.whites,
        left,
        one_less,
        leave J ok E E_is L place ord t (lam st) _ (now st) (now st) i v.facts mem hit
            (omega (arith, some_within (ect_of st.leaves) (E (Th t)) (J.earliest i) (theta_ect t st small v) y, v.facts.same_in i mem)) (v.facts.inside i mem.small)
            (λ k ne. refl) left.grays,
      ))

      module _ (b : ℕ) (is : ect_of st.leaves ≡ some b) where
        b_is : b ≡ E (Th t)
        b_is = one_moment is (theta_ect t st small v)

        abbrev pub p : Post
        p = record { task = i; bound = sub_ℕ b o; reason = propagation o J i b (En t) (leaves.sum J est_order st.leaves) (theta J est_order st.leaves) }

        bound : EdgeFindingBound J i b
        bound = rw b_is (edge J ok E E_is L place ord t i mem.small late small hit)

        good_p : J.earliest i < b → Good p
        good_p up = meas.of_post t st.leaves (lam st) (shape t st v) x b small f late over is up bound

        raise_ok : J.earliest i < b → b ≤ J.latest i → Inv t (edges.dropped (edges.raised (edges.posted o J est_order lct_order st i b t) i b) x)
        raise_ok up fits = subst (λ (x : ℕ). Inv t (edges.dropped (edges.raised (edges.posted o J est_order lct_order st i b t) i b) x)) at_x (record {
          size = left.size;
          whites = left.whites;
          known = length-set st.starts i b ∙ v.known;
          good = all_good st.posts p v.good (good_p up);
          few = omega (arith, one_less, v.few, length_snoc st.posts p);
          counted = omega (arith, one_less, v.counted);
          posted = subst (λ (m : ℕ). Posts J now' m (task_of (st.posts ++ (p ∷ []))) (bound_of (st.posts ++ (p ∷ [])))) (sym (length_snoc st.posts p))
              (more J (now st) now' (length st.posts) (task_of st.posts) (bound_of st.posts) (task_of (st.posts ++ (p ∷ []))) (bound_of (st.posts ++ (p ∷ []))) i b
              mem.small v.posted (v.facts.same_in i mem) up same other (ap (λ (q : Post). q.task) (new st.posts p))
              (ap (λ (q : Post). moment o q.bound) (new st.posts p) ∙ moment_instant o b)
              (λ j r. ap (λ (q : Post). q.task) (old st.posts p j r)) (λ j r. ap (λ (q : Post). moment o q.bound) (old st.posts p j r)));
          facts = leave J ok E E_is L place ord t (lam st) _ (now st) now' i v.facts mem hit (omega (arith, same, b_is)) (omega (arith, same)) other left.grays;
        })
          where
            now' : ℕ → ℕ
            now' k = get_or (set st.starts i b) k 0

            same : get_or (set st.starts i b) i 0 ≡ b
            same = get_or-set_same st.starts i b 0 (omega (arith, v.known, mem.small))

            other : (k : ℕ) → (k ≡ i → ⊥) → get_or (set st.starts i b) k 0 ≡ get_or st.starts k 0
            other k ne = get_or-set_other st.starts i k b 0 ne

        stop_ok : J.earliest i < b → J.latest i < b → Emptied t (edges.posted o J est_order lct_order st i b t)
        stop_ok up high = record {
          wrong = inr (i, b, bound, high);
          goods = all_good st.posts p v.good (good_p up);
          left = record {
            many = length st.posts;
            all = λ ne. absurd (ne refl);
            but_last = λ _. sym (length_snoc st.posts p);
            stand = standing t st (st.posts ++ (p ∷ [])) v (old st.posts p) (λ j q r. let z : j ≡ length st.posts = omega (arith, length_snoc st.posts p) in
                subst (λ (j : ℕ). J.latest (task_of (st.posts ++ (p ∷ [])) j) < bound_of (st.posts ++ (p ∷ [])) j) (sym z)
                (subst (λ (q : Post). J.latest q.task < moment o q.bound) (sym (new st.posts p)) (omega (arith, moment_instant o b))));
          };
          few = omega (arith, one_less, v.few, length_snoc st.posts p);
          counted = omega (arith, v.counted);
        }

    pub inner_ok : (f t : ℕ) (st : State) → t < n → Inv t st → TurnOk (card J (lam st) ≤ f) t (inner o J est_order lct_order f t st)
    inner_ok zero t st small v = rw (inner_end o J est_order lct_order 0 t st) (v, λ few. record { inv = v; none_passes = λ q k h. absurd (card_zero J (lam st) few k h) })
    inner_ok (suc f) t st small v = inner_by o J est_order lct_order f t st (TurnOk (card J (lam st) ≤ suc f) t) (record {
      off = λ z. (v, λ _. record { inv = v; none_passes = λ q k h. tree.most J ok est_order rk st.leaves (Th t) (lam st) (shape t st v) k h (En t) z });
      absent = λ z w. (
        v,
        λ _. record {
          inv = v;
          none_passes = λ q. absurd (omega (
            arith,
            theta_past t st small v (ap (λ (u : Option ℕ). exceeds u (En t)) (sym (tree.none_found J ok est_order rk st.leaves (Th t) (lam st) (shape t st v) w)) ∙ z),
          ));
        },
      );
      passes = λ x z w y. let i = pass_ok t st small v x (found x w) z y in on_from _ i refl (inner_ok f t _ small i);
      empties = λ x b z w is up high. stop_ok t st small v x (found x w) z b is up high;
      raises = λ x b z w is up fits. let i = raise_ok t st small v x (found x w) z b is up fits in on_from _ i refl (inner_ok f t _ small i);
    })
      where
        found : (x : ℕ) → leaves.responsible J est_order st.leaves ≡ some x → Found st.leaves (Th t) (lam st) (shape t st v) x
        found = tree.one_found J ok est_order rk st.leaves (Th t) (lam st) (shape t st v)

        on_from : (st' : State) → Inv t st' → st'.changes ≡ st.changes + 1 → TurnOk (card J (lam st') ≤ f) t (inner o J est_order lct_order f t st')
            → TurnOk (card J (lam st) ≤ suc f) t (inner o J est_order lct_order f t st')
        on_from st' w e = sooner {A = card J (lam st) ≤ suc f} {B = card J (lam st') ≤ f} t (inner o J est_order lct_order f t st') (λ few. omega (arith, v.counted, w.counted))

    pub record OutOk (tr : Trace) : Type 0 where
      pub goods : AllGood tr.posts
      pub above : (k : ℕ) → Above o (get_or tr.starts k (pos 0))
      pub when_done : tr.end ≡ done → Done J (λ k. moment o (get_or tr.starts k (pos 0))) (length tr.posts) (task_of tr.posts) (bound_of tr.posts)
      pub otherwise : (tr.end ≡ done → ⊥) → Conflict J
      pub over : (r : List Atom) → tr.end ≡ overload r → GoodEnd r
      pub left : StartsLeft tr
      pub few : suc (length tr.posts) ≤ n
      pub counted : tr.changes ≤ n + 3 * (n - 1)
      pub final : tr.end ≡ done → (st : State) × Closed (n - 1) st × (tr ≡ edges.ended o J est_order lct_order st done)

    -- the task L t goes to Λ
    pub gray_ok : (t : ℕ) (st : State) → t < n → Closed t st → E (Th t) ≤ En t → Inv (suc t) (edges.grayed st (rank (L t)))
    gray_ok t st small c q =
        let v = c.inv in
        let out : lam st (L t) ≡ false = elim (bool (lam st (L t)))
        [ inl y ↦ absurd (omega (arith, v.facts.gray (L t) (record { small = ord.task t small; mem = y }), ord.back t small)) | inr y ↦ y ] in
        let gone : Shape (set st.leaves (rank (L t)) gray) (Th t less L t) (lam st with L t)
        = tree.recoloured J ok est_order rk st.leaves (Th t) (lam st) (Th t less L t) (lam st with L t) (shape t st v) (L t) (ord.task t small) gray
        (less_self (Th t) (L t)) (with_new (lam st) (L t)) (λ j ne. (rw (ne_eqb j (L t) ne), rw (ne_eqb j (L t) ne))) in
        let one_more : card J (λ k. gray_at (set st.leaves (rank (L t)) gray) (rank k)) ≡ suc (card J (lam st)) = omega (
          arith,
          card_with J (lam st) (L t) (record { small = ord.task t small; mem = out }),
          card_same J (λ k. gray_at (set st.leaves (rank (L t)) gray) (rank k)) (lam st with L t) gone.grays,
        ) in
        let whites : (k : ℕ) → k < n → white_at (set st.leaves (rank (L t)) gray) (rank k) ≡ Th (suc t) k = λ k r. gone.whites k r ∙ elim (ℕ_discrete k (L t)) [
          | yes z ↦ rw z (less_self (Th t) (L t) ∙ sym (lt-leb (suc t) (place (L t)) (omega (arith, ord.back t small))))
          | no z ↦ rw (ne_eqb k (L t) z) (leb_step t (place k) (λ y. z (sym (ord.there k r) ∙ ap L y)))
        ] in
        search (arith, whites, gone, one_more, next J ok E E_is L place ord t (lam st) _ (now st) small v.facts (c.none_passes q) q gone.grays)

    done_ok : (t : ℕ) (st : State) → suc t ≡ n → Closed t st → OutOk (edges.ended o J est_order lct_order st done)
    done_ok t st end c =
        let q : E (Th t) ≤ En t = last_fits J ok E E_is L place ord t end in
        let v = c.inv in
        record {
          goods = v.good;
          above = map_above o st.starts;
          otherwise = λ z. absurd (z refl);
          over = λ r z. let y : ◌≡◌ {A = ℕ} 0 1 = cc in absurd (omega arith);
          left = all_stand t st done (λ z. let y : ◌≡◌ {A = ℕ} 0 1 = cc in absurd (omega arith)) v;
          few = omega (arith, v.few);
          counted = omega (arith, v.counted);
          final = λ _. (st, subst (λ (t : ℕ). Closed t st) (omega arith) c, refl);
          when_done = λ _. done_carried (same_sets J (λ _. true) (λ _. true) (λ k q. refl)) (now st) (λ k. moment o (get_or (map (instant o) st.starts) k (pos 0)))
              (length st.posts) (task_of st.posts) (bound_of st.posts) (bound_of st.posts) (λ k r. sym (told t st v k r)) (λ j q. refl)
              (finish J ok E E_is L place ord t (lam st) (now st) end v.facts (c.none_passes q) (length st.posts) (task_of st.posts) (bound_of st.posts) v.posted);
        }

    over_ok : (t : ℕ) (st : State) → t < n → Inv t st → exceeds (ect_of st.leaves) (En t) ≡ true
        → OutOk (edges.ended o J est_order lct_order st (overload (conflict o J (En t) (leaves.sum J est_order st.leaves) (theta J est_order st.leaves))))
    over_ok t st small v q =
        let wrong = overloaded J ok E E_is L place ord t small (theta_past t st small v q) in
        let r₀ = conflict o J (En t) (leaves.sum J est_order st.leaves) (theta J est_order st.leaves) in
        let conflicts : Conflict J = inl wrong in
        let over : (r : List Atom) → overload r₀ ≡ overload r → GoodEnd r = λ r z. let y : r₀ ≡ r = cc in subst GoodEnd y (meas.of_end t st.leaves (lam st) (shape t st v) small q wrong) in
        search (arith, map_above o st.starts, overload_not_done, conflicts, over, all_stand t st (overload r₀) overload_not_emptied v)

    empty_ok : (t : ℕ) (st : State) → t < n → Emptied t st → OutOk (edges.ended o J est_order lct_order st emptied)
    empty_ok t st small w = search (arith, w, map_above o st.starts, emptied_not_done, emptied_not_overload)

    -- the level after one that does not overload
    pub level_ok : (t : ℕ) (st : State) (u : Turn) → suc t < n → Closed t st → exceeds (ect_of st.leaves) (En t) ≡ false
        → inner o J est_order lct_order n (suc t) (edges.grayed st (rank (L t))) ≡ u → TurnOk (Unit {0}) (suc t) u
    level_ok t st u small c z e = sooner {B = card J (lam (edges.grayed st (rank (L t)))) ≤ n} (suc t) u (λ _. card_most J (lam (edges.grayed st (rank (L t)))))
        (subst (TurnOk _ (suc t)) e (inner_ok n (suc t) (edges.grayed st (rank (L t))) small (gray_ok t st (omega arith) c (theta_within t st (omega arith) c.inv z))))

    outer_ok : (f t : ℕ) (st : State) → suc (t + f) ≡ n → Closed t st → OutOk (outer o J est_order lct_order f t st)
    outer_ok zero t st end c = rw (outer_end o J est_order lct_order 0 t st) (done_ok t st (omega arith) c)
    outer_ok (suc f) t st end c = outer_by o J est_order lct_order f t st OutOk (record {
      over = over_ok t st (omega arith) c.inv;
      further = λ st' z e. outer_ok f (suc t) st' (omega arith) ((level_ok t st (on st') (omega arith) c z e).1 tt);
      empties = λ st' z e. empty_ok (suc t) st' (omega arith) (level_ok t st (stop st') (omega arith) c z e);
    })

    -- the state in which a run begins
    abbrev pub st₀ : State
    st₀ = record { leaves = replicate n white; starts = tabulate J.earliest 0 n; posts = []; changes = n }

    now₀ : (k : ℕ) → k < n → now st₀ k ≡ J.earliest k
    now₀ k q = let z : 0 + k ≡ k = omega arith in tab_at J.earliest 0 n k 0 q ∙ ap J.earliest z

    leaf₀ : (k : ℕ) → k < n → get_or (replicate n white) (rank k) empty ≡ white
    leaf₀ k q = get_or-replicate n (rank k) white empty (rk.placed k q)

    no_gray : (k : ℕ) → k < n → lam st₀ k ≡ false
    no_gray k q = ap in_lambda (leaf₀ k q)

    none_gray : card J (lam st₀) ≡ 0
    none_gray = card_same J (lam st₀) (λ _. false) no_gray ∙ card_none J

    module _ {X : Type 0} where
      none_in : (k : ℕ) → In J (lam st₀) k → X
      none_in k h = clash h.mem (no_gray k h.small)

      no_level : {j : ℕ} → j < 0 → X
      no_level q = absurd (omega arith)

      none_raised : (k : ℕ) → k < n → J.earliest k < now st₀ k → X
      none_raised k q r = absurd (omega (arith, now₀ k q))

    inside₀ : (k : ℕ) → k < n → now st₀ k ≤ J.latest k
    inside₀ k q = omega (arith, now₀ k q, ok.ranges k q)

    first_facts : Fa 0 (lam st₀) (now st₀)
    first_facts = search (arith, none_in, no_level, now₀, inside₀)

    first_inv : Inv 0 st₀
    first_inv =
        let whites : (k : ℕ) → k < n → white_at (replicate n white) (rank k) ≡ Th 0 k = λ k q. ap in_theta (leaf₀ k q) ∙ sym (le-leb 0 (place k) (omega arith)) in
        search (arith, length-replicate n white, whites, tab_length J.earliest 0 n, first_facts, no_level, none_gray, none_raised)

    pub first_closed : Closed 0 st₀
    first_closed = record { inv = first_inv; none_passes = λ q k h. none_in k h }

    pub run_ok : 1 ≤ n → OutOk (run o J est_order lct_order)
    unfolding run
    run_ok one = outer_ok (n - 1) 0 st₀ (omega arith) first_closed

  -- a run whose posts and reasons are not asked for
  pub unasked : Measure (λ _. Unit {0}) (λ _. Unit {0})
  unasked = record { of_post = λ t ls Λ s x b small f late over is up edge. tt; of_end = λ t ls Λ s small over wrong. tt }

  pub run_left : 1 ≤ n → OutOk (λ _. Unit {0}) (λ _. Unit {0}) unasked (run o J est_order lct_order)
  run_left = run_ok (λ _. Unit {0}) (λ _. Unit {0}) unasked
