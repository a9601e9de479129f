-- Tasks over two clocks: where their moments correspond, what holds of a set over the one clock holds of it over the other.
use mathlib.Core.Path.{◌≡◌, refl, sym, ap, subst, ◌∙◌}
use mathlib.Core.Bool.{Bool, true, cond}
use mathlib.Core.Logic.{◌↔◌, ◌⊎◌, inl, inr}
use Prim.Native.Nat.{ℕ, ◌+◌, ◌<◌}
use Rattle.scheduling.specs.Scheduling.{Clock, Tasks, TaskSet, ◌with◌, total, Largest, Least, In, Outside, Subset, completion, Est, Lct, processing, EstPlusP, Ect}
use Rattle.scheduling.specs.Scheduling.{Overloads, EdgeFindingBound, Conflict, Done, RuleFormula}
use Rattle.scheduling.proofs.Sets.{total_ext}

-- a task of a set is one of a larger set
pub wider : {C : Clock} (J : Tasks C) (S Ω : TaskSet) → Subset J S Ω → {k : ℕ} → In J S k → In J Ω k
wider J S Ω sub {k} h = record { small = h.small; mem = sub k h }

-- Which moments correspond: they are in the same order, and those as much later correspond too.
pub record Correspondence (C D : Clock) : Type 1 where
  pub is : C.Moment → D.Moment → Type 0
  pub upto : {a b : C.Moment} {x y : D.Moment} → is a x → is b y → C.upto a b ↔ D.upto x y
  pub before : {a b : C.Moment} {x y : D.Moment} → is a x → is b y → C.before a b ↔ D.before x y
  pub later : {a : C.Moment} {x : D.Moment} (d : ℕ) → is a x → is (C.later a d) (D.later x d)
  pub one : {a : C.Moment} {x y : D.Moment} → is a x → is a y → x ≡ y
  pub one_back : {a b : C.Moment} {x : D.Moment} → is a x → is b x → a ≡ b

abbrev pub turned : {C D : Clock} → Correspondence C D → Correspondence D C
turned T = record {
  is = λ x a. T.is a x;
  upto = λ h k. ((T.upto h k).1, (T.upto h k).0);
  before = λ h k. ((T.before h k).1, (T.before h k).0);
  later = λ d h. T.later d h;
  one = λ h k. T.one_back h k;
  one_back = λ h k. T.one h k;
}

module _ {C D : Clock} (T : Correspondence C D) where
  -- the moment that corresponds to v, of which Q holds
  pub record Carried (Q : D.Moment → Type 0) (v : C.Moment) : Type 0 where
    pub at : D.Moment
    pub is : T.is v at
    pub holds : Q at

  abbrev pub Carries : (C.Moment → Type 0) → (D.Moment → Type 0) → Type 0
  Carries P Q = (v : C.Moment) → P v → Carried Q v

  -- what is carried holds of the moment that is known to correspond
  pub known : {P : C.Moment → Type 0} {Q : D.Moment → Type 0} → Carries P Q → (v : C.Moment) (w : D.Moment) → T.is v w → P v → Q w
  known {P} {Q} f v w is h = let g = f v h in subst Q (T.one g.is is) g.holds

  -- Two lists of tasks with the same count and durations, two sets with the same tasks, and ranges that correspond in them.
  pub record Alike (J : Tasks C) (K : Tasks D) (S Ω : TaskSet) : Type 0 where
    pub count : J.count ≡ K.count
    pub duration : (k : ℕ) → J.duration k ≡ K.duration k
    pub same : (k : ℕ) → k < J.count → S k ≡ Ω k
    pub earliest : (k : ℕ) → In J S k → T.is (J.earliest k) (K.earliest k)
    pub latest : (k : ℕ) → In J S k → T.is (J.latest k) (K.latest k)

-- the least and the largest moments correspond where those with P and with Q do
module _ {C D : Clock} (T : Correspondence C D) {P : C.Moment → Type 0} {Q : D.Moment → Type 0} (to : Carries T P Q) (from : Carries (turned T) Q P) where
  least : Carries T (Least C P) (Least D Q)
  least v e = let g = to v e.holds in
      record { at = g.at; is = g.is; holds = record { holds = g.holds; bounds = λ w h. let k = from w h in (T.upto g.is k.is).0 (e.bounds k.at k.holds) } }

  pub largest : Carries T (Largest C P) (Largest D Q)
  largest v e = let g = to v e.holds in
      record { at = g.at; is = g.is; holds = record { holds = g.holds; bounds = λ w h. let k = from w h in (T.upto k.is g.is).0 (e.bounds k.at k.holds) } }

module _ {C D : Clock} {T : Correspondence C D} {J : Tasks C} {K : Tasks D} {S Ω : TaskSet} (a : Alike T J K S Ω) where
  in_too : {k : ℕ} → In J S k → In K Ω k
  in_too {k} h = record { small = subst (λ (n : ℕ). k < n) a.count h.small; mem = sym (a.same k h.small) ∙ h.mem }

  in_back : {k : ℕ} → In K Ω k → In J S k
  in_back {k} h = let q = subst (λ (n : ℕ). k < n) (sym a.count) h.small in record { small = q; mem = a.same k q ∙ h.mem }

  pub alike_turned : Alike (turned T) K J Ω S
  alike_turned = record {
    count = sym a.count;
    duration = λ k. sym (a.duration k);
    same = λ k q. sym (a.same k (subst (λ (n : ℕ). k < n) (sym a.count) q));
    earliest = λ k h. a.earliest k (in_back h);
    latest = λ k h. a.latest k (in_back h);
  }

  -- a part of the sets
  pub part_alike : (part : TaskSet) → Subset J part S → Alike T J K part part
  part_alike part sub = search (a.earliest, a.latest, wider J part S sub)

  pub processing_alike : processing J S ≡ processing K Ω
  unfolding processing
  processing_alike =
      total_ext (λ k. cond (S k) (J.duration k) 0) (λ k. cond (Ω k) (K.duration k) 0) J.count
      (λ k q. ap (λ (b : Bool). cond b (J.duration k) 0) (a.same k q) ∙ ap (λ (d : ℕ). cond (Ω k) d 0) (a.duration k))
      ∙ ap (total (λ k. cond (Ω k) (K.duration k) 0)) a.count

  ends : (k : ℕ) → In J S k → T.is (completion J k) (completion K k)
  ends k h = subst (λ (d : ℕ). T.is (completion J k) (D.later (K.latest k) d)) (a.duration k) (T.later (J.duration k) (a.latest k h))

  -- what a function has at the tasks of a set
  values : (f : ℕ → C.Moment) (g : ℕ → D.Moment) → ((k : ℕ) → In J S k → T.is (f k) (g k)) → Carries T (λ t. (k : ℕ) × In J S k × (f k ≡ t)) (λ t. (k : ℕ) × In K Ω k × (g k ≡ t))
  values f g e v (k, h, z) = record { at = g k; is = subst (λ (t : C.Moment). T.is t (g k)) z (e k h); holds = (k, in_too h, refl) }

module _ {C D : Clock} {T : Correspondence C D} {J : Tasks C} {K : Tasks D} where
  module _ {S Ω : TaskSet} (a : Alike T J K S Ω) where
    pub est_carried : Carries T (Est J S) (Est K Ω)
    est_carried = let b = alike_turned a in least T (values a J.earliest K.earliest a.earliest) (values b K.earliest J.earliest b.earliest)

    pub lct_carried : Carries T (Lct J S) (Lct K Ω)
    lct_carried = let b = alike_turned a in
        largest T (values a (completion J) (completion K) (ends a)) (values b (completion K) (completion J) (ends b))

  pub part_carried : {S Ω : TaskSet} → Alike T J K S Ω → Carries T (EstPlusP J S) (EstPlusP K Ω)
  part_carried a v f =
      let b : Alike T J K f.part f.part = part_alike a f.part f.within in
      let e = est_carried b f.start f.est in
      record {
        at = D.later e.at (processing J f.part);
        is = subst (λ (t : C.Moment). T.is t (D.later e.at (processing J f.part))) f.sum (T.later (processing J f.part) e.is);
        holds = record {
          part = f.part;
          within = λ k h. let i = in_back b h in sym (a.same k i.small) ∙ f.within k i;
          start = e.at;
          est = e.holds;
          sum = ap (D.later e.at) (sym (processing_alike b));
        };
      }

module _ {C D : Clock} {T : Correspondence C D} {J : Tasks C} {K : Tasks D} {S Ω : TaskSet} (a : Alike T J K S Ω) where
  pub ect_carried : Carries T (Ect J S) (Ect K Ω)
  ect_carried = largest T (part_carried a) (part_carried (alike_turned a))

  -- an end and a sum that is past it
  over : (end start : C.Moment) (x y : D.Moment) (d e : ℕ) → d ≡ e → T.is end x → T.is start y → C.before end (C.later start d) → D.before x (D.later y e)
  over end start x y d e z h k = subst (λ (n : ℕ). C.before end (C.later start d) → D.before x (D.later y n)) z (T.before h (T.later d k)).0

  pub overloads_carried : Overloads J S → Overloads K Ω
  overloads_carried v =
      let s = est_carried a v.start v.est in
      let e = lct_carried a v.end v.lct in
      record { start = s.at; end = e.at; est = s.holds; lct = e.holds; over = over v.end v.start e.at s.at _ _ (processing_alike a) e.is s.is v.over }

  pub formula_carried : (i : ℕ) → T.is (J.earliest i) (K.earliest i) → T.is (J.latest i) (K.latest i) → RuleFormula J S i → RuleFormula K Ω i
  formula_carried i early late c =
      let s = est_carried a c.start c.est in
      let e = lct_carried a c.end c.lct in
      let j = ect_carried c.joint c.ect in
      let d : processing J S + J.duration i ≡ processing K Ω + K.duration i = ap (λ (n : ℕ). n + J.duration i) (processing_alike a) ∙ ap (λ (n : ℕ). processing K Ω + n) (a.duration i) in
      let outside : Outside K Ω i = record { small = subst (λ (n : ℕ). i < n) a.count c.outside.small; mem = sym (a.same i c.outside.small) ∙ c.outside.mem } in
      let over_i = over c.end (J.earliest i) e.at (K.earliest i) _ _ d e.is early c.over_i in
      let over_Ω = over c.end c.start e.at s.at _ _ d e.is s.is c.over_Ω in
      search (outside, s.holds, e.holds, j.holds, over_i, over_Ω, (T.before late j.is).0 c.passes)

-- the set of all tasks
abbrev pub all : TaskSet
all k = true

-- Tasks all of whose ranges correspond.
module _ {C D : Clock} {T : Correspondence C D} {J : Tasks C} {K : Tasks D} (a : Alike T J K all all) where
  pub of : (Ω : TaskSet) → Alike T J K Ω Ω
  of Ω = part_alike a Ω (λ k h. refl)

  pub edge_carried : (i : ℕ) → Carries T (EdgeFindingBound J i) (EdgeFindingBound K i)
  edge_carried i b r =
      let e = lct_carried (of r.set) r.end r.lct in
      let j = ect_carried (of (r.set with i)) r.joint r.ect_with in
      let v = ect_carried (of r.set) b r.ect in
      let outside : Outside K r.set i = record { small = subst (λ (n : ℕ). i < n) a.count r.outside.small; mem = r.outside.mem } in
      record { at = v.at; is = v.is; holds = search (outside, e.holds, j.holds, v.holds, (T.before e.is j.is).0 r.passes) }

  pub conflict_carried : Conflict J → Conflict K
  conflict_carried (inl (Ω, v)) = inl (Ω, overloads_carried (of Ω) v)
  conflict_carried (inr (i, b, r, q)) = let e = edge_carried i b r in inr (i, e.at, e.holds, (T.before (a.latest i (record { small = r.outside.small; mem = refl })) e.is).0 q)

  -- an earliest start, and the bounds of it
  starts_carried : (i : ℕ) → i < J.count → Carries T (λ v. (J.earliest i ≡ v) ⊎ EdgeFindingBound J i v) (λ v. (K.earliest i ≡ v) ⊎ EdgeFindingBound K i v)
  starts_carried i q v (inl z) = record { at = K.earliest i; is = subst (λ (t : C.Moment). T.is t (K.earliest i)) z (a.earliest i (record { small = q; mem = refl })); holds = inl refl }
  starts_carried i q v (inr r) = let e = edge_carried i v r in record { at = e.at; is = e.is; holds = inr e.holds }

module _ {C D : Clock} {T : Correspondence C D} {J : Tasks C} {K : Tasks D} (a : Alike T J K all all) where
  module _ (start : ℕ → C.Moment) (start' : ℕ → D.Moment) (m : ℕ) (task : ℕ → ℕ) (bound : ℕ → C.Moment) (bound' : ℕ → D.Moment)
      (at : (k : ℕ) → k < J.count → T.is (start k) (start' k)) (by : (j : ℕ) → j < m → T.is (bound j) (bound' j)) where
    b : Alike (turned T) K J all all
    b = alike_turned a

    small : {k : ℕ} → k < K.count → k < J.count
    small {k} q = subst (λ (n : ℕ). k < n) (sym a.count) q

    first : (k : ℕ) → k < J.count → T.is (J.earliest k) (K.earliest k)
    first k q = a.earliest k (record { small = q; mem = refl })

    pub done_carried : Done J start m task bound → Done K start' m task bound'
    done_carried d = record {
      no_overload = λ Ω v. d.no_overload Ω (overloads_carried (of b Ω) v);
      no_passing = λ i x r. let e = edge_carried b i x r in (T.upto e.is (b.latest i (record { small = r.outside.small; mem = refl }))).0 (d.no_passing i e.at e.holds);
      starts = λ i q. known T (largest T (starts_carried a i (small q)) (starts_carried b i q)) (start i) (start' i) (at i (small q)) (d.starts i (small q));
      small = λ j q. subst (λ (n : ℕ). task j < n) a.count (d.small j q);
      raises = λ j q. (T.before (first (task j) (d.small j q)) (by j q)).0 (d.raises j q);
      at_largest = λ j q. known T (largest T (edge_carried a (task j)) (edge_carried b (task j))) (bound j) (bound' j) (by j q) (d.at_largest j q);
      every = λ k q h. d.every k (small q) ((T.before (first k (small q)) (at k (small q))).1 h);
      once = d.once;
    }
