-- A level's task j whose est + p is the ect_bar before j leaves Theta. No set that may go with j completes after j starts, or that ect_bar would be later.
-- So once j is gray, every other task reaches less: the search finds j, and the ect of Theta does not raise the start of j.
use mathlib.Core.Path.{◌≡◌, refl, sym, ap, subst, ◌∙◌}
use mathlib.Core.Bool.{true, false}
use mathlib.Core.Logic.{inl, inr}
use mathlib.Core.List.{List}
use mathlib.Core.Option.{some}
use Prim.Native.Nat.{ℕ, suc, ◌+◌, ◌≤◌, ◌<◌, min}
use native.Mathlib.Omega.{arith}
use native.Mathlib.Decide.{ℕ_discrete}
use lib.ListN.{get_or, set}
use borrow.Author.Tests.{ne_eqb}
use Rattle.integers.specs.Orders.{index}
use Rattle.integers.proofs.Bools.{bool, clash}
use Rattle.scheduling.specs.Scheduling.{natural, Tasks, Proper, Atom, TaskSet, ◌with◌, In, Outside, Subset, EstPlusP, Ect, processing}
use Rattle.scheduling.specs.Moments.{ByEarliest, ByCompletion}
use Rattle.scheduling.proofs.Sets.{◌less◌, less_in, less_self, with_in, with_new, with_old}
use Rattle.scheduling.proofs.Processing.{processing_with, processing_less}
use Rattle.scheduling.proofs.LargerSets.{part_mono}
use Rattle.scheduling.proofs.Exists.{est_some, ect_some}
use Rattle.scheduling.proofs.Scan.{alone, upto, and_in}
use Rattle.trees.specs.Ects.{exceeds, raised_to}
use Rattle.trees.specs.Leaves.{Leaf, gray, ect, ect_bar_of, responsible}
use Rattle.trees.proofs.Ects.{exceeds_yes, some_exceeds, raised_bound}
use Rattle.trees.proofs.RootAnswers as tree
use Rattle.runs.specs.Traces.{Post}
use Rattle.runs.specs.Runs.{State}
use Rattle.runs.specs.Reached.{moved_onward, Entered, Reached, at_head}
use Rattle.runs.proofs.InnerLoop.{opt}
use Rattle.runs.proofs.AtomRoom as room
use Rattle.runs.proofs.LevelSteps as steps
use Rattle.runs.proofs.ReachedStates.{reached_inv}

-- the search finds the leaf of j, past the lct, and the ect of Theta is no later than the start of j
pub record IsFirst (J : Tasks natural) (est_order : List ℕ) (ls : List Leaf) (j lct : ℕ) : Type 0 where
  pub past : exceeds (ect_bar_of J est_order ls) lct ≡ true
  pub found : responsible J est_order ls ≡ some (index est_order j)
  pub not_raised : exceeds (ect J est_order ls) (J.earliest j) ≡ false

-- a part of S with j added starts no earlier than the part or j
with_part : (J : Tasks natural) (S : TaskSet) (j : ℕ) → Outside J S j → (v : ℕ) (f : EstPlusP J S v)
    → (a : ℕ) × EstPlusP J (S with j) (a + processing J f.part + J.duration j) × (min (J.earliest j) f.start ≤ a)
with_part J S j out v f =
    let (a, e) = est_some J (f.part with j) (j, record { small = out.small; mem = with_new f.part j }) in
    let (k, km, is) = e.holds in (
      a,
      record { part = f.part with j; within = within; start = a; est = e; sum = omega (arith, processing_with J f.part j not_in) },
      elim (with_in f.part j k km.mem)
          [ inl z ↦ omega (arith, is, ap J.earliest z) | inr y ↦ omega (arith, f.est.bounds a (k, record { small = km.small; mem = y }, is)) ],
    )
  where
    within : Subset J (f.part with j) (S with j)
    within k h = elim (with_in f.part j k h.mem) [ inl z ↦ rw z (with_new S j) | inr y ↦ with_old S j k (f.within k (record { small = h.small; mem = y })) ]

    not_in : Outside J f.part j
    not_in = record { small = out.small; mem = elim (bool (f.part j)) [ inl y ↦ clash (f.within j (record { small = out.small; mem = y })) out.mem | inr y ↦ y ] }

module _ (J : Tasks natural) (ok : Proper J) (est_order : List ℕ) (rk : ByEarliest J (λ x. get_or est_order x 0) (λ k. index est_order k)) (ls : List Leaf) (Ω₀ Λ₀ : TaskSet)
    (before : tree.Represents J ok est_order rk ls Ω₀ Λ₀) (j : ℕ) (white : In J Ω₀ j) (last : ℕ) (most : raised_to 0 (ect_bar_of J est_order ls) ≤ last)
    (is : last ≡ J.earliest j + J.duration j) where
  abbrev T : ℕ → ℕ
  T x = get_or est_order x 0

  abbrev rank : ℕ → ℕ
  rank k = index est_order k

  -- j is gray: the leaves, and the sets that they show
  abbrev ls₁ : List Leaf
  ls₁ = set ls (rank j) gray

  abbrev Ω : TaskSet
  Ω = Ω₀ less j

  abbrev Λ : TaskSet
  Λ = Λ₀ with j

  after : tree.Represents J ok est_order rk ls₁ Ω Λ
  after = tree.recoloured J ok est_order rk ls Ω₀ Λ₀ Ω Λ before j white.small gray (less_self Ω₀ j) (with_new Λ₀ j) (λ k ne. (rw (ne_eqb k j ne) refl, rw (ne_eqb k j ne) refl))

  gray_j : In J Λ j
  gray_j = record { small = white.small; mem = with_new Λ₀ j }

  -- S with j is inside a set whose ect counts for the ect_bar before. Then no part of S completes after j starts: with j it would end later than j alone.
  early : (S S₀ : TaskSet) → S j ≡ false → Subset J (S with j) S₀ → ((v : ℕ) → Ect J S₀ v → tree.AtMostOne J ok est_order rk ls Ω₀ Λ₀ before v) → (v : ℕ) → EstPlusP J S v
      → v ≤ J.earliest j
  early S S₀ out inside one v f =
      let (a, g, from) = with_part J S j (record { small = white.small; mem = out }) v f in
      let (w, e) = ect_some J S₀ (j, record { small = white.small; mem = inside j (record { small = white.small; mem = with_new S j }) }) in
      let (u, at, largest) = tree.bar_some J ok est_order rk ls Ω₀ Λ₀ before (inl (j, white)) in
      let (k, km, _) = f.est.holds in
      omega (
        arith,
        is,
        most,
        f.sum,
        raised_bound 0 (ect_bar_of J est_order ls) u at,
        largest.bounds w (one w e),
        from,
        e.bounds (a + processing J f.part + J.duration j) (part_mono J (S with j) S₀ (a + processing J f.part + J.duration j) inside g),
        processing_less J f.part k km,
        ok.lasts k km.small,
      )

  theta_early : (v : ℕ) → EstPlusP J Ω v → v ≤ J.earliest j
  theta_early = early Ω Ω₀ (less_self Ω₀ j) (λ k h. elim (with_in Ω j k h.mem) [ inl z ↦ rw z white.mem | inr y ↦ (less_in Ω₀ j k y).0 ]) (λ v e. inl e)

  others_early : (i : ℕ) → In J Λ i → (i ≡ j → ⊥) → (v : ℕ) → EstPlusP J (Ω with i) v → v ≤ J.earliest j
  others_early i m ne = early (Ω with i) (Ω₀ with i) (rw (ne_eqb j i (λ z. ne (sym z))) (less_self Ω₀ j)) inside (λ v e. inr (i, was_gray, e))
    where
      was_gray : In J Λ₀ i
      was_gray = record { small = m.small; mem = elim (with_in Λ₀ j i m.mem) [ inl z ↦ absurd (ne z) | inr y ↦ y ] }

      inside : Subset J (Ω with i with j) (Ω₀ with i)
      inside k h = elim (with_in (Ω with i) j k h.mem) [
        | inl z ↦ rw z (with_old Ω₀ i j white.mem)
        | inr y ↦ elim (with_in Ω i k y) [ inl z ↦ rw z (with_new Ω₀ i) | inr u ↦ with_old Ω₀ i k (less_in Ω₀ j k u).0 ]
      ]

  not_raised : exceeds (ect J est_order ls₁) (J.earliest j) ≡ false
  not_raised = elim (bool (exceeds (ect J est_order ls₁) (J.earliest j))) [
    | inl y ↦ (let (v, z, q) = exceeds_yes (ect J est_order ls₁) (J.earliest j) y in
        absurd (omega (arith, q, theta_early v ((tree.moment_is J ok est_order rk ls₁ Ω Λ after v).0 z).holds)))
    | inr y ↦ y
  ]

  -- the ect_bar is at least est + p of j
  reach : (v : ℕ) × (ect_bar_of J est_order ls₁ ≡ some v) × (J.earliest j + J.duration j ≤ v)
  reach =
      let (v, z, largest) = tree.bar_some J ok est_order rk ls₁ Ω Λ after (inr (j, gray_j)) in
      let (w, e) = ect_some J (Ω with j) (j, record { small = white.small; mem = with_new Ω j }) in
      (v, z, omega (arith, largest.bounds w (inr (j, gray_j, e)), e.bounds (J.earliest j + J.duration j) by_itself))
    where
      by_itself : EstPlusP J (Ω with j) (J.earliest j + J.duration j)
      by_itself =
          let t : T (rank j) ≡ j = rk.there j white.small in
          let self : (Ω with j) (T (rank j)) ≡ true = rw t (with_new Ω j) in
          subst (λ (k : ℕ). EstPlusP J (Ω with j) (J.earliest k + J.duration k)) t
          (part_mono J (upto J T rank (Ω with j) (suc (rank j))) (Ω with j) (J.earliest (T (rank j)) + J.duration (T (rank j)))
          (λ k h. (and_in J T rank ok rk (Ω with j) (Ω with j) (suc (rank j)) k h.mem).1)
          (alone J T rank ok rk (Ω with j) (rank j) (rk.placed j white.small) self))

  -- a search that finds none, or another task, would have reached less
  found : responsible J est_order ls₁ ≡ some (rank j)
  found = elim (opt (responsible J est_order ls₁)) [
    | inl z ↦ clash (some_exceeds (ect J est_order ls₁) reach.0 (J.earliest j) (sym (tree.none_found J ok est_order rk ls₁ Ω Λ after z) ∙ reach.1) (omega (arith, reach.2, lasts))) not_raised
    | inr u ↦ (let f = tree.one_found J ok est_order rk ls₁ Ω Λ after u.0 u.1 in
        elim (ℕ_discrete (T u.0) j) [
          | yes t ↦ u.1 ∙ ap some (sym (rk.back u.0 f.small) ∙ ap rank t)
          | no ne ↦ absurd (omega (arith, reach.2, f.reaches reach.0 reach.1, others_early (T u.0) f.gray ne f.value f.attains, lasts))
        ])
  ]
    where
      lasts : 1 ≤ J.duration j
      lasts = ok.lasts j white.small

  pub is_first : (lct : ℕ) → lct < last → IsFirst J est_order ls₁ j lct
  is_first lct q = let (v, z, p) = reach in record { past = some_exceeds (ect_bar_of J est_order ls₁) v lct z (omega (arith, q, is, p)); found = found; not_raised = not_raised }

-- the task of level t, in the state in which it goes to Lambda
module _ (o : ℕ) (J : Tasks natural) (ok : Proper J) (est_order lct_order : List ℕ) (rk : ByEarliest J (λ x. get_or est_order x 0) (λ k. index est_order k))
    (ord : ByCompletion J (λ t. get_or lct_order t 0) (λ k. index lct_order k)) where
  abbrev Short : Post → Type 0
  Short = room.Short o J ok est_order lct_order rk ord

  abbrev ShortEnd : List Atom → Type 0
  ShortEnd = room.ShortEnd o J ok est_order lct_order rk ord

  abbrev short : steps.Measure o J ok est_order lct_order rk ord Short ShortEnd
  short = room.short o J ok est_order lct_order rk ord

  abbrev Th : ℕ → TaskSet
  Th = steps.Th o J ok est_order lct_order rk ord

  abbrev lam : State → TaskSet
  lam = steps.lam o J ok est_order lct_order rk ord Short ShortEnd short

  shape : (t : ℕ) (st : State) → Reached o J est_order lct_order t st → t < J.count → tree.Represents J ok est_order rk st.leaves (Th t) (lam st)
  shape t st r q = steps.shape o J ok est_order lct_order rk ord Short ShortEnd short t st (reached_inv o J ok est_order lct_order rk ord Short ShortEnd short t st r q)

  pub level_first : (t : ℕ) (st : State) → t < J.count → Entered o J est_order lct_order t st → (last : ℕ) → raised_to 0 (ect_bar_of J est_order st.leaves) ≤ last
      → last ≡ J.earliest (get_or lct_order t 0) + J.duration (get_or lct_order t 0) → (lct : ℕ) → lct < last
      → IsFirst J est_order (moved_onward o J est_order lct_order t st).leaves (get_or lct_order t 0) lct
  level_first t st small e = is_first J ok est_order rk st.leaves (Th t) (lam st) (shape t st (at_head t st e) small) (get_or lct_order t 0)
      (steps.theta_some o J ok est_order lct_order rk ord t small)
