-- The clauses of a run's inner and outer loop, and the cases of each.
use mathlib.Core.Path.{◌≡◌, refl, sym, ap, subst, ◌∙◌}
use mathlib.Core.Bool.{Bool, true, false}
use mathlib.Core.Logic.{◌⊎◌, inl, inr}
use mathlib.Core.List.{List, []}
use mathlib.Core.Option.{Option, some, none}
use Prim.Native.Nat.{ℕ, suc, ◌-◌, ◌≤◌, ◌<◌}
use lib.Dec.{ltb}
use lib.IntN.{ℤ}
use lib.ListN.{get_or, replicate}
use borrow.Author.Tests.{ltb-true, ltb-false}
use Rattle.scheduling.specs.Scheduling.{natural, Tasks, tasks_of}
use Rattle.integers.proofs.Bools.{bool}
use Rattle.scheduling.specs.Moments.{moments}
use Rattle.integers.specs.Moments.{zero_at}
use Rattle.integers.specs.Orders.{index}
use Rattle.trees.specs.Ects.{exceeds}
use Rattle.trees.proofs.Ects.{past_or_not}
use Rattle.trees.specs.Leaves.{white, sum, theta, responsible, ect, ect_bar_of}
use Rattle.runs.specs.Traces.{Trace, done, overload, emptied}
use Rattle.runs.specs.Runs.{State, Turn, on, stop, inner, outer, run, ended, grayed, tabulate, conflict, posted, raised, dropped, lct, earliest_order, completion_order, propagate}

-- a leaf is found or not, and the inner loop goes on or stops
pub opt : (u : Option ℕ) → (u ≡ none) ⊎ ((x : ℕ) × (u ≡ some x))
opt none = inl refl
opt (some x) = inr (x, refl)

pub turn : (u : Turn) → ((st : State) × (u ≡ on st)) ⊎ ((st : State) × (u ≡ stop st))
turn (on st) = inl (st, refl)
turn (stop st) = inr (st, refl)

module _ (o : ℕ) (J : Tasks natural) (est_order lct_order : List ℕ) (f t : ℕ) (st : State) where
  abbrev T : ℕ → ℕ
  T x = get_or est_order x 0

  abbrev Over : Bool → Type 0
  Over v = exceeds (ect_bar_of J est_order st.leaves) (lct o J est_order lct_order t) ≡ v

  pub inner_end : inner o J est_order lct_order 0 t st ≡ on st
  unfolding inner
  inner_end = refl

  pub inner_off : Over false → inner o J est_order lct_order (suc f) t st ≡ on st
  unfolding inner
  inner_off z = rw (z, inner)

  pub inner_none : Over true → responsible J est_order st.leaves ≡ none → inner o J est_order lct_order (suc f) t st ≡ on st
  unfolding inner
  inner_none z w = rw (z, w, inner)

  module _ (x : ℕ) (z : Over true) (w : responsible J est_order st.leaves ≡ some x) where
    -- Θ's ect is not past the task's start, or there is none
    pub inner_pass : exceeds (ect J est_order st.leaves) (J.earliest (T x)) ≡ false → inner o J est_order lct_order (suc f) t st ≡ inner o J est_order lct_order f t (dropped st x)
    unfolding inner
    inner_pass y = elim (opt (ect J est_order st.leaves)) [
      | inl d ↦ rw (z, w, d, inner) refl
      | inr d ↦ (let low : ltb (J.earliest (T x)) d.0 ≡ false = ap (λ (u : Option ℕ). exceeds u (J.earliest (T x))) (sym d.1) ∙ y in rw (z, w, d.1, low, inner) refl)
    ]

    -- Θ's ect is b
    module _ (b : ℕ) (is : ect J est_order st.leaves ≡ some b) where
      pub inner_stop : ltb (J.earliest (T x)) b ≡ true → ltb (J.latest (T x)) b ≡ true → inner o J est_order lct_order (suc f) t st ≡ stop (posted o J est_order lct_order st (T x) b t)
      unfolding inner
      inner_stop y a = rw (z, w, is, y, a, inner)

      pub inner_raise : ltb (J.earliest (T x)) b ≡ true → ltb (J.latest (T x)) b ≡ false
          → inner o J est_order lct_order (suc f) t st ≡ inner o J est_order lct_order f t (dropped (raised (posted o J est_order lct_order st (T x) b t) (T x) b) x)
      unfolding inner
      inner_raise y a = rw (z, w, is, y, a, inner) refl

  -- what is true of a turn, case by case: no bar past lct, nobody found, a candidate passed over, a range emptied, a start raised
  pub record InnerCases (P : Turn → Type 0) : Type 0 where
    pub off : Over false → P (on st)
    pub absent : Over true → responsible J est_order st.leaves ≡ none → P (on st)
    pub passes : (x : ℕ) → Over true → responsible J est_order st.leaves ≡ some x → exceeds (ect J est_order st.leaves) (J.earliest (T x)) ≡ false
        → P (inner o J est_order lct_order f t (dropped st x))
    pub empties : (x b : ℕ) → Over true → responsible J est_order st.leaves ≡ some x → ect J est_order st.leaves ≡ some b → J.earliest (T x) < b → J.latest (T x) < b
        → P (stop (posted o J est_order lct_order st (T x) b t))
    pub raises : (x b : ℕ) → Over true → responsible J est_order st.leaves ≡ some x → ect J est_order st.leaves ≡ some b → J.earliest (T x) < b → b ≤ J.latest (T x)
        → P (inner o J est_order lct_order f t (dropped (raised (posted o J est_order lct_order st (T x) b t) (T x) b) x))

  pub inner_by : (P : Turn → Type 0) → InnerCases P → P (inner o J est_order lct_order (suc f) t st)
  inner_by P c = elim (bool (exceeds (ect_bar_of J est_order st.leaves) (lct o J est_order lct_order t))) [
    | inr z ↦ subst P (sym (inner_off z)) (c.off z)
    | inl z ↦ elim (opt (responsible J est_order st.leaves)) [
      | inl w ↦ subst P (sym (inner_none z w)) (c.absent z w)
      | inr (x, w) ↦ elim (past_or_not (ect J est_order st.leaves) (J.earliest (T x))) [
        | inl y ↦ subst P (sym (inner_pass x z w y)) (c.passes x z w y)
        | inr (b, is, y) ↦ elim (bool (ltb (J.latest (T x)) b)) [
          | inl a ↦ subst P (sym (inner_stop x z w b is y a)) (c.empties x b z w is (ltb-true _ _ y) (ltb-true _ _ a))
          | inr a ↦ subst P (sym (inner_raise x z w b is y a)) (c.raises x b z w is (ltb-true _ _ y) (ltb-false _ _ a))
        ]
      ]
    ]
  ]

-- the whole run's definition, and the outer loop's clauses
pub propagate_is : (ds : List ℕ) (es ls : List ℤ) → let J = moments zero_at (tasks_of ds es ls) in propagate ds es ls ≡ run zero_at J (earliest_order J) (completion_order J)
unfolding propagate
propagate_is ds es ls = refl

module _ (o : ℕ) (J : Tasks natural) (est_order lct_order : List ℕ) where
  pub run_is : run o J est_order lct_order ≡ outer o J est_order lct_order (J.count - 1) 0
      (record { leaves = replicate J.count white; starts = tabulate J.earliest 0 J.count; posts = []; changes = J.count })
  unfolding run
  run_is = refl

  module _ (f t : ℕ) (st : State) where
    pub outer_end : outer o J est_order lct_order 0 t st ≡ ended o J est_order lct_order st done
    unfolding outer
    outer_end = refl

    pub outer_over : exceeds (ect J est_order st.leaves) (lct o J est_order lct_order t) ≡ true
        → outer o J est_order lct_order (suc f) t st ≡ ended o J est_order lct_order st
        (overload (conflict o J (lct o J est_order lct_order t) (sum J est_order st.leaves) (theta J est_order st.leaves)))
    unfolding outer
    outer_over z = rw (z, outer)

    module _ (st' : State) (z : exceeds (ect J est_order st.leaves) (lct o J est_order lct_order t) ≡ false) where
      pub outer_on : inner o J est_order lct_order J.count (suc t) (grayed st (index est_order (get_or lct_order t 0))) ≡ on st'
          → outer o J est_order lct_order (suc f) t st ≡ outer o J est_order lct_order f (suc t) st'
      unfolding outer
      outer_on y = rw (z, y, outer) refl

      pub outer_stop : inner o J est_order lct_order J.count (suc t) (grayed st (index est_order (get_or lct_order t 0))) ≡ stop st'
          → outer o J est_order lct_order (suc f) t st ≡ ended o J est_order lct_order st' emptied
      unfolding outer
      outer_stop y = rw (z, y, outer)

    -- what is true of the rest of a run, case by case: the level overloads, the run goes on, a range is emptied
    pub record OuterCases (P : Trace → Type 0) : Type 0 where
      pub over : exceeds (ect J est_order st.leaves) (lct o J est_order lct_order t) ≡ true
          → P (ended o J est_order lct_order st (overload (conflict o J (lct o J est_order lct_order t) (sum J est_order st.leaves) (theta J est_order st.leaves))))
      pub further : (st' : State) → exceeds (ect J est_order st.leaves) (lct o J est_order lct_order t) ≡ false
          → inner o J est_order lct_order J.count (suc t) (grayed st (index est_order (get_or lct_order t 0))) ≡ on st' → P (outer o J est_order lct_order f (suc t) st')
      pub empties : (st' : State) → exceeds (ect J est_order st.leaves) (lct o J est_order lct_order t) ≡ false
          → inner o J est_order lct_order J.count (suc t) (grayed st (index est_order (get_or lct_order t 0))) ≡ stop st' → P (ended o J est_order lct_order st' emptied)

    pub outer_by : (P : Trace → Type 0) → OuterCases P → P (outer o J est_order lct_order (suc f) t st)
    outer_by P c = elim (bool (exceeds (ect J est_order st.leaves) (lct o J est_order lct_order t))) [
      | inl z ↦ subst P (sym (outer_over z)) (c.over z)
      | inr z ↦ elim (turn (inner o J est_order lct_order J.count (suc t) (grayed st (index est_order (get_or lct_order t 0))))) [
        | inl (st', e) ↦ subst P (sym (outer_on st' z e)) (c.further st' z e)
        | inr (st', e) ↦ subst P (sym (outer_stop st' z e)) (c.empties st' z e)
      ]
    ]
