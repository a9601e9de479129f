-- A domain without holes is its bounds: what an atom makes of it, it makes of their words.
use mathlib.Core.Path.{◌≡◌, refl, sym, ap, ◌∙◌, subst}
use mathlib.Core.Logic.{⊎_elim}
use mathlib.Core.Bool.{true, false, Bool, cond}
use mathlib.Core.List.{[]}
use Prim.Native.Nat.{ℕ, zero, suc, ◌+◌, ◌-◌, ◌<◌, max}
use native.Mathlib.Omega.{arith}
use borrow.Author.Tests.{le-leb, lt-leb, ne_eqb}
use lib.Dec.{leb}
use lib.IntN.{ℤ}
use lib.Signed.{le_z}
use Rattle.integers.specs.Limits.{VALUE, U32MAX}
use Rattle.integers.specs.Moments.{moment, Above, zero_at}
use Rattle.integers.specs.WholeNumbers.{Within}
use Rattle.integers.proofs.Bools.{bool, clash}
use Rattle.integers.proofs.Ints.{ints, up, dn}
use Rattle.integers.proofs.MomentSums.{at_moment, above_show, mono, mono<}
use Rattle.holes.specs.Holes.{kept, first_at_or_after, last_at_or_before}
use Rattle.checking.specs.declared.int_ext.IntExt.{IntExt}
use Rattle.checking.specs.declared.int_ext.IntExt.TheVariants.{Int, NegativeInf, PositiveInf}
use Rattle.checking.specs.declared.domain.Domain.{Domain}
use Rattle.checking.specs.declared.bound_words.BoundWords.{BoundWords}
use Rattle.std.specs.Prelude.{Ok}
use Rattle.checking.specs.Bounds.{finite}
use Rattle.checking.specs.Domains.{le_ext, lt_ext, domain_of, consistent, Tight, tightened_lower, tightened_upper, applied}
use Rattle.checking.specs.BoundWords.{pair_of, word_of_lower, word_of_upper, words_of, applied_words, consistent_words, bounds_of_task_in_words, HoleFree}
use Rattle.checking.specs.TaskBounds.{two_bounds, bounds_between, bounds_of_task}
use Rattle.checking.proofs.BoundLimits.{same_int}
use Rattle.checking.specs.declared.variable_state.Side.TheVariants.{Lower, Upper}
use Rattle.checking.proofs.NarrowedDomains.{tightened_case, tightened_leaves}

-- Values -----------------------------------------------------------------------------------------------------------------------

-- A value near the limits has a moment, which is neither 0 nor the largest key.
record Inner (z : ℤ) : Type 0 where
  above : Above zero_at z
  positive : 0 < moment zero_at z
  below : moment zero_at z < U32MAX

near_moment : (z : ℤ) → Within (VALUE + 1) z → Inner z
unfolding up dn
near_moment z w =
    let a : Above zero_at z = above_show zero_at z (omega (ints, w.low)) in
    record { above = a; positive = omega (ints, w.low, at_moment zero_at z a); below = omega (ints, w.high, at_moment zero_at z a) }

twice : (z : ℤ) → Inner z → U32MAX - (U32MAX - moment zero_at z) ≡ moment zero_at z
twice z i = omega (arith, i.below)

-- Bounds that an atom moves ----------------------------------------------------------------------------------------------------

module _ (d : Domain) (t : Tight d) (free : HoleFree d) (v : ℤ) where
  -- the bound is there already, or it is v
  raised : (P : Domain → Type 0) → (le_ext (Int v) d.lower_bound ≡ true → P d) → (le_ext (Int v) d.lower_bound ≡ false → P (domain_of (Int v) d.upper_bound []))
      → P (tightened_lower d v)
  unfolding first_at_or_after kept
  raised P f g = tightened_case Lower d v P f (λ n. rw free.none (g n))

  lowered : (P : Domain → Type 0) → (le_ext d.upper_bound (Int v) ≡ true → P d) → (le_ext d.upper_bound (Int v) ≡ false → P (domain_of d.lower_bound (Int v) []))
      → P (tightened_upper d v)
  unfolding last_at_or_before kept
  lowered P f g = tightened_case Upper d v P f (λ n. rw free.none (g n))

  module _ (near : Within (VALUE + 1) v) where
    raised_free : HoleFree (tightened_lower d v)
    raised_free = raised HoleFree (λ _. free) (λ _. record { none = refl; lower = λ u e. subst (Within (VALUE + 1)) (same_int v u e) near; upper = free.upper })

    lowered_free : HoleFree (tightened_upper d v)
    lowered_free = lowered HoleFree (λ _. free) (λ _. record { none = refl; lower = free.lower; upper = λ u e. subst (Within (VALUE + 1)) (same_int v u e) near })

-- the larger word is that of the bound that is kept
lower_word : (b : IntExt) (v : ℤ) → lt_ext b PositiveInf ≡ true → (t : Bool) → le_ext (Int v) b ≡ t → cond t (word_of_lower b) (moment zero_at v) ≡ max (word_of_lower b) (moment zero_at v)
lower_word (Int z) v f true y = let h = mono zero_at v z (omega ints) in omega arith
lower_word (Int z) v f false y = let h = mono zero_at z v (omega ints) in omega arith
lower_word NegativeInf v f true y = clash y refl
lower_word NegativeInf v f false y = omega arith
lower_word PositiveInf v f t y = clash f refl

upper_word_is : (b : IntExt) (v : ℤ) → lt_ext NegativeInf b ≡ true → (t : Bool) → le_ext b (Int v) ≡ t → cond t (word_of_upper b) (U32MAX - moment zero_at v) ≡ max (word_of_upper b) (U32MAX - moment zero_at v)
upper_word_is (Int z) v f true y = let h = mono zero_at z v (omega ints) in omega arith
upper_word_is (Int z) v f false y = let h = mono zero_at v z (omega ints) in omega arith
upper_word_is NegativeInf v f t y = clash f refl
upper_word_is PositiveInf v f true y = clash y refl
upper_word_is PositiveInf v f false y = omega arith

module _ (d : Domain) (t : Tight d) (free : HoleFree d) (v : ℤ) where
  raised_words : words_of (tightened_lower d v) ≡ applied_words (words_of d) 0 v
  raised_words =
      let words : ℕ → BoundWords = λ m. pair_of m (word_of_upper d.upper_bound) in
      let word = lower_word d.lower_bound v t.lower_finite in
      raised d t free v (λ e. words_of e ≡ applied_words (words_of d) 0 v) (λ y. ap words (word true y)) (λ n. ap words (word false n))

  lowered_words : words_of (tightened_upper d v) ≡ applied_words (words_of d) 1 v
  lowered_words =
      let words : ℕ → BoundWords = λ m. pair_of (word_of_lower d.lower_bound) m in
      let word = upper_word_is d.upper_bound v t.upper_finite in
      lowered d t free v (λ e. words_of e ≡ applied_words (words_of d) 1 v) (λ y. ap words (word true y)) (λ n. ap words (word false n))

-- Every atom that makes no hole ------------------------------------------------------------------------------------------------

pub applied_free : (d : Domain) → Tight d → HoleFree d → (k : ℕ) → k < 3 → (v : ℤ) → Within (VALUE + 1) v → HoleFree (applied d k v)
applied_free d t free zero h v near = raised_free d t free v near
applied_free d t free (suc zero) h v near = lowered_free d t free v near
applied_free d t free (suc (suc zero)) h v near = lowered_free (tightened_lower d v) (tightened_leaves Lower d v t).tight (raised_free d t free v near) v near
applied_free d t free (suc (suc (suc k))) h v near = absurd (omega arith)

pub applied_words_are : (d : Domain) → Tight d → HoleFree d → (k : ℕ) → k < 3 → (v : ℤ) → Within (VALUE + 1) v → words_of (applied d k v) ≡ applied_words (words_of d) k v
applied_words_are d t free zero h v near = raised_words d t free v
applied_words_are d t free (suc zero) h v near = lowered_words d t free v
applied_words_are d t free (suc (suc zero)) h v near =
    lowered_words (tightened_lower d v) (tightened_leaves Lower d v t).tight (raised_free d t free v near) v ∙ ap (λ (w : BoundWords). applied_words w 1 v) (raised_words d t free v)
applied_words_are d t free (suc (suc (suc k))) h v near = absurd (omega arith)

-- What the words tell ----------------------------------------------------------------------------------------------------------

-- the bounds have crossed where their words have
pub words_consistent : (d : Domain) → Tight d → HoleFree d → consistent_words (words_of d) ≡ consistent d
words_consistent d t free = by d.lower_bound d.upper_bound t.lower_finite t.upper_finite free.lower free.upper
  where
    two : (a b : ℤ) → Inner a → Inner b → leb (moment zero_at a) (U32MAX - (U32MAX - moment zero_at b)) ≡ le_z a b
    two a b i j = ap (leb (moment zero_at a)) (twice b j) ∙ ⊎_elim
        (λ y. le-leb (moment zero_at a) (moment zero_at b) (mono zero_at a b (omega ints)) ∙ sym y)
        (λ n. lt-leb (moment zero_at a) (moment zero_at b) (mono< zero_at b a j.above i.above (omega ints)) ∙ sym n) (bool (le_z a b))

    by : (l u : IntExt) → lt_ext l PositiveInf ≡ true → lt_ext NegativeInf u ≡ true → ((z : ℤ) → l ≡ Int z → Within (VALUE + 1) z) → ((z : ℤ) → u ≡ Int z → Within (VALUE + 1) z)
        → leb (word_of_lower l) (U32MAX - word_of_upper u) ≡ le_ext l u
    by NegativeInf u p q f g = le-leb 0 (U32MAX - word_of_upper u) (omega arith)
    by PositiveInf u p q f g = clash p refl
    by (Int a) NegativeInf p q f g = clash q refl
    by (Int a) PositiveInf p q f g = le-leb (moment zero_at a) (U32MAX - 0) (omega (arith, (near_moment a (f a refl)).below))
    by (Int a) (Int b) p q f g = two a b (near_moment a (f a refl)) (near_moment b (g b refl))

-- the bounds of a domain are those of its words
pub words_bounds : (d : Domain) → Tight d → HoleFree d → bounds_of_task_in_words (words_of d) ≡ bounds_of_task d
words_bounds d t free = by d.lower_bound d.upper_bound t.upper_finite free.lower free.upper
  where
    by : (l u : IntExt) → lt_ext NegativeInf u ≡ true → ((z : ℤ) → l ≡ Int z → Within (VALUE + 1) z) → ((z : ℤ) → u ≡ Int z → Within (VALUE + 1) z)
        → bounds_of_task_in_words (record { lower = word_of_lower l; upper = word_of_upper u }) ≡ bounds_between (finite (Ok l)) (finite (Ok u))
    by NegativeInf u q f g = refl
    by PositiveInf u q f g = refl
    by (Int a) NegativeInf q f g = clash q refl
    by (Int a) PositiveInf q f g = rw (ne_eqb (moment zero_at a) 0 (omega (arith, (near_moment a (f a refl)).positive))) refl
    by (Int a) (Int b) q f g =
        let i = near_moment a (f a refl) in
        let j = near_moment b (g b refl) in
        rw (ne_eqb (moment zero_at a) 0 (omega (arith, i.positive)), ne_eqb (U32MAX - moment zero_at b) 0 (omega (arith, j.below))) (ap (two_bounds (moment zero_at a)) (twice b j))
