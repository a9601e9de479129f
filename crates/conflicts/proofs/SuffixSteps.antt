-- The walk to the longest suffix with a given est + p: one place more, where it stops, and what it leaves there.
use mathlib.Core.Path.{◌≡◌, sym, ap, ◌∙◌}
use mathlib.Core.Bool.{true, false}
use mathlib.Core.Logic.{inl, inr}
use Prim.Native.Nat.{ℕ, zero, suc, ◌+◌, ◌-◌, ◌≤◌, ◌<◌}
use native.Mathlib.Omega.{arith}
use native.Mathlib.Decide.{ℕ_discrete}
use lib.Dec.{leb}
use lib.ListN.{get_or}
use borrow.Author.Tests.{eq-eqb, eqb-true, le-leb}
use Rattle.integers.specs.Orders.{index}
use Rattle.integers.proofs.Bools.{bool, clash, and_true, and_yes, and_is}
use Rattle.scheduling.specs.Scheduling.{natural, Tasks, TaskSet, In, Est, processing}
use Rattle.scheduling.specs.Ects.{by_earliest}
use Rattle.scheduling.proofs.Ects.{by_earliest_is}
use Rattle.scheduling.proofs.Suffixes.{onward_in, onward_early, onward_est}
use Rattle.scheduling.proofs.Suffixes as suffixes
use Rattle.conflicts.specs.Suffixes.{onward, reaches_at, first_place, suffix_up_to}

module _ (J : Tasks natural) (Ω : TaskSet) where
  abbrev n : ℕ
  n = J.count

  abbrev T : ℕ → ℕ
  T x = get_or (by_earliest J) x 0

  abbrev rank : ℕ → ℕ
  rank k = index (by_earliest J) k

  -- The set ------------------------------------------------------------------------------------------------------------------

  pub onward_all : (k : ℕ) → onward J Ω 0 k ≡ Ω k
  onward_all k = and_is (leb 0 (rank k)) (Ω k) (le-leb 0 (rank k) (omega arith))

  -- its first task is that of place x
  pub onward_first : (x : ℕ) → x < n → onward J Ω x (T x) ≡ Ω (T x)
  onward_first x q = and_is (leb x (rank (T x))) (Ω (T x)) (le-leb x (rank (T x)) (omega (arith, (by_earliest_is J).back x q)))

  pub onward_gone : (x : ℕ) → x < n → onward J Ω (suc x) (T x) ≡ false
  onward_gone x q = onward_early J T rank (by_earliest_is J) Ω (suc x) (T x) (omega (arith, (by_earliest_is J).back x q))

  -- the other tasks stay
  pub onward_stays : (x k : ℕ) → k < n → (k ≡ T x → ⊥) → onward J Ω (suc x) k ≡ onward J Ω x k
  onward_stays x k q ne = sym (suffixes.onward_stays J T rank (by_earliest_is J) Ω x k q ne)

  -- all stay where that task is not in the set
  pub onward_skip : (x k : ℕ) → x < n → k < n → Ω (T x) ≡ false → onward J Ω (suc x) k ≡ onward J Ω x k
  onward_skip x k p q y = elim (ℕ_discrete k (T x)) [
    | yes z ↦ rw z (onward_gone x p ∙ sym (onward_first x p ∙ y))
    | no z ↦ onward_stays x k q z
  ]

  pub sum_skip : (x : ℕ) → x < n → Ω (T x) ≡ false → processing J (onward J Ω (suc x)) ≡ processing J (onward J Ω x)
  sum_skip x p y = sym (suffixes.sum_skip J T rank (by_earliest_is J) Ω x p y)

  pub sum_less : (x : ℕ) → x < n → Ω (T x) ≡ true → processing J (onward J Ω x) ≡ processing J (onward J Ω (suc x)) + J.duration (T x)
  sum_less = suffixes.sum_less J T rank (by_earliest_is J) Ω

  -- The walk -----------------------------------------------------------------------------------------------------------------

  module _ (t : ℕ) where
    here : (x d : ℕ) → reaches_at J Ω t x ≡ true → first_place J Ω t x (suc d) ≡ x
    unfolding first_place
    here x d y = rw (y, first_place)

    next : (x d : ℕ) → reaches_at J Ω t x ≡ false → first_place J Ω t x (suc d) ≡ first_place J Ω t (suc x) d
    unfolding first_place
    next x d y = rw (y, first_place)

    -- the same of n places in all
    pub stops_here : (x : ℕ) → x < n → reaches_at J Ω t x ≡ true → first_place J Ω t x (n - x) ≡ x
    stops_here x q y = let z : n - x ≡ suc (n - suc x) = omega arith in ap (first_place J Ω t x) z ∙ here x (n - suc x) y

    pub goes_on : (x : ℕ) → x < n → reaches_at J Ω t x ≡ false → first_place J Ω t x (n - x) ≡ first_place J Ω t (suc x) (n - suc x)
    goes_on x q y = let z : n - x ≡ suc (n - suc x) = omega arith in ap (first_place J Ω t x) z ∙ next x (n - suc x) y

    pub runs_out : first_place J Ω t n (n - n) ≡ n
    unfolding first_place
    runs_out = let z : n - n ≡ 0 = omega arith in ap (first_place J Ω t n) z

    -- it stops where some place reaches t
    record Stops (x : ℕ) : Type 0 where
      small : x < n
      reaches : reaches_at J Ω t x ≡ true

    stops : (d x y : ℕ) → x + d ≡ n → x ≤ y → Stops y → Stops (first_place J Ω t x d)
    stops zero x y e q s = absurd (omega (arith, s.small))
    stops (suc d) x y e q s = elim (bool (reaches_at J Ω t x)) [
      | inl r ↦ rw (here x d r) (record { small = omega (arith, s.small); reaches = r })
      | inr r ↦ rw (next x d r) (stops d (suc x) y (omega arith) (elim (ℕ_discrete x y) [ yes z ↦ clash s.reaches (ap (reaches_at J Ω t) (sym z) ∙ r) | no z ↦ omega arith ]) s)
    ]

    -- The suffix then has tasks of Ω alone, and its est + p is t.
    pub record Suffix : Type 0 where
      pub within : (k : ℕ) → suffix_up_to J Ω t k ≡ true → Ω k ≡ true
      pub first : ℕ
      pub member : In J (suffix_up_to J Ω t) first
      pub est : Est J (suffix_up_to J Ω t) (J.earliest first)
      pub sum : J.earliest first + processing J (suffix_up_to J Ω t) ≡ t

    pub suffix : (y : ℕ) → y < n → Ω (T y) ≡ true → J.earliest (T y) + processing J (onward J Ω y) ≡ t → Suffix
    suffix y q m e =
        let s = stops n 0 y (omega arith) (omega arith) (record { small = q; reaches = and_yes (Ω (T y)) _ m (eq-eqb _ _ e) }) in
        let x : ℕ = first_place J Ω t 0 n in
        let (here, there) = and_true (Ω (T x)) _ s.reaches in
        record {
          within = λ k h. (onward_in J T rank (by_earliest_is J) Ω x k h).1;
          first = T x;
          member = suffixes.onward_first J T rank (by_earliest_is J) Ω x s.small here;
          est = onward_est J T rank (by_earliest_is J) Ω x s.small here;
          sum = eqb-true _ _ there;
        }
