-- What a domain admits: whether it admits a value at all, its least and its greatest value, the atoms that hold of all its values,
-- and that its values determine it.
use mathlib.Core.Path.{◌≡◌, refl, sym, ap, ◌∙◌, subst}
use mathlib.Core.Logic.{◌⊎◌, inl, inr, ⊎_elim}
use mathlib.Core.Bool.{true, false}
use Prim.Native.Nat.{ℕ, zero, suc}
use borrow.Author.Tests.{not-true, not-false}
use lib.IntN.{ℤ, pos}
use lib.Signed.{◌≤ℤ◌, ◌<ℤ◌}
use Rattle.integers.proofs.Bools.{bool, clash, and_true, and_false, or_true, or_false}
use Rattle.integers.proofs.Ints.{ints}
use Rattle.scheduling.specs.Scheduling.{whole, Least, Largest, Compares}
use Rattle.integers.specs.WholeNumbers.{has}
use Rattle.holes.proofs.Ascending.{same_members}
use Rattle.integers.proofs.WholeNumbers.{not_has}
use Rattle.checking.specs.declared.int_ext.IntExt.{IntExt}
use Rattle.checking.specs.declared.int_ext.IntExt.TheVariants.{Int, NegativeInf, PositiveInf}
use Rattle.checking.specs.declared.domain.Domain.{Domain}
use Rattle.checking.specs.Domains.{le_ext, lt_ext, holes_of, domain_of, Admitted, consistent, true_of, Proper}
use Rattle.checking.specs.declared.variable_state.Side.{Side}
use Rattle.checking.specs.declared.variable_state.Side.TheVariants.{Lower, Upper}
use Rattle.checking.specs.States.{side_of}
use Rattle.checking.proofs.Sides.{other, le_on, open_on, open_first, open_last, open_not, Past, on_trans, on_total, on_read, on_same, on_refl, after_on, after_is, near_side, far_side, admitted}
use Rattle.checking.proofs.Sides.{moved_onward, moved_is}
use Rattle.checking.proofs.DomainBounds.{le_trans, lt_to_le, read_le}
use Rattle.checking.proofs.Domains.{whole as whole_domain}

-- crossed bounds admit nothing
pub crossed_none : (d : Domain) → consistent d ≡ false → (z : ℤ) → Admitted d z → ⊥
crossed_none d n z a = clash (le_trans d.lower_bound (Int z) d.upper_bound a.from a.to) n

module _ (d : Domain) (p : Proper d) where
  inside_on : (s : Side) (h : ℤ) → has (holes_of d) h ≡ true → le_on s (Int h) (side_of s d) ≡ false
  inside_on Lower h y = not-true _ (p.tight.inside h y).0
  inside_on Upper h y = not-true _ (p.tight.inside h y).1

  ordered_on : (s : Side) → le_on s (side_of s d) (side_of (other s) d) ≡ true
  ordered_on Lower = p.ordered
  ordered_on Upper = p.ordered

  pub never_is : (s : Side) → side_of s d ≡ open_on (other s) → ⊥
  never_is Lower e = clash (subst (λ (x : IntExt). lt_ext x PositiveInf ≡ true) e p.tight.lower_finite) refl
  never_is Upper e = clash (subst (λ (x : IntExt). lt_ext NegativeInf x ≡ true) e p.tight.upper_finite) refl

  -- a bound is a number, or there is none
  pub bound_is : (s : Side) → ((a : ℤ) × (side_of s d ≡ Int a)) ⊎ (side_of s d ≡ open_on s)
  bound_is s = by s (side_of s d) refl
    where
      by : (s : Side) (b : IntExt) → side_of s d ≡ b → ((a : ℤ) × (side_of s d ≡ Int a)) ⊎ (side_of s d ≡ open_on s)
      by s (Int a) e = inl (a, e)
      by Lower NegativeInf e = inr e
      by Lower PositiveInf e = absurd (never_is Lower e)
      by Upper NegativeInf e = absurd (never_is Upper e)
      by Upper PositiveInf e = inr e

  -- a finite bound is admitted, before all others
  bound_in : (s : Side) (a : ℤ) → side_of s d ≡ Int a → Admitted d a
  bound_in s a e = admitted s d a (rw e (on_refl s a)) (rw e at (ordered_on s)) (not_has (holes_of d) a (λ y. clash (on_refl s a) (rw e at (inside_on s a y))))

  pub bound_first : (s : Side) (a : ℤ) → side_of s d ≡ Int a → (w : ℤ) → Admitted d w → Past s a w
  bound_first s a e w m = on_read s a w (rw e at (near_side s m))

  pub lower_least : (a : ℤ) → d.lower_bound ≡ Int a → Least whole (Admitted d) a
  lower_least a e = record { holds = bound_in Lower a e; bounds = bound_first Lower a e }

  pub upper_largest : (a : ℤ) → d.upper_bound ≡ Int a → Largest whole (Admitted d) a
  upper_largest a e = record { holds = bound_in Upper a e; bounds = bound_first Upper a e }

  -- some value at or after z that the bound of the side allows
  reach : (s : Side) (z : ℤ) → (m : ℤ) × (le_on s (Int z) (Int m) ≡ true) × (le_on s (side_of s d) (Int m) ≡ true)
  reach s z = elim (bool (le_on s (side_of s d) (Int z))) [
    | inl y ↦ (z, on_refl s z, y)
    | inr n ↦ ⊎_elim (λ f. (f.0, rw f.1 at (on_total s (side_of s d) (Int z) n), rw f.1 (on_refl s f.0))) (λ e. clash (open_first s z) (rw e at n)) (bound_is s)
  ]

  -- where the bound of the other side comes after v, so does an admitted value
  after_value : (s : Side) (v : ℤ) → le_on s (side_of (other s) d) (Int v) ≡ false → (z : ℤ) × Admitted d z × (le_on s (Int z) (Int v) ≡ false)
  after_value s v n = ⊎_elim (λ f. (f.0, bound_in (other s) f.0 f.1, rw f.1 at n)) (λ e.
      let (m, l, u) = reach s (after_on s v) in
      let f = moved_is s m (holes_of d) p.tight.order in
      let w : ℤ = moved_onward s m (holes_of d) in
      let fits = admitted s d w (on_trans s (side_of s d) (Int m) (Int w) u f.from) (rw e (open_last s w)) (not_has (holes_of d) w f.free) in
      (w, fits, not-true _ (sym (after_is s v w) ∙ on_trans s (Int (after_on s v)) (Int m) (Int w) l f.from))) (bound_is (other s))

  -- with no lower bound there is a value below each, with no upper bound one above each
  pub lower_none : d.lower_bound ≡ NegativeInf → (z : ℤ) → (w : ℤ) × Admitted d w × (w <ℤ z)
  lower_none e z = let (w, m, n) = after_value Upper z (ap (le_ext (Int z)) e) in (w, m, omega ints)

  pub upper_none : d.upper_bound ≡ PositiveInf → (z : ℤ) → (w : ℤ) × Admitted d w × (z <ℤ w)
  upper_none e z = let (w, m, n) = after_value Lower z (ap (λ (x : IntExt). le_ext x (Int z)) e) in (w, m, omega ints)

  -- some value is admitted
  pub some_value : (z : ℤ) × Admitted d z
  some_value = ⊎_elim (λ f. (f.0, bound_in Lower f.0 f.1)) (λ e. let (w, m, l) = lower_none e (pos 0) in (w, m)) (bound_is Lower)

  -- is_true, both ways
  pub true_all : (k : ℕ) (v : ℤ) → true_of d k v ≡ true → (z : ℤ) → Admitted d z → Compares k v z
  true_all zero v y z a = read_le v z (le_trans (Int v) d.lower_bound (Int z) y a.from)
  true_all (suc zero) v y z a = read_le z v (le_trans (Int z) d.upper_bound (Int v) a.to y)
  true_all (suc (suc zero)) v y z a =
      let (f, g) = and_true _ _ y in
      let l : v ≤ℤ z = true_all zero v f z a in
      let u : z ≤ℤ v = true_all (suc zero) v g z a in
      omega ints
  true_all (suc (suc (suc k))) v y z a = λ e. ⊎_elim
      (λ l. clash (rw e at a.from) (not-true _ l))
      (λ r. ⊎_elim
      (λ u. clash (rw e at a.to) (not-true _ u))
      (λ h. clash h (rw e at a.no_hole))
      (or_true _ _ r))
      (or_true _ _ y)

  pub true_not : (k : ℕ) (v : ℤ) → true_of d k v ≡ false → (z : ℤ) × Admitted d z × (Compares k v z → ⊥)
  true_not zero v n = let (z, a, l) = after_value Upper v n in (z, a, λ h. omega ints)
  true_not (suc zero) v n = let (z, a, l) = after_value Lower v n in (z, a, λ h. omega ints)
  true_not (suc (suc zero)) v n = ⊎_elim
      (λ m. let (z, a, l) = after_value Upper v m in (z, a, λ h. omega ints))
      (λ m. let (z, a, l) = after_value Lower v m in (z, a, λ h. omega ints))
      (and_false _ _ n)
  true_not (suc (suc (suc k))) v n =
      let (l, r) = or_false _ _ n in
      let (u, h) = or_false _ _ r in
      (v, record { from = not-false _ l; to = not-false _ u; no_hole = h }, λ ne. ne refl)

-- ---- one domain for one set of values
module _ (d e : Domain) (p : Proper d) (q : Proper e) (to : (z : ℤ) → Admitted d z → Admitted e z) (of : (z : ℤ) → Admitted e z → Admitted d z) where
  same_side : (s : Side) → side_of (other s) d ≡ side_of (other s) e
  same_side s = by (bound_is d p (other s)) (bound_is e q (other s))
    where
      none : (d e : Domain) → Proper e → ((z : ℤ) → Admitted e z → Admitted d z) → (a : ℤ) → side_of (other s) d ≡ Int a → side_of (other s) e ≡ open_on (other s) → ⊥
      none d e q of a f g =
          let (w, m, n) = after_value e q s a (rw g (open_not s a)) in
          clash (rw f at (far_side s (of w m))) n

      by : ((a : ℤ) × (side_of (other s) d ≡ Int a)) ⊎ (side_of (other s) d ≡ open_on (other s)) → ((a : ℤ) × (side_of (other s) e ≡ Int a)) ⊎ (side_of (other s) e ≡ open_on (other s))
          → side_of (other s) d ≡ side_of (other s) e
      by (inl (a, f)) (inl (b, g)) = f ∙ ap Int (on_same s a b (rw g at (far_side s (to a (bound_in d p (other s) a f)))) (rw f at (far_side s (of b (bound_in e q (other s) b g))))) ∙ sym g
      by (inl (a, f)) (inr g) = absurd (none d e q of a f g)
      by (inr f) (inl (b, g)) = absurd (none e d p to b g f)
      by (inr f) (inr g) = f ∙ sym g

-- a hole of one is a hole of the other
hole_too : (d e : Domain) → Proper d → d.lower_bound ≡ e.lower_bound → d.upper_bound ≡ e.upper_bound → ((z : ℤ) → Admitted e z → Admitted d z)
    → (x : ℤ) → has (holes_of d) x ≡ true → has (holes_of e) x ≡ true
hole_too d e p l u of x y = ⊎_elim (λ h. h)
    (λ n. clash y (of x (record {
      from = rw l at (lt_to_le d.lower_bound (Int x) (p.tight.inside x y).0);
      to = rw u at (lt_to_le (Int x) d.upper_bound (p.tight.inside x y).1);
      no_hole = n;
    })).no_hole) (bool (has (holes_of e) x))

pub same_values : (d e : Domain) → Proper d → Proper e → ((z : ℤ) → Admitted d z → Admitted e z) → ((z : ℤ) → Admitted e z → Admitted d z) → d ≡ e
same_values d e p q to of =
    let l = same_side d e p q to of Upper in
    let u = same_side d e p q to of Lower in
    let h = same_members (holes_of d) (holes_of e) p.tight.order q.tight.order (hole_too d e p l u of) (hole_too e d q (sym l) (sym u) to) in
    sym (whole_domain d p.tight) ∙ (λ i. domain_of (l i) (u i) (h i)) ∙ whole_domain e q.tight
