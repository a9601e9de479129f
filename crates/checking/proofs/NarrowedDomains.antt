-- What an atom makes of a domain: what is admitted afterwards, and that the domain stays in its form.
use mathlib.Core.Path.{◌≡◌, refl, sym, ap, ◌∙◌, subst}
use mathlib.Core.Logic.{⊎_elim}
use mathlib.Core.Bool.{Bool, true, false, not}
use mathlib.Core.List.{List}
use Prim.Native.Nat.{ℕ, zero, suc, ◌≤◌, ◌<◌}
use native.Mathlib.Omega.{arith}
use borrow.Author.Tests.{not-true, not-false, leb-false}
use lib.IntN.{ℤ, negsuc, ◌+ℤ◌}
use lib.ListN.{length}
use lib.Signed.{lt_z}
use Rattle.integers.specs.Limits.{HOLES}
use Rattle.integers.proofs.Bools.{bool, clash, and_true, and_false, and_yes, and_left}
use Rattle.integers.proofs.Ints.{ints}
use Rattle.scheduling.specs.Scheduling.{Compares}
use Rattle.holes.specs.Holes.{Ascending, kept, below, above, inserted, padded}
use Rattle.integers.specs.WholeNumbers.{has}
use Rattle.holes.proofs.Ascending.{kept_in, in_kept, kept_ascends, kept_length, inserted_in, in_inserted, old_inserted, inserted_ascends, inserted_length}
use Rattle.integers.proofs.WholeNumbers.{not_has}
use Rattle.holes.proofs.PaddedArrays.{front}
use Rattle.checking.specs.declared.int_ext.IntExt.{IntExt}
use Rattle.checking.specs.declared.int_ext.IntExt.TheVariants.{Int, NegativeInf, PositiveInf}
use Rattle.checking.specs.declared.domain.Domain.{Domain}
use Rattle.checking.specs.Domains.{le_ext, lt_ext, eq_ext, holes_of, domain_of, Admitted, Tight, tightened_lower, tightened_upper, less_lower, less_upper, between, hole_added, without, crowded}
use Rattle.checking.specs.Domains.{applied, needs_room}
use Rattle.checking.specs.declared.variable_state.Side.{Side}
use Rattle.checking.specs.declared.variable_state.Side.TheVariants.{Lower, Upper}
use Rattle.checking.specs.States.{side_of}
use Rattle.checking.proofs.Sides.{other, le_on, Past, on_trans, on_total, on_read, on_show, on_same, on_refl, off_on, after_on, after_is, near_side, far_side, admitted, moved_onward, Moved, moved_is}
use Rattle.checking.proofs.Choices.{choice}
use Rattle.checking.proofs.DomainBounds.{show_le, show_lt, eq_is}
use Rattle.checking.proofs.Domains.{used, put_again}

-- ---- a domain made of bounds and holes
module _ (lower upper : IntExt) (hs : List ℤ) where
  pub made_tight : lt_ext lower PositiveInf ≡ true → lt_ext NegativeInf upper ≡ true → length hs ≤ HOLES → Ascending hs
      → ((h : ℤ) → has hs h ≡ true → (lt_ext lower (Int h) ≡ true) × (lt_ext (Int h) upper ≡ true)) → Tight (domain_of lower upper hs)
  made_tight p q few asc in_between = record {
    lower_finite = p;
    upper_finite = q;
    few = few;
    unused = ap padded (sym (front hs));
    order = subst Ascending (sym (front hs)) asc;
    inside = subst (λ (l : List ℤ). (h : ℤ) → has l h ≡ true → (lt_ext lower (Int h) ≡ true) × (lt_ext (Int h) upper ≡ true)) (sym (front hs)) in_between;
  }

  pub made_admits : (z : ℤ) → le_ext lower (Int z) ≡ true → le_ext (Int z) upper ≡ true → (has hs z ≡ true → ⊥) → Admitted (domain_of lower upper hs) z
  made_admits z p q n = record { from = p; to = q; no_hole = ap (λ (l : List ℤ). has l z) (front hs) ∙ not_has hs z n }

  pub made_free : (z : ℤ) → Admitted (domain_of lower upper hs) z → has hs z ≡ true → ⊥
  made_free z a y = clash y (ap (λ (l : List ℤ). has l z) (sym (front hs)) ∙ a.no_hole)

-- d' admits, of what d admits, what K allows
pub record Leaves (d d' : Domain) (K : ℤ → Type 0) : Type 0 where
  pub tight : Tight d'
  pub to : (z : ℤ) → Admitted d' z → Admitted d z × K z
  pub of : (z : ℤ) → Admitted d z → K z → Admitted d' z

-- ---- a bound that is tightened, on either side
-- a hole past b
abbrev test_on : Side → ℤ → ℤ → Bool
test_on Lower b h = lt_z b h
test_on Upper b h = lt_z h b

-- the bound moved to b, and the holes past b
abbrev pub cut_on : Side → Domain → ℤ → Domain
cut_on Lower d b = domain_of (Int b) d.upper_bound (above b (holes_of d))
cut_on Upper d b = domain_of d.lower_bound (Int b) (below b (holes_of d))

abbrev pub tightened_on : Side → Domain → ℤ → Domain
tightened_on Lower d v = tightened_lower d v
tightened_on Upper d v = tightened_upper d v

pub tightened_case : (s : Side) (d : Domain) (v : ℤ) (P : Domain → Type 0) → (le_on s (Int v) (side_of s d) ≡ true → P d)
    → (le_on s (Int v) (side_of s d) ≡ false → P (cut_on s d (moved_onward s v (holes_of d)))) → P (tightened_on s d v)
unfolding tightened_lower tightened_upper
tightened_case Lower d v P f g = choice P (le_ext (Int v) d.lower_bound) f g
tightened_case Upper d v P f g = choice P (le_ext d.upper_bound (Int v)) f g

test_not : (s : Side) (b h : ℤ) → test_on s b h ≡ false → le_on s (Int h) (Int b) ≡ true
test_not Lower b h n = show_le h b (omega ints)
test_not Upper b h n = show_le b h (omega ints)

cut_near : (s : Side) (d : Domain) (b : ℤ) → side_of s (cut_on s d b) ≡ Int b
cut_near Lower d b = refl
cut_near Upper d b = refl

cut_tight : (s : Side) (d : Domain) (b : ℤ) → Tight d → Tight (cut_on s d b)
cut_tight Lower d b t = made_tight (Int b) d.upper_bound (above b (holes_of d)) refl t.upper_finite (omega (arith, kept_length (λ h. lt_z b h) (holes_of d), used d t, t.few))
    (kept_ascends (λ h. lt_z b h) (holes_of d) t.order) (λ h m. let k = kept_in (λ x. lt_z b x) (holes_of d) h m in (show_lt b h (omega ints), (t.inside h k.0).1))
cut_tight Upper d b t = made_tight d.lower_bound (Int b) (below b (holes_of d)) t.lower_finite refl (omega (arith, kept_length (λ h. lt_z h b) (holes_of d), used d t, t.few))
    (kept_ascends (λ h. lt_z h b) (holes_of d) t.order) (λ h m. let k = kept_in (λ x. lt_z x b) (holes_of d) h m in ((t.inside h k.0).0, show_lt h b (omega ints)))

-- what it then admits, both ways
from_cut : (s : Side) (d : Domain) (b z : ℤ) → Admitted (cut_on s d b) z
    → (le_on s (Int b) (Int z) ≡ true) × (le_on s (Int z) (side_of (other s) d) ≡ true) × (has (kept (test_on s b) (holes_of d)) z ≡ true → ⊥)
from_cut Lower d b z a = (a.from, a.to, made_free (Int b) d.upper_bound (above b (holes_of d)) z a)
from_cut Upper d b z a = (a.to, a.from, made_free d.lower_bound (Int b) (below b (holes_of d)) z a)

to_cut : (s : Side) (d : Domain) (b z : ℤ) → le_on s (Int b) (Int z) ≡ true → le_on s (Int z) (side_of (other s) d) ≡ true → (has (kept (test_on s b) (holes_of d)) z ≡ true → ⊥) → Admitted (cut_on s d b) z
to_cut Lower d b z p q n = made_admits (Int b) d.upper_bound (above b (holes_of d)) z p q n
to_cut Upper d b z p q n = made_admits d.lower_bound (Int b) (below b (holes_of d)) z q p n

module _ (s : Side) (d : Domain) (v : ℤ) (t : Tight d) where
  abbrev hs : List ℤ
  hs = holes_of d

  abbrev b : ℤ
  b = moved_onward s v (holes_of d)

  moved : Moved s v hs b
  moved = moved_is s v hs t.order

  reaches : le_on s (Int v) (side_of s (tightened_on s d v)) ≡ true
  reaches = tightened_case s d v (λ e. le_on s (Int v) (side_of s e) ≡ true) (λ y. y) (λ _. rw (cut_near s d b) moved.from)

  pub tightened_leaves : Leaves d (tightened_on s d v) (Past s v)
  tightened_leaves = tightened_case s d v (λ e. Leaves d e (Past s v))
      (λ y. record { tight = t; to = λ z a. (a, on_read s v z (on_trans s (Int v) (side_of s d) (Int z) y (near_side s a))); of = λ z a _. a })
      (λ n. record {
        tight = cut_tight s d b t;
        to = λ z a.
            let (p, q, free) = from_cut s d b z a in
            let g = on_trans s (Int v) (Int b) (Int z) moved.from p in (
              admitted s d z (on_trans s (side_of s d) (Int v) (Int z) (on_total s (Int v) (side_of s d) n) g) q
                  (not_has hs z (λ y. ⊎_elim (λ k. free (in_kept (test_on s b) hs z y k))
                  (λ k. moved.free (subst (λ (x : ℤ). has hs x ≡ true) (on_same s z b (test_not s b z k) p) y)) (bool (test_on s b z)))),
              on_read s v z g,
            );
        of = λ z a h. to_cut s d b z (⊎_elim (λ k. k) (λ k. clash (moved.passed z (on_show s v z h) k) a.no_hole) (bool (le_on s (Int b) (Int z)))) (far_side s a)
            (λ y. clash (kept_in (test_on s b) hs z y).0 a.no_hole);
      })

-- ---- a value taken out
-- d' admits what d admits, with or without v
pub record Cut (d d' : Domain) (v : ℤ) : Type 0 where
  pub tight : Tight d'
  pub to : (z : ℤ) → Admitted d' z → Admitted d z
  pub of : (z : ℤ) → Admitted d z → (z ≡ v → ⊥) → Admitted d' z

cut_none : (d : Domain) (v : ℤ) → Tight d → Cut d d v
cut_none d v t = record { tight = t; to = λ z a. a; of = λ z a _. a }

abbrev pub without_on : Side → Domain → ℤ → Domain
without_on Lower d v = less_lower d v
without_on Upper d v = less_upper d v

pub without_case : (s : Side) (d : Domain) (v : ℤ) (P : Domain → Type 0) → (side_of s d ≡ Int v → P (tightened_on s d (after_on s v))) → (eq_ext (side_of s d) (Int v) ≡ false → P d)
    → P (without_on s d v)
unfolding less_lower less_upper
without_case Lower d v P f g = choice P (eq_ext d.lower_bound (Int v)) (λ y. f (eq_is d.lower_bound v y)) g
without_case Upper d v P f g = choice P (eq_ext d.upper_bound (Int v)) (λ y. f (eq_is d.upper_bound v y)) g

module _ (s : Side) (d : Domain) (v : ℤ) (t : Tight d) where
  -- past v, the bound does not come before v
  past : le_on s (side_of s (tightened_on s d (after_on s v))) (Int v) ≡ false
  past = ⊎_elim (λ y. clash (on_trans s (Int (after_on s v)) _ (Int v) (reaches s d (after_on s v) t) y) (after_is s v v ∙ ap not (on_refl s v))) (λ n. n) (bool _)

  pub side_cut : Cut d (without_on s d v) v
  side_cut = without_case s d v (λ e. Cut d e v)
      (λ q. let l = tightened_leaves s d (after_on s v) t in record {
        tight = l.tight;
        to = λ z a. (l.to z a).0;
        of = λ z a n. l.of z a (on_read s (after_on s v) z (after_is s v z ∙ ⊎_elim
            (λ y. absurd (n (on_same s z v y (rw q at (near_side s a))))) (λ y. ap not y) (bool (le_on s (Int z) (Int v)))));
      })
      (λ _. cut_none d v t)

  -- afterwards the bound is not v
  side_off : eq_ext (side_of s (without_on s d v)) (Int v) ≡ false
  side_off = without_case s d v (λ e. eq_ext (side_of s e) (Int v) ≡ false) (λ _. off_on s _ (Int v) past) (λ n. n)

  -- where v stays inside, nothing has moved
  side_same : le_on s (Int v) (side_of s (without_on s d v)) ≡ false → without_on s d v ≡ d
  side_same = without_case s d v (λ e. le_on s (Int v) (side_of s e) ≡ false → e ≡ d) (λ _ y. clash (on_total s (Int v) _ y) past) (λ _ _. refl)

upper_keeps : (d : Domain) (v : ℤ) → (less_upper d v).lower_bound ≡ d.lower_bound
upper_keeps d v = without_case Upper d v (λ e. e.lower_bound ≡ d.lower_bound)
    (λ _. tightened_case Upper d (v +ℤ negsuc 0) (λ e. e.lower_bound ≡ d.lower_bound) (λ _. refl) (λ _. refl)) (λ _. refl)

module _ (d : Domain) (v : ℤ) (t : Tight d) where
  -- a hole put in
  pub hole_cut : crowded d v ≡ false → Cut d (hole_added d v) v
  unfolding hole_added crowded
  hole_cut room = choice (λ e. Cut d e v) (between d v)
      (λ e. ⊎_elim (λ y. rw (put_again d t v y) (cut_none d v t)) (λ n. new e n) (bool (has (holes_of d) v))) (λ _. cut_none d v t)
    where
      new : between d v ≡ true → (has (holes_of d) v ≡ false) → Cut d (domain_of d.lower_bound d.upper_bound (inserted v (holes_of d))) v
      new e n =
          let small : d.count < HOLES = leb-false HOLES d.count (rw (e, n) at room) in
          let free : has (holes_of d) v ≡ true → ⊥ = λ y. clash y n in
          let (p, q) = and_true (lt_ext d.lower_bound (Int v)) (lt_ext (Int v) d.upper_bound) e in
          record {
            tight = made_tight d.lower_bound d.upper_bound (inserted v (holes_of d)) t.lower_finite t.upper_finite
                (omega (arith, inserted_length v (holes_of d) t.order free, used d t)) (inserted_ascends v (holes_of d) t.order)
                (λ h m. ⊎_elim (λ k. (rw k at p, rw k at q)) (λ k. t.inside h k)
                (inserted_in v (holes_of d) h m));
            to = λ z a. record {
              from = a.from;
              to = a.to;
              no_hole = not_has (holes_of d) z (λ y. made_free d.lower_bound d.upper_bound (inserted v (holes_of d)) z a (old_inserted v (holes_of d) z y));
            };
            of = λ z a ne. made_admits d.lower_bound d.upper_bound (inserted v (holes_of d)) z a.from a.to
                (λ y. ⊎_elim (λ k. ne (sym k)) (λ k. clash k a.no_hole) (inserted_in v (holes_of d) z y));
          }

  -- v is out where it was no bound
  pub hole_out : eq_ext d.lower_bound (Int v) ≡ false → eq_ext d.upper_bound (Int v) ≡ false → Admitted (hole_added d v) v → ⊥
  unfolding hole_added
  hole_out p q = choice (λ e. Admitted e v → ⊥) (between d v)
      (λ _ a. made_free d.lower_bound d.upper_bound (inserted v (holes_of d)) v a (in_inserted v (holes_of d)))
      (λ e a. ⊎_elim
      (λ n. clash (and_yes (le_ext d.lower_bound (Int v)) (le_ext (Int v) d.lower_bound) a.from (not-false _ n)) p)
      (λ n. clash (and_yes (le_ext d.upper_bound (Int v)) (le_ext (Int v) d.upper_bound) (not-false _ n) a.to) q)
      (and_false _ _ e))

-- ---- the atom ≠ v
module _ (d : Domain) (v : ℤ) (t : Tight d) where
  abbrev d₁ : Domain
  d₁ = less_lower d v

  t₁ : Tight d₁
  t₁ = (side_cut Lower d v t).tight

  abbrev d₂ : Domain
  d₂ = less_upper d₁ v

  pub still_room : crowded d v ≡ false → crowded (less_upper (less_lower d v) v) v ≡ false
  unfolding crowded
  still_room room = ⊎_elim
      (λ y. let (p, q) = and_true _ _ y in
      let e : d₁ ≡ d = side_same Lower d v t (not-true _ (subst (λ (x : IntExt). lt_ext x (Int v) ≡ true) (upper_keeps d₁ v) p)) in
      rw (side_same Upper d₁ v t₁ (not-true _ q) ∙ e) room)
      (λ n. and_left (between d₂ v) _ n) (bool (between d₂ v))

  pub without_cut : crowded d v ≡ false → Cut d (without d v) v
  unfolding without
  without_cut room =
      let p = side_cut Lower d v t in
      let q = side_cut Upper d₁ v t₁ in
      let r = hole_cut d₂ v q.tight (still_room room) in
      record { tight = r.tight; to = λ z a. p.to z (q.to z (r.to z a)); of = λ z a n. r.of z (q.of z (p.of z a n) n) n }

  pub without_out : Admitted (without d v) v → ⊥
  unfolding without
  without_out =
      hole_out d₂ v (side_cut Upper d₁ v t₁).tight (rw (upper_keeps d₁ v) (side_off Lower d v t)) (side_off Upper d₁ v t₁)

-- ---- every kind of atom
pub applied_leaves : (d : Domain) (k : ℕ) (v : ℤ) → Tight d → needs_room d k v ≡ false → Leaves d (applied d k v) (Compares k v)
applied_leaves d zero v t room = tightened_leaves Lower d v t
applied_leaves d (suc zero) v t room = tightened_leaves Upper d v t
applied_leaves d (suc (suc zero)) v t room =
    let p = tightened_leaves Lower d v t in
    let q = tightened_leaves Upper (tightened_lower d v) v p.tight in
    record { tight = q.tight; to = λ z a. let (b, u) = q.to z a in let (c, l) = p.to z b in (c, omega ints); of = λ z a e. q.of z (p.of z a (omega ints)) (omega ints) }
applied_leaves d (suc (suc (suc k))) v t room =
    let c = without_cut d v t room in
    record { tight = c.tight; to = λ z a. (c.to z a, λ e. without_out d v t (subst (Admitted (without d v)) e a)); of = c.of }
