-- Ascending lists of holes: membership, the parts below and above a value, the place of a value, bounds that move past holes.
use mathlib.Core.Path.{◌≡◌, refl, sym, ap, ◌∙◌, subst}
use mathlib.Core.Logic.{◌⊎◌, inl, inr, ⊎_elim}
use mathlib.Core.Bool.{Bool, true, false, cond}
use mathlib.Core.List.{List, [], ◌∷◌, ◌++◌}
use Prim.Native.Nat.{ℕ, zero, suc, ◌+◌, ◌≤◌, ◌<◌}
use native.Mathlib.Omega.{arith}
use native.Mathlib.Numerals.{add-one}
use lib.IntN.{ℤ, pos, negsuc, ◌+ℤ◌}
use lib.ListN.{length, get_or, take, drop}
use lib.Seq.{drop-cons}
use lib.Signed.{le_z, lt_z, ◌<ℤ◌}
use Rattle.integers.proofs.Bools.{bool, clash}
use Rattle.integers.proofs.Ints.{ints, up, dn, sumℤ, le_le_z}
use Rattle.holes.specs.Holes.{Ascending, kept, below, above, inserted, rank, step_upward, step_downward, first_at_or_after, last_at_or_before, First, Last}
use Rattle.integers.specs.WholeNumbers.{eq_z, has}
use Rattle.integers.proofs.WholeNumbers.{lt_le_z, lt_lt_z, le_lt_z, eq_z_same, eq_z_other, has_head, has_tail, has_cases, has_none}

-- ---- walks over the holes, from the front and from the back
pub up_on : (l : List ℤ) (i : ℕ) (b : ℤ) → i < length l → first_at_or_after b (drop i l) ≡ first_at_or_after (step_upward (get_or l i (pos 0)) b) (drop (i + 1) l)
unfolding first_at_or_after
up_on l i b h = rw add-one (ap (first_at_or_after b) (drop-cons l i (pos 0) h))

pub down_on : (l : List ℤ) (h b : ℤ) → last_at_or_before b (l ++ h ∷ []) ≡ last_at_or_before (step_downward h b) l
unfolding last_at_or_before
down_on [] h b = refl
down_on (g ∷ l) h b = ap (step_downward g) (down_on l h b)

pub has_append : (a b : List ℤ) (x : ℤ) → has (a ++ b) x ≡ true → (has a x ≡ true) ⊎ (has b x ≡ true)
has_append [] b x y = inr y
has_append (h ∷ a) b x y =
    ⊎_elim (λ e. inl (subst (λ (z : ℤ). has (h ∷ a) z ≡ true) e (has_head h a)))
    (λ t. ⊎_elim (λ l. inl (has_tail h a x l)) (λ r. inr r) (has_append a b x t)) (has_cases h (a ++ b) x y)

pub has_left : (a b : List ℤ) (x : ℤ) → has a x ≡ true → has (a ++ b) x ≡ true
has_left [] b x y = absurd (has_none x y)
has_left (h ∷ a) b x y =
    ⊎_elim (λ e. subst (λ (z : ℤ). has (h ∷ a ++ b) z ≡ true) e (has_head h (a ++ b)))
    (λ t. has_tail h (a ++ b) x (has_left a b x t)) (has_cases h a x y)

pub has_right : (a b : List ℤ) (x : ℤ) → has b x ≡ true → has (a ++ b) x ≡ true
has_right [] b x y = y
has_right (h ∷ a) b x y = has_tail h (a ++ b) x (has_right a b x y)

-- ---- the part that a test keeps
module _ (p : ℤ → Bool) where
  kept_yes : (h : ℤ) (hs : List ℤ) → p h ≡ true → kept p (h ∷ hs) ≡ h ∷ kept p hs
  unfolding kept
  kept_yes h hs y = rw y

  kept_no : (h : ℤ) (hs : List ℤ) → p h ≡ false → kept p (h ∷ hs) ≡ kept p hs
  unfolding kept
  kept_no h hs y = rw y

  pub kept_in : (hs : List ℤ) (x : ℤ) → has (kept p hs) x ≡ true → (has hs x ≡ true) × (p x ≡ true)
  unfolding kept
  kept_in [] x y = absurd (has_none x y)
  kept_in (h ∷ hs) x y = ⊎_elim
      (λ k. ⊎_elim (λ e. (subst (λ (z : ℤ). has (h ∷ hs) z ≡ true) e (has_head h hs), subst (λ (z : ℤ). p z ≡ true) e k))
      (λ t. let r = kept_in hs x t in (has_tail h hs x r.0, r.1)) (has_cases h (kept p hs) x (subst (λ (l : List ℤ). has l x ≡ true) (kept_yes h hs k) y)))
      (λ k. let r = kept_in hs x (subst (λ (l : List ℤ). has l x ≡ true) (kept_no h hs k) y) in (has_tail h hs x r.0, r.1)) (bool (p h))

  pub in_kept : (hs : List ℤ) (x : ℤ) → has hs x ≡ true → p x ≡ true → has (kept p hs) x ≡ true
  in_kept [] x y q = absurd (has_none x y)
  in_kept (h ∷ hs) x y q = ⊎_elim
      (λ k. rw (kept_yes h hs k) (⊎_elim (λ e. subst (λ (z : ℤ). has (h ∷ kept p hs) z ≡ true) e (has_head h (kept p hs))) (λ t. has_tail h (kept p hs) x (in_kept hs x t q)) (has_cases h hs x y)))
      (λ k. rw (kept_no h hs k) (⊎_elim (λ e. clash (subst (λ (z : ℤ). p z ≡ true) (sym e) q) k) (λ t. in_kept hs x t q) (has_cases h hs x y))) (bool (p h))

  pub kept_ascends : (hs : List ℤ) → Ascending hs → Ascending (kept p hs)
  unfolding kept
  kept_ascends [] a = tt
  kept_ascends (h ∷ hs) a = ⊎_elim (λ k. rw (kept_yes h hs k) (λ x y. a.0 x (kept_in hs x y).0, kept_ascends hs a.1)) (λ k. rw (kept_no h hs k) (kept_ascends hs a.1)) (bool (p h))

  pub kept_length : (hs : List ℤ) → length (kept p hs) ≤ length hs
  unfolding kept
  kept_length [] = omega arith
  kept_length (h ∷ hs) = ⊎_elim (λ k. rw (kept_yes h hs k) (omega (arith, kept_length hs))) (λ k. rw (kept_no h hs k) (omega (arith, kept_length hs))) (bool (p h))

  pub kept_none : (hs : List ℤ) → ((x : ℤ) → has hs x ≡ true → p x ≡ false) → kept p hs ≡ []
  unfolding kept
  kept_none [] n = refl
  kept_none (h ∷ hs) n = kept_no h hs (n h (has_head h hs)) ∙ kept_none hs (λ x y. n x (has_tail h hs x y))

  pub kept_all : (hs : List ℤ) → ((x : ℤ) → has hs x ≡ true → p x ≡ true) → kept p hs ≡ hs
  unfolding kept
  kept_all [] n = refl
  kept_all (h ∷ hs) n = kept_yes h hs (n h (has_head h hs)) ∙ ap (λ (l : List ℤ). h ∷ l) (kept_all hs (λ x y. n x (has_tail h hs x y)))

-- ---- the place of a value
pub rank_le : (x : ℤ) (hs : List ℤ) → rank x hs ≤ length hs
unfolding rank
rank_le x [] = omega arith
rank_le x (h ∷ hs) = ⊎_elim (λ y. rw y (omega arith)) (λ y. rw y (omega (arith, rank_le x hs))) (bool (le_z x h))

pub take_rank : (x : ℤ) (hs : List ℤ) → Ascending hs → take (rank x hs) hs ≡ below x hs
unfolding rank kept
take_rank x [] a = refl
take_rank x (h ∷ hs) a = ⊎_elim
    (λ y. rw y (sym (kept_none (λ g. lt_z g x) (h ∷ hs) (λ z m. le_lt_z z x (⊎_elim (λ e. omega ints) (λ t. omega (ints, a.0 z t)) (has_cases h hs z m))))))
    (λ y. rw y (ap (λ (l : List ℤ). h ∷ l) (take_rank x hs a.1) ∙ sym (kept_yes (λ g. lt_z g x) h hs (lt_lt_z h x (omega ints))))) (bool (le_z x h))

pub drop_rank : (x : ℤ) (hs : List ℤ) → Ascending hs → (has hs x ≡ true → ⊥) → drop (rank x hs) hs ≡ above x hs
unfolding rank kept
drop_rank x [] a n = refl
drop_rank x (h ∷ hs) a n = ⊎_elim
    (λ y. rw y (let l : x <ℤ h = strict y (λ e. n (subst (λ (z : ℤ). has (h ∷ hs) z ≡ true) e (has_head h hs))) in
    sym (kept_all (λ g. lt_z x g) (h ∷ hs) (λ z m. lt_lt_z x z (⊎_elim (λ e. omega ints) (λ t. omega (ints, a.0 z t)) (has_cases h hs z m))))))
    (λ y. rw y (drop_rank x hs a.1 (λ t. n (has_tail h hs x t)) ∙ sym (kept_no (λ g. lt_z x g) h hs (le_lt_z x h (omega ints))))) (bool (le_z x h))
  where
    strict : le_z x h ≡ true → (h ≡ x → ⊥) → x <ℤ h
    strict y ne = ⊎_elim (λ e. absurd (ne (eq_z_same h x e))) (λ f. ⊎_elim (λ p. absurd (ne (omega ints))) (λ q. omega ints) (bool (le_z h x))) (bool (eq_z h x))

pub has_at : (hs : List ℤ) (i : ℕ) (x : ℤ) → i < length hs → get_or hs i (pos 0) ≡ x → has hs x ≡ true
has_at [] i x h e = absurd (omega arith)
has_at (h ∷ hs) zero x l e = subst (λ (z : ℤ). has (h ∷ hs) z ≡ true) e (has_head h hs)
has_at (h ∷ hs) (suc i) x l e = has_tail h hs x (has_at hs i x (omega arith) e)

pub at_rank : (x : ℤ) (hs : List ℤ) → Ascending hs → has hs x ≡ true → (rank x hs < length hs) × (get_or hs (rank x hs) (pos 0) ≡ x)
unfolding rank
at_rank x [] a y = absurd (has_none x y)
at_rank x (h ∷ hs) a y = ⊎_elim
    (λ (e : h ≡ x). let t : le_z x h ≡ true = le_le_z x h (omega ints) in rw t (omega arith, e))
    (λ t. let r = at_rank x hs a.1 t in let f : le_z x h ≡ false = lt_le_z x h (omega (ints, a.0 x t)) in rw f (omega arith, r.1)) (has_cases h hs x y)

-- ---- a value put in
pub inserted_at : (x : ℤ) (hs : List ℤ) → Ascending hs → (has hs x ≡ true → ⊥) → inserted x hs ≡ take (rank x hs) hs ++ x ∷ drop (rank x hs) hs
unfolding inserted
inserted_at x hs a n = rw (take_rank x hs a, drop_rank x hs a n)

pub inserted_in : (v : ℤ) (hs : List ℤ) (x : ℤ) → has (inserted v hs) x ≡ true → (v ≡ x) ⊎ (has hs x ≡ true)
unfolding inserted
inserted_in v hs x y = ⊎_elim (λ l. inr (kept_in (λ h. lt_z h v) hs x l).0)
    (λ r. ⊎_elim (λ e. inl e) (λ t. inr (kept_in (λ h. lt_z v h) hs x t).0) (has_cases v (above v hs) x r)) (has_append (below v hs) (v ∷ above v hs) x y)

pub in_inserted : (v : ℤ) (hs : List ℤ) → has (inserted v hs) v ≡ true
unfolding inserted
in_inserted v hs = has_right (below v hs) (v ∷ above v hs) v (has_head v (above v hs))

pub old_inserted : (v : ℤ) (hs : List ℤ) (x : ℤ) → has hs x ≡ true → has (inserted v hs) x ≡ true
unfolding inserted
old_inserted v hs x y = ⊎_elim
    (λ l. has_left (below v hs) (v ∷ above v hs) x (in_kept (λ h. lt_z h v) hs x y l))
    (λ l. has_right (below v hs) (v ∷ above v hs) x (⊎_elim
    (λ g. has_tail v (above v hs) x (in_kept (λ h. lt_z v h) hs x y g))
    (λ g. let e : v ≡ x = omega ints in subst (λ (z : ℤ). has (v ∷ above v hs) z ≡ true) e (has_head v (above v hs))) (bool (lt_z v x)))) (bool (lt_z x v))

append_ascends : (a b : List ℤ) → Ascending a → Ascending b → ((x y : ℤ) → has a x ≡ true → has b y ≡ true → x <ℤ y) → Ascending (a ++ b)
append_ascends [] b p q o = q
append_ascends (h ∷ a) b p q o =
    (λ x y. ⊎_elim (λ l. p.0 x l) (λ r. o h x (has_head h a) r) (has_append a b x y), append_ascends a b p.1 q (λ x y l r. o x y (has_tail h a x l) r))

pub inserted_ascends : (v : ℤ) (hs : List ℤ) → Ascending hs → Ascending (inserted v hs)
unfolding inserted
inserted_ascends v hs a = append_ascends (below v hs) (v ∷ above v hs) (kept_ascends (λ h. lt_z h v) hs a)
    (λ x y. omega (ints, (kept_in (λ h. lt_z v h) hs x y).1), kept_ascends (λ h. lt_z v h) hs a)
    (λ x y l r. let p = (kept_in (λ h. lt_z h v) hs x l).1 in ⊎_elim (λ e. omega ints) (λ t. omega (ints, (kept_in (λ h. lt_z v h) hs y t).1)) (has_cases v (above v hs) y r))

pub inserted_length : (v : ℤ) (hs : List ℤ) → Ascending hs → (has hs v ≡ true → ⊥) → length (inserted v hs) ≡ length hs + 1
inserted_length v hs a n = ap length (inserted_at v hs a n) ∙ size hs (rank v hs) (rank_le v hs)
  where
    size : (l : List ℤ) (p : ℕ) → p ≤ length l → length (take p l ++ v ∷ drop p l) ≡ length l + 1
    size [] zero h = refl
    size [] (suc p) h = absurd (omega arith)
    size (x ∷ l) zero h = omega arith
    size (x ∷ l) (suc p) h = omega (arith, size l p (omega arith))

-- ---- bounds that move past holes
pub first_is : (b : ℤ) (hs : List ℤ) → Ascending hs → First b hs (first_at_or_after b hs)
unfolding first_at_or_after up dn
first_is b [] a = record { from = omega ints; free = has_none b; passed = λ z p q. absurd (omega ints); near = omega (ints, sumℤ b (pos 0)) }
first_is b (h ∷ hs) a = by (eq_z h b) refl (first_is (b +ℤ pos 1) hs a.1) (first_is b hs a.1)
  where
    by : (t : Bool) → eq_z h b ≡ t → First (b +ℤ pos 1) hs (first_at_or_after (b +ℤ pos 1) hs) → First b hs (first_at_or_after b hs) → First b (h ∷ hs) (first_at_or_after (cond t (b +ℤ pos 1) b) hs)
    by true e r s =
        let q : h ≡ b = eq_z_same h b e in
        record {
          from = omega (ints, r.from, sumℤ b (pos 1));
          free = λ m. ⊎_elim (λ k. omega (ints, r.from, sumℤ b (pos 1))) (λ t. r.free t) (has_cases h hs (first_at_or_after (b +ℤ pos 1) hs) m);
          passed = λ z p l. ⊎_elim (λ k. has_tail h hs z (r.passed z (omega (ints, sumℤ b (pos 1))) l)) (λ k. let w : h ≡ z = omega ints in subst (λ (x : ℤ). has (h ∷ hs) x ≡ true) w (has_head h hs))
              (bool (lt_z b z));
          near = omega (ints, r.near, sumℤ b (pos 1), sumℤ (b +ℤ pos 1) (pos (length hs)), sumℤ b (pos (suc (length hs))));
        }
    by false e r s = record {
      from = s.from;
      free = λ m. ⊎_elim
          (λ k. ⊎_elim (λ y. omega (ints, s.from, a.0 b (s.passed b (omega ints) (omega ints)))) (λ n. eq_z_other {a = h} {b = b} e (omega (ints, s.from))) (bool (lt_z b (first_at_or_after b hs))))
          (λ t. s.free t) (has_cases h hs (first_at_or_after b hs) m);
      passed = λ z p l. has_tail h hs z (s.passed z p l);
      near = omega (ints, s.near, sumℤ b (pos (length hs)), sumℤ b (pos (suc (length hs))));
    }

pub last_is : (b : ℤ) (hs : List ℤ) → Ascending hs → Last b hs (last_at_or_before b hs)
unfolding last_at_or_before up dn
last_is b [] a = record { to = omega ints; free = has_none b; passed = λ z p q. absurd (omega ints); near = omega (ints, sumℤ b (pos 0)) }
last_is b (h ∷ hs) a = by (last_at_or_before b hs) (last_is b hs a.1) (eq_z h (last_at_or_before b hs)) refl
  where
    by : (v : ℤ) → Last b hs v → (t : Bool) → eq_z h v ≡ t → Last b (h ∷ hs) (cond t (v +ℤ negsuc 0) v)
    by v r true e =
        let q : h ≡ v = eq_z_same h v e in
        record {
          to = omega (ints, r.to, sumℤ v (negsuc 0));
          free = λ m. ⊎_elim (λ k. omega (ints, sumℤ v (negsuc 0))) (λ t. omega (ints, sumℤ v (negsuc 0), a.0 (v +ℤ negsuc 0) t)) (has_cases h hs (v +ℤ negsuc 0) m);
          passed = λ z p l. ⊎_elim (λ k. has_tail h hs z (r.passed z (omega ints) l))
              (λ k. let w : h ≡ z = omega (ints, sumℤ v (negsuc 0)) in subst (λ (x : ℤ). has (h ∷ hs) x ≡ true) w (has_head h hs)) (bool (lt_z v z));
          near = omega (ints, r.near, sumℤ v (negsuc 0), sumℤ v (pos (length hs)), sumℤ (v +ℤ negsuc 0) (pos (suc (length hs))));
        }
    by v r false e = record {
      to = r.to;
      free = λ m. ⊎_elim (λ k. eq_z_other {a = h} {b = v} e k) (λ t. r.free t) (has_cases h hs v m);
      passed = λ z p l. has_tail h hs z (r.passed z p l);
      near = omega (ints, r.near, sumℤ v (pos (length hs)), sumℤ v (pos (suc (length hs))));
    }

-- ---- ascending lists with the same members are the same
pub same_members : (a b : List ℤ) → Ascending a → Ascending b → ((x : ℤ) → has a x ≡ true → has b x ≡ true) → ((x : ℤ) → has b x ≡ true → has a x ≡ true) → a ≡ b
same_members [] [] p q f g = refl
same_members [] (h ∷ b) p q f g = absurd (has_none h (g h (has_head h b)))
same_members (h ∷ a) [] p q f g = absurd (has_none h (f h (has_head h a)))
same_members (h ∷ a) (k ∷ b) p q f g =
    let e : h ≡ k = ⊎_elim (λ y. sym y) (λ t. ⊎_elim (λ y. y) (λ u. absurd (omega (ints, q.0 h t, p.0 k u))) (has_cases h a k (g k (has_head k b)))) (has_cases k b h (f h (has_head h a))) in
    let r : a ≡ b = same_members a b p.1 q.1
    (λ x t. ⊎_elim (λ y. absurd (omega (ints, p.0 x t))) (λ u. u) (has_cases k b x (f x (has_tail h a x t))))
    (λ x t. ⊎_elim (λ y. absurd (omega (ints, q.0 x t))) (λ u. u) (has_cases h a x (g x (has_tail k b x t)))) in
    cc
