-- Earliest and latest starts stored in ranges: what a turn of the loop does, and what stays.
use mathlib.Core.Path.{◌≡◌, refl, sym, ap}
use mathlib.Core.List.{List, [], ◌∷◌, map, head-eq_of_cons-eq, tail-eq_of_cons-eq, cons-ne-nil}
use Prim.Native.Nat.{ℕ, zero, suc, ◌+◌, ◌<◌}
use native.Mathlib.Omega.{arith}
use native.Mathlib.Numerals.{add-one}
use lib.IntN.{ℤ, pos}
use lib.ListN.{length, get_or, set, take}
use Rattle.ranges.specs.declared.range.Range.{Range}
use Rattle.ranges.specs.Moves.{start_stored, latest_stored}
use Rattle.ranges.specs.Ranges.{earliests, latests, counts, places, any_range, with_earliest, with_latest, with_starts, with_latests}
use Rattle.ranges.proofs.MovedStarts.{own_start, own_latest}

-- ---- numbers stored in the ranges, from the first on, each as `one` stores it
pub record Stores (one : Range → ℤ → Range) (with : List Range → List ℤ → List Range) : Type 0 where
  pub no_range : (zs : List ℤ) → with [] zs ≡ []
  pub none : (ys : List Range) → with ys [] ≡ ys
  pub first : (y : Range) (ys : List Range) (z : ℤ) (zs : List ℤ) → with (y ∷ ys) (z ∷ zs) ≡ one y z ∷ with ys zs

module _ {one : Range → ℤ → Range} {with : List Range → List ℤ → List Range} (stores : Stores one with) where
  -- one more number is stored
  pub stored_more : (ys : List Range) (zs : List ℤ) (i : ℕ) (d : Range) → i < length ys → i < length zs
      → set (with ys (take i zs)) i (one (get_or (with ys (take i zs)) i d) (get_or zs i (pos 0))) ≡ with ys (take (suc i) zs)
  stored_more [] zs i d h k = absurd (omega arith)
  stored_more (y ∷ ys) [] i d h k = absurd (omega arith)
  stored_more (y ∷ ys) (z ∷ zs) zero d h k = rw (stores.none (y ∷ ys), stores.first y ys z [], stores.none ys)
  stored_more (y ∷ ys) (z ∷ zs) (suc i) d h k =
      rw (stores.first y ys z (take i zs), stores.first y ys z (take (suc i) zs)) (ap (λ (us : List Range). one y z ∷ us) (stored_more ys zs i d (omega arith) (omega arith)))

  stored_at : (f : Range → ℤ) (ys : List Range) (zs : List ℤ) (k : ℕ) → k < length ys → k < length zs → get_or (map f (with ys zs)) k (pos 0) ≡ f (one (get_or ys k any_range) (get_or zs k (pos 0)))
  stored_at f [] zs k h l = absurd (omega arith)
  stored_at f (y ∷ ys) [] k h l = absurd (omega arith)
  stored_at f (y ∷ ys) (z ∷ zs) zero h l = rw (stores.first y ys z zs)
  stored_at f (y ∷ ys) (z ∷ zs) (suc k) h l = rw (stores.first y ys z zs) (stored_at f ys zs k (omega arith) (omega arith))

  -- a field that `one` leaves stays
  stored_keeps : {X : Type 0} (f : Range → X) → ((y : Range) (z : ℤ) → f (one y z) ≡ f y) → (ys : List Range) (zs : List ℤ) → map f (with ys zs) ≡ map f ys
  stored_keeps f s [] zs = rw (stores.no_range zs)
  stored_keeps f s (y ∷ ys) [] = rw (stores.none (y ∷ ys))
  stored_keeps f s (y ∷ ys) (z ∷ zs) = rw (stores.first y ys z zs) (λ i. s y z i ∷ stored_keeps f s ys zs i)

  -- and where the numbers are the ranges' own, all stays
  stored_own : (f : Range → ℤ) → ((y : Range) → one y (f y) ≡ y) → (ys : List Range) → with ys (map f ys) ≡ ys
  stored_own f s [] = stores.none []
  stored_own f s (y ∷ ys) = rw (stores.first y ys (f y) (map f ys)) (λ i. s y i ∷ stored_own f s ys i)

-- ---- earliest starts
pub starts_stored : Stores (λ y e. with_earliest y (start_stored y e)) with_starts
unfolding with_starts
starts_stored = record { no_range = λ zs. refl; none = λ ys. elim ys as (λ (us : List Range). with_starts us [] ≡ us) [ [] ↦ refl | y ∷ us ↦ refl ]; first = λ y ys z zs. refl }

-- one turn of the loop: range i is read, and the start that is stored in it is written back
pub start_more : (us ys : List Range) (es : List ℤ) (i : ℕ) (d : Range) (e z : ℤ) → us ≡ with_starts ys (take i es) → i < length ys → i < length es
    → e ≡ start_stored (get_or us i d) z → z ≡ get_or es i (pos 0) → set us i (with_earliest (get_or us i d) e) ≡ with_starts ys (take (i + 1) es)
start_more us ys es i d e z is h k said read = rw (said, read, is, add-one i) (stored_more starts_stored ys es i d h k)

pub with_none : (ys : List Range) → with_starts ys [] ≡ ys
with_none = starts_stored.none

pub start_at_is : (ys : List Range) (es : List ℤ) (k : ℕ) → k < length ys → k < length es → get_or (earliests (with_starts ys es)) k (pos 0) ≡ start_stored (get_or ys k any_range) (get_or es k (pos 0))
start_at_is = stored_at starts_stored (λ (y : Range). y.earliest)

pub latests_with : (ys : List Range) (es : List ℤ) → latests (with_starts ys es) ≡ latests ys
latests_with = stored_keeps starts_stored (λ (y : Range). y.latest) (λ y e. refl)

pub counts_with : (ys : List Range) (es : List ℤ) → counts (with_starts ys es) ≡ counts ys
counts_with = stored_keeps starts_stored (λ (y : Range). y.count) (λ y e. refl)

pub places_with : (ys : List Range) (es : List ℤ) → places (with_starts ys es) ≡ places ys
places_with = stored_keeps starts_stored (λ (y : Range). y.barred) (λ y e. refl)

pub own_starts : (ys : List Range) → with_starts ys (earliests ys) ≡ ys
own_starts = stored_own starts_stored (λ (y : Range). y.earliest) (λ y i. with_earliest y (own_start y i))

-- ---- latest starts
pub latests_stored : Stores (λ y l. with_latest y (latest_stored y l)) with_latests
unfolding with_latests
latests_stored = record { no_range = λ zs. refl; none = λ ys. elim ys as (λ (us : List Range). with_latests us [] ≡ us) [ [] ↦ refl | y ∷ us ↦ refl ]; first = λ y ys z zs. refl }

pub latest_more : (us ys : List Range) (ls : List ℤ) (i : ℕ) (d : Range) (l z : ℤ) → us ≡ with_latests ys (take i ls) → i < length ys → i < length ls
    → l ≡ latest_stored (get_or us i d) z → z ≡ get_or ls i (pos 0) → set us i (with_latest (get_or us i d) l) ≡ with_latests ys (take (i + 1) ls)
latest_more us ys ls i d l z is h k said read = rw (said, read, is, add-one i) (stored_more latests_stored ys ls i d h k)

pub latest_none : (ys : List Range) → with_latests ys [] ≡ ys
latest_none = latests_stored.none

pub latest_at : (ys : List Range) (ls : List ℤ) (k : ℕ) → k < length ys → k < length ls → get_or (latests (with_latests ys ls)) k (pos 0) ≡ latest_stored (get_or ys k any_range) (get_or ls k (pos 0))
latest_at = stored_at latests_stored (λ (y : Range). y.latest)

pub earliests_with_latest : (ys : List Range) (ls : List ℤ) → earliests (with_latests ys ls) ≡ earliests ys
earliests_with_latest = stored_keeps latests_stored (λ (y : Range). y.earliest) (λ y l. refl)

pub counts_with_latest : (ys : List Range) (ls : List ℤ) → counts (with_latests ys ls) ≡ counts ys
counts_with_latest = stored_keeps latests_stored (λ (y : Range). y.count) (λ y l. refl)

pub places_with_latest : (ys : List Range) (ls : List ℤ) → places (with_latests ys ls) ≡ places ys
places_with_latest = stored_keeps latests_stored (λ (y : Range). y.barred) (λ y l. refl)

pub own_latests : (ys : List Range) → with_latests ys (latests ys) ≡ ys
own_latests = stored_own latests_stored (λ (y : Range). y.latest) (λ y i. with_latest y (own_latest y i))

-- ---- ranges that are the same in each field are the same
pub same_ranges : (ys zs : List Range) → earliests zs ≡ earliests ys → latests zs ≡ latests ys → counts zs ≡ counts ys → places zs ≡ places ys → zs ≡ ys
same_ranges [] [] e l c p = refl
same_ranges [] (z ∷ zs) e l c p = absurd (cons-ne-nil _ _ e)
same_ranges (y ∷ ys) [] e l c p = absurd (cons-ne-nil _ _ (sym e))
same_ranges (y ∷ ys) (z ∷ zs) e l c p = λ i.
    record { earliest = head-eq_of_cons-eq e i; latest = head-eq_of_cons-eq l i; count = head-eq_of_cons-eq c i; barred = head-eq_of_cons-eq p i }
    ∷ same_ranges ys zs (tail-eq_of_cons-eq e) (tail-eq_of_cons-eq l) (tail-eq_of_cons-eq c) (tail-eq_of_cons-eq p) i
