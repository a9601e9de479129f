-- Ranges that are taken apart into two arrays and put together again: what a turn of each loop does, and what a call that goes by the arrays says of the ranges.
use mathlib.Core.Bool.{Bool}
use mathlib.Core.List.{List, [], ◌∷◌, ◌++◌, map, append_assoc}
use mathlib.Core.Logic.{◌⊎◌, inl, inr, ⊎_elim}
use mathlib.Core.Path.{◌≡◌, refl, sym, ap, subst, ◌∙◌}
use Prim.Native.Nat.{ℕ, suc, ◌+◌, ◌≤◌, ◌<◌}
use native.Mathlib.Omega.{arith}
use native.Mathlib.Numerals.{add-one}
use lib.Dec.{leb}
use lib.IntN.{ℤ, pos}
use lib.ListN.{length, get_or, set, take, drop, replicate, length-replicate, length-map, get_or-map}
use lib.Seq.{length-take-le, take_all, take-suc, drop-cons, take_at, set_at}
use borrow.Author.Tests.{le-leb, lt-leb, leb-true, leb-false}
use Rattle.integers.proofs.Bools.{bool}
use Rattle.integers.specs.Limits.{TASKS}
use Rattle.ranges.specs.declared.range.Range.{Range}
use Rattle.ranges.specs.Bars.{all_bars_are_fit}
use Rattle.ranges.specs.Ranges.{earliests, latests}
use Rattle.ranges.specs.declared.starts.Starts.{Starts}
use Rattle.ranges.specs.declared.starts.StartsWithBars.{StartsWithBars}
use Rattle.ranges.specs.TakenApart.{taken, over, padded, TakenInto, starts_taken, starts_and_bars}

-- ---- taken apart
pub taken_all : (n : ℕ) → n ≤ TASKS → taken n ≡ n
unfolding taken
taken_all n h = simp (le-leb n TASKS h)

pub taken_none : (n : ℕ) → TASKS < n → taken n ≡ 0
unfolding taken
taken_none n h = simp (lt-leb n TASKS h)

pub fits_or_not : (n : ℕ) → (n ≤ TASKS) ⊎ (TASKS < n)
fits_or_not n = ⊎_elim (λ y. inl (leb-true n TASKS y)) (λ y. inr (leb-false n TASKS y)) (bool (leb n TASKS))

pub taken_fits : (n : ℕ) → (taken n ≤ TASKS) × (taken n ≤ n)
taken_fits n = ⊎_elim (λ h. omega (arith, taken_all n h)) (λ h. omega (arith, taken_none n h)) (fits_or_not n)

-- one more number is stored
front_more : (zs bs : List ℤ) (i : ℕ) → i < length zs → i < length bs → set (take i zs ++ drop i bs) i (get_or zs i (pos 0)) ≡ take (suc i) zs ++ drop (suc i) bs
front_more zs bs i h k =
    ap (λ (us : List ℤ). set (take i zs ++ us) i (get_or zs i (pos 0))) (drop-cons bs i (pos 0) k)
    ∙ set_at (take i zs) (get_or bs i (pos 0)) (drop (suc i) bs) (get_or zs i (pos 0)) i (length-take-le i zs (omega arith))
    ∙ sym (ap (λ (us : List ℤ). us ++ drop (suc i) bs) (take-suc zs i (pos 0) h) ∙ append_assoc (take i zs) (get_or zs i (pos 0) ∷ []) (drop (suc i) bs))

-- of a field of range i
pub over_more : (f : Range → ℤ) (d : Range) → f d ≡ pos 0 → (ys : List Range) (us : List ℤ) (i : ℕ) → i < length us → i < length ys
    → set (over i (map f ys) us) i (f (get_or ys i d)) ≡ over (i + 1) (map f ys) us
over_more f d z ys us i h k =
    rw (add-one i) (ap (λ (v : ℤ). set (over i (map f ys) us) i v) (sym (get_or-map f ys i d) ∙ ap (λ (e : ℤ). get_or (map f ys) i e) z)
    ∙ front_more (map f ys) us i (omega (arith, length-map ys f)) h)

padded_take : (n : ℕ) (zs : List ℤ) → n ≤ length zs → take n (padded n zs) ≡ take n zs
unfolding padded
padded_take n zs h = take_at (take n zs) (drop n (replicate TASKS (pos 0))) n (length-take-le n zs h)

padded_all : (n : ℕ) (zs : List ℤ) → length zs ≡ n → n ≤ TASKS → take (taken n) (padded (taken n) zs) ≡ zs
padded_all n zs l h = rw (taken_all n h) (padded_take n zs (omega arith) ∙ take_all n zs (omega arith))

-- what was taken into arrays of zeros
pub taken_starts : (ys : List Range) (n : ℕ) (es ls : List ℤ) → TakenInto ys (replicate TASKS (pos 0)) (replicate TASKS (pos 0)) n es ls
    → record { count = n; earliest = es; latest = ls } ≡ starts_taken ys
unfolding starts_taken padded
taken_starts ys n es ls t =
    ap (λ (us : List ℤ). record { count = n; earliest = us; latest = ls }) t.earliest
    ∙ ap (λ (us : List ℤ). record { count = n; earliest = over n (earliests ys) (replicate TASKS (pos 0)); latest = us }) t.latest
    ∙ ap (λ (k : ℕ). record { count = k; earliest = over k (earliests ys) (replicate TASKS (pos 0)); latest = over k (latests ys) (replicate TASKS (pos 0)) }) t.count

-- where the bars were asked for, the starts are those of the ranges, and what is said by the answer is said by whether the ranges' bars fit
pub starts_of_are : (ys : List Range) (s : StartsWithBars) → s ≡ starts_and_bars ys → s.starts ≡ starts_taken ys
unfolding starts_and_bars
starts_of_are ys s e = ap (λ (u : StartsWithBars). u.starts) e

pub bars_of : (ys : List Range) (s : StartsWithBars) → s ≡ starts_and_bars ys → (P : Bool → Type 0) → P s.bars_fit → P (all_bars_are_fit ys)
unfolding starts_and_bars
bars_of ys s e P = subst P (ap (λ (u : StartsWithBars). u.bars_fit) e)

-- ---- calls that store starts
-- a core was passed all ranges, or, where there are too many, none: then what it leaves, none either, is as good as the old starts
module _ (Said : List ℤ → List ℤ → List ℤ → Type 0) (ys : List Range) (s : Starts) (is : s ≡ starts_taken ys) (n : ℕ) (same : n ≡ s.count) (zs : List ℤ) (whole : length zs ≡ TASKS)
    (said : Said (take s.count s.earliest) (take s.count s.latest) (take s.count zs)) where
  -- starts of which the core's contract says so, and which are stored as those are that it leaves
  abbrev pub Stored : (List Range → List ℤ → List Range) → Type 0
  Stored with = (us : List ℤ) × (length us ≡ length ys) × Said (earliests ys) (latests ys) us × (with ys (take n zs) ≡ with ys us)

  count : n ≡ taken (length ys)
  unfolding starts_taken
  count = same ∙ ap (λ (u : Starts). u.count) is

  of_ranges : Said (take (starts_taken ys).count (starts_taken ys).earliest) (take (starts_taken ys).count (starts_taken ys).latest) (take (starts_taken ys).count zs)
  of_ranges = subst (λ (u : Starts). Said (take u.count u.earliest) (take u.count u.latest) (take u.count zs)) is said

  few : (with : List Range → List ℤ → List Range) → length ys ≤ TASKS → Stored with
  unfolding starts_taken
  few with h =
      let e : taken (length ys) ≡ length ys = taken_all (length ys) h in (
        take n zs,
        ap (λ (k : ℕ). length (take k zs)) (count ∙ e)
            ∙ length-take-le (length ys) zs (omega (arith, whole)),
        rw (count) (rw (padded_all (length ys) (earliests ys) (length-map ys (λ (y : Range). y.earliest)) h, padded_all (length ys) (latests ys) (length-map ys (λ (y : Range). y.latest)) h) at
            of_ranges),
        refl,
      )

  many : (with : List Range → List ℤ → List Range) (own : List ℤ) → length own ≡ length ys → with ys [] ≡ ys → with ys own ≡ ys → (Said [] [] [] → Said (earliests ys) (latests ys) own)
      → TASKS < length ys → Stored with
  unfolding starts_taken
  many with own size none all as_none h =
      let e : taken (length ys) ≡ 0 = taken_none (length ys) h in
      (own, size, as_none (rw (e) at of_ranges), ap (λ (k : ℕ). with ys (take k zs)) (count ∙ e) ∙ none ∙ sym all)

  pub stored : (with : List Range → List ℤ → List Range) (own : List ℤ) → length own ≡ length ys → with ys [] ≡ ys → with ys own ≡ ys
      → (TASKS < length (earliests ys) → Said [] [] [] → Said (earliests ys) (latests ys) own) → Stored with
  stored with own size none all as_none = ⊎_elim (few with) (λ h. many with own size none all (as_none (omega (arith, h, length-map ys (λ (y : Range). y.earliest)))) h) (fits_or_not (length ys))

-- ---- calls that leave the ranges unchanged
-- what a core says of the ranges taken apart holds of the ranges; where there are too many, the core was passed none
pub apart : (Said : List ℤ → List ℤ → Type 0) (ys : List Range) (s : Starts) → s ≡ starts_taken ys → (TASKS < length (earliests ys) → Said [] [] → Said (earliests ys) (latests ys))
    → Said (take s.count s.earliest) (take s.count s.latest) → Said (earliests ys) (latests ys)
apart Said ys s e as_none c =
    (stored (λ es ls zs. Said es ls) ys s e s.count refl (replicate TASKS (pos 0)) (length-replicate TASKS (pos 0)) c (λ us zs. us) (earliests ys)
    (length-map ys (λ (y : Range). y.earliest)) refl refl as_none).2

-- starts that have the count of the ranges taken apart fit an array, and the ranges
pub starts_fit : (ys : List Range) (s r : Starts) → s ≡ starts_taken ys → r.count ≡ s.count → (r.count ≤ TASKS) × (r.count ≤ length ys)
unfolding starts_taken
starts_fit ys s r e c = omega (arith, taken_fits (length ys), c ∙ ap (λ (t : Starts). t.count) e)
