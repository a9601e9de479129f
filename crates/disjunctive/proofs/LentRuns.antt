-- What the cores leave of ranges that are taken apart is, stored back, what the calls on lent ranges promise.
use mathlib.Core.List.{List, [], ◌++◌}
use mathlib.Core.Path.{◌≡◌, refl, sym, ap, subst, ◌∙◌}
use Prim.Native.Nat.{ℕ, ◌<◌}
use native.Mathlib.Omega.{arith}
use lib.IntN.{ℤ, pos}
use lib.ListN.{length, take, drop, replicate, length-map}
use lib.Seq.{length-take-le, take_at}
use borrow.Table.Elements.{same_len}
use Rattle.integers.specs.Limits.{TASKS}
use Rattle.records.specs.declared.record.DisjunctivePropagator.{DisjunctivePropagator}
use Rattle.propagator.specs.Ran.{Ran}
use Rattle.propagator.proofs.TooManyRanges.{too_many}
use Rattle.mirrored.specs.RanMirrored.{RanMirrored}
use Rattle.mirrored.proofs.TooManyRanges.{too_many_mirrored}
use Rattle.precedences.specs.Precedences.{RanPrecedences}
use Rattle.precedences.proofs.TooManyRanges.{too_many as no_precedences}
use Rattle.ranges.specs.declared.range.Range.{Range}
use Rattle.ranges.specs.Bars.{all_bars_are_fit}
use Rattle.ranges.specs.Ranges.{earliests, latests, with_starts, with_latests}
use Rattle.ranges.proofs.StoredStarts.{with_none, own_starts, latest_none, own_latests}
use Rattle.ranges.specs.TakenApart.{TakenInto}
use Rattle.ranges.proofs.TakenApart.{taken_fits, taken_starts, stored}
use Rattle.promises.specs.RanLent.{RanLent}
use Rattle.promises.specs.RanMirroredLent.{RanMirroredLent}
use Rattle.promises.specs.PrecedencesLent.{PrecedencesLent}
use Rattle.promises.proofs.LentRanges.{lent, lent_mirrored}
use Rattle.promises.proofs.PrecedencesLent.{lent_precedences}
use Rattle.propagator.specs.declared.disjunctive_propagator.Run.{Run}
use Rattle.runs.specs.declared.outcome.Outcome.{Outcome}
use Rattle.precedences.specs.declared.answers.Precedences.{Precedences}

module _ (before : DisjunctivePropagator) (ys : List Range) (n : ℕ) (es ls : List ℤ) (t : TakenInto ys (replicate TASKS (pos 0)) (replicate TASKS (pos 0)) n es ls) where
  -- A core left zs in the first n places of one of the arrays. To store them is to store starts of all ranges, of which the core's contract says the same.
  left_stored : (Said : List ℤ → List ℤ → List ℤ → Type 0) (us : List ℤ) → length us ≡ TASKS → (zs : List ℤ) → length zs ≡ length (take n us) → Said (take n es) (take n ls) zs
      → (with : List Range → List ℤ → List Range) (own : List ℤ) → length own ≡ length ys → with ys [] ≡ ys → with ys own ≡ ys
      → (TASKS < length (earliests ys) → Said [] [] [] → Said (earliests ys) (latests ys) own)
      → (vs : List ℤ) × (length vs ≡ length ys) × Said (earliests ys) (latests ys) vs × (with ys zs ≡ with ys vs)
  left_stored Said us all zs same c with own size none whole as_none =
      let l : length zs ≡ n = same ∙ length-take-le n us (omega (arith, all, t.count, taken_fits (length ys))) in
      let (vs, size', said, stays) = stored Said ys (record { count = n; earliest = es; latest = ls }) (taken_starts ys n es ls t) n refl (zs ++ drop n us) (same_len n us zs same ∙ all)
      (subst (Said (take n es) (take n ls)) (sym (take_at zs (drop n us) n l)) c) with own size none whole as_none in
      (vs, size', said, ap (with ys) (sym (take_at zs (drop n us) n l)) ∙ stays)

  -- the run, and the pass by precedences
  module _ (all : length es ≡ TASKS) (zs : List ℤ) (same : length zs ≡ length (take n es)) (rs : List Range) (are : rs ≡ with_starts ys zs) where
    pub lent_run : (posts atoms : List ℤ) (r : Run) (posts' atoms' : List ℤ) → Ran before (take n es) (take n ls) (all_bars_are_fit ys) posts atoms r zs posts' atoms'
        → RanLent before ys posts atoms r.outcome r.changes r.«record» rs posts' atoms'
    lent_run posts atoms r posts' atoms' c =
        let (us, size, ran, stays) = left_stored (λ es ls es'. Ran before es ls (all_bars_are_fit ys) posts atoms r es' posts' atoms') es all zs same c with_starts
        (earliests ys) (length-map ys (λ (y : Range). y.earliest)) (with_none ys) (own_starts ys)
        (λ h a. too_many before (earliests ys) (latests ys) (all_bars_are_fit ys) (all_bars_are_fit ys) posts atoms r [] posts' atoms' h a) in
        rw (are ∙ stays) (lent before ys posts atoms r.outcome r.changes r.«record» us posts' atoms' size ran)

    pub lent_pass : (r : Precedences) → RanPrecedences before (take n es) (take n ls) (all_bars_are_fit ys) r zs → PrecedencesLent before ys r rs
    lent_pass r c =
        let (us, size, ran, stays) = left_stored (λ es ls es'. RanPrecedences before es ls (all_bars_are_fit ys) r es') es all zs same c with_starts
        (earliests ys) (length-map ys (λ (y : Range). y.earliest)) (with_none ys) (own_starts ys)
        (λ h a. no_precedences before (earliests ys) (latests ys) (all_bars_are_fit ys) (all_bars_are_fit ys) r [] h a) in
        rw (are ∙ stays) (lent_precedences before ys r us size ran)

  -- the mirrored pass
  pub lent_mirrored_run : length ls ≡ TASKS → (zs : List ℤ) → length zs ≡ length (take n ls) → (rs : List Range) → rs ≡ with_latests ys zs
      → (posts atoms : List ℤ) (r : Outcome) (posts' atoms' : List ℤ) → RanMirrored before (take n es) (take n ls) (all_bars_are_fit ys) posts atoms r zs posts' atoms'
      → RanMirroredLent before ys posts atoms r rs posts' atoms'
  lent_mirrored_run all zs same rs are posts atoms r posts' atoms' c =
      let (us, size, ran, stays) = left_stored (λ es ls ls'. RanMirrored before es ls (all_bars_are_fit ys) posts atoms r ls' posts' atoms') ls all zs same c with_latests
      (latests ys) (length-map ys (λ (y : Range). y.latest)) (latest_none ys) (own_latests ys)
      (λ h a. too_many_mirrored before (earliests ys) (latests ys) (all_bars_are_fit ys) (all_bars_are_fit ys) posts atoms _ [] posts' atoms' h a) in
      rw (are ∙ stays) (lent_mirrored before ys posts atoms r us posts' atoms' size ran)
