-- A start that a call has moved is stored at the first permitted start from there on, and a latest start at the last one back from there.
use mathlib.Core.Path.{◌≡◌, refl, ap, ◌∙◌, subst}
use mathlib.Core.Bool.{Bool, true, false, cond, ◌&&◌}
use mathlib.Core.Logic.{⊎_elim}
use mathlib.Core.List.{List, [], ◌∷◌, reverse}
use Rattle.std.specs.List.{fold}
use Rattle.std.proofs.lemmas.List.{reverse-append}
use Rattle.std.proofs.lemmas.List.Sums.{fold-append}
use lib.IntN.{ℤ, pos, negsuc, ◌+ℤ◌}
use lib.Signed.{lt_z, ◌≤ℤ◌, ◌<ℤ◌}
use Rattle.integers.proofs.Bools.{bool}
use Rattle.integers.proofs.Ints.{ints, up, dn, sumℤ}
use Rattle.holes.specs.Holes.{step_upward, step_downward, first_at_or_after, last_at_or_before, First, Last}
use Rattle.integers.specs.WholeNumbers.{eq_z, has}
use Rattle.integers.proofs.WholeNumbers.{lt_lt_z, le_lt_z, eq_z_same, has_head, has_tail}
use Rattle.holes.proofs.Ascending.{first_is, last_is}
use Rattle.ranges.specs.declared.range.Range.{Range}
use Rattle.ranges.specs.Bars.{bars_of, BarsFit}
use Rattle.ranges.specs.Moves.{past_the_bar, moved_onward, start_stored, before_the_bar, moved_backward, latest_stored}
use Rattle.ranges.specs.Permitted.{FirstPermitted, LastPermitted}

-- ---- on
-- a start at a bar is before the latest, which is no bar, so it goes on
past_up : (l b z : ℤ) → z ≤ℤ l → (b ≡ l → ⊥) → (past_the_bar l b z ≡ step_upward b z) × (step_upward b z ≤ℤ l)
unfolding up dn
past_up l b z h n = by (eq_z b z) refl
  where
    by : (t : Bool) → eq_z b z ≡ t → (cond (t && lt_z z l) (z +ℤ pos 1) z ≡ cond t (z +ℤ pos 1) z) × (cond t (z +ℤ pos 1) z ≤ℤ l)
    by true e =
        let s : z <ℤ l = ⊎_elim (λ y. omega ints) (λ y. absurd (n (let q : b ≡ z = eq_z_same b z e in omega ints))) (bool (lt_z z l)) in
        (ap (λ (t : Bool). cond t (z +ℤ pos 1) z) (lt_lt_z z l s), omega (ints, sumℤ z (pos 1)))
    by false e = (refl, h)

-- the walk over the bars, as the code folds it
pub onward_is : (l z : ℤ) (bs : List ℤ) → fold (λ x b. past_the_bar l b x) z bs ≡ moved_onward l z bs
unfolding moved_onward
onward_is l z [] = refl
onward_is l z (b ∷ bs) = onward_is l (past_the_bar l b z) bs

moved_on : (l z : ℤ) (bs : List ℤ) → z ≤ℤ l → (has bs l ≡ true → ⊥) → moved_onward l z bs ≡ first_at_or_after z bs
unfolding moved_onward first_at_or_after
moved_on l z [] h n = refl
moved_on l z (b ∷ bs) h n =
    let s = past_up l b z h (λ e. n (subst (λ (x : ℤ). has (b ∷ bs) x ≡ true) e (has_head b bs))) in
    ap (λ (x : ℤ). moved_onward l x bs) s.0 ∙ moved_on l (step_upward b z) bs s.1 (λ y. n (has_tail b bs l y))

pub own_start : (y : Range) → start_stored y y.earliest ≡ y.earliest
unfolding start_stored
own_start y = let h : y.earliest ≤ℤ y.earliest = omega ints in rw (le_lt_z y.earliest y.earliest h)

pub first_permitted : (y : Range) → BarsFit y → (z : ℤ) → y.earliest ≤ℤ z → z ≤ℤ y.latest → FirstPermitted y z (start_stored y z)
unfolding start_stored
first_permitted y f z from to = by (lt_z y.earliest z) refl
  where
    first : First z (bars_of y) (first_at_or_after z (bars_of y))
    first = first_is z (bars_of y) f.ascending

    -- the latest start is free, so the first free one is not past it
    upto : first_at_or_after z (bars_of y) ≤ℤ y.latest
    upto = ⊎_elim (λ s. absurd (f.not_latest (first.passed y.latest to (omega ints)))) (λ s. omega ints) (bool (lt_z y.latest (first_at_or_after z (bars_of y))))

    by : (t : Bool) → lt_z y.earliest z ≡ t → FirstPermitted y z (cond t (moved_onward y.latest z (bars_of y)) y.earliest)
    by true e = rw (moved_on y.latest z (bars_of y) to f.not_latest) (record {
      holds = (record { from = omega (ints, first.from); to = upto; free = first.free }, first.from);
      bounds = λ w p. ⊎_elim (λ s. absurd (p.0.free (first.passed w p.1 (omega ints)))) (λ s. omega ints) (bool (lt_z w (first_at_or_after z (bars_of y))));
    })
    by false e = record { holds = (record { from = omega ints; to = omega ints; free = f.not_earliest }, omega ints); bounds = λ w p. p.0.from }

-- ---- back
-- a start at a bar is after the earliest, which is no bar, so it goes back
before_down : (l b z : ℤ) → l ≤ℤ z → (b ≡ l → ⊥) → (before_the_bar l b z ≡ step_downward b z) × (l ≤ℤ step_downward b z)
unfolding up dn
before_down l b z h n = by (eq_z b z) refl
  where
    by : (t : Bool) → eq_z b z ≡ t → (cond (t && lt_z l z) (z +ℤ negsuc 0) z ≡ cond t (z +ℤ negsuc 0) z) × (l ≤ℤ cond t (z +ℤ negsuc 0) z)
    by true e =
        let s : l <ℤ z = ⊎_elim (λ y. omega ints) (λ y. absurd (n (let q : b ≡ z = eq_z_same b z e in omega ints))) (bool (lt_z l z)) in
        (ap (λ (t : Bool). cond t (z +ℤ negsuc 0) z) (lt_lt_z l z s), omega (ints, sumℤ z (negsuc 0)))
    by false e = (refl, h)

-- the walk over the bars from the last one, as the code folds it
pub backward_is : (l z : ℤ) (bs : List ℤ) → fold (λ x b. before_the_bar l b x) z (reverse bs) ≡ moved_backward l z bs
unfolding moved_backward
backward_is l z [] = refl
backward_is l z (b ∷ bs) =
    ap (fold (λ x c. before_the_bar l c x) z) (reverse-append (b ∷ []) bs) ∙ fold-append (λ x c. before_the_bar l c x) z (reverse bs) (b ∷ [])
    ∙ ap (before_the_bar l b) (backward_is l z bs)

moved_back : (l z : ℤ) (bs : List ℤ) → l ≤ℤ z → (has bs l ≡ true → ⊥) → (moved_backward l z bs ≡ last_at_or_before z bs) × (l ≤ℤ last_at_or_before z bs)
unfolding moved_backward last_at_or_before
moved_back l z [] h n = (refl, h)
moved_back l z (b ∷ bs) h n =
    let r = moved_back l z bs h (λ y. n (has_tail b bs l y)) in
    let s = before_down l b (last_at_or_before z bs) r.1 (λ e. n (subst (λ (x : ℤ). has (b ∷ bs) x ≡ true) e (has_head b bs))) in
    (ap (before_the_bar l b) r.0 ∙ s.0, s.1)

pub own_latest : (y : Range) → latest_stored y y.latest ≡ y.latest
unfolding latest_stored
own_latest y = let h : y.latest ≤ℤ y.latest = omega ints in rw (le_lt_z y.latest y.latest h)

pub last_permitted : (y : Range) → BarsFit y → (z : ℤ) → y.earliest ≤ℤ z → z ≤ℤ y.latest → LastPermitted y z (latest_stored y z)
unfolding latest_stored
last_permitted y f z from to = by (lt_z z y.latest) refl
  where
    last : Last z (bars_of y) (last_at_or_before z (bars_of y))
    last = last_is z (bars_of y) f.ascending

    by : (t : Bool) → lt_z z y.latest ≡ t → LastPermitted y z (cond t (moved_backward y.earliest z (bars_of y)) y.latest)
    by true e =
        let back = moved_back y.earliest z (bars_of y) from f.not_earliest in
        rw back.0 (record {
          holds = (record { from = back.1; to = omega (ints, last.to); free = last.free }, last.to);
          bounds = λ w p. ⊎_elim (λ s. absurd (p.0.free (last.passed w (omega ints) p.1))) (λ s. omega ints) (bool (lt_z (last_at_or_before z (bars_of y)) w));
        })
    by false e = record { holds = (record { from = omega ints; to = omega ints; free = f.not_latest }, omega ints); bounds = λ w p. p.0.to }
