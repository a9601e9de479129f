-- The sum of the durations of a list with one more, and with one left out.
use mathlib.Core.Path.{◌≡◌, sym, ap, ◌∙◌}
use mathlib.Core.List.{List, [], ◌∷◌, ◌++◌, map}
use Prim.Native.Nat.{ℕ, zero, suc, ◌+◌, ◌<◌}
use native.Mathlib.Omega.{arith}
use native.Mathlib.Numerals.{add-one}
use lib.IntN.{ℤ, pos}
use lib.ListN.{length, get_or, length-map, get_or-map}
use Rattle.scheduling.specs.Scheduling.{total}
use Rattle.scheduling.proofs.Sets.{total_none, total_more, total_ext}
use Rattle.records.specs.Records.{duration_for, duration_at}
use Rattle.task_changes.specs.Lists.{placed, sum_of, without}
use Rattle.task_changes.proofs.PlacedLists.{placed_at}

-- the first one apart
total_first : (f : ℕ → ℕ) (n : ℕ) → total f (n + 1) ≡ f 0 + total (λ k. f (suc k)) n
total_first f zero = omega (arith, total_more f 0, total_none f, total_none (λ k. f (suc k)))
total_first f (suc n) =
    let rest : ℕ → ℕ = λ k. f (suc k) in
    omega (arith, total_more f (suc n), total_first f n, ap (total f) (add-one n), total_more rest n, ap (total rest) (add-one n))

sum_cons : (x : ℕ) (xs : List ℕ) → sum_of (x ∷ xs) ≡ x + sum_of xs
sum_cons x xs = ap (total (λ k. get_or (x ∷ xs) k 0)) (sym (add-one (length xs))) ∙ total_first (λ k. get_or (x ∷ xs) k 0) (length xs)

pub sum_more : (l : List ℕ) (x : ℕ) → sum_of (l ++ (x ∷ [])) ≡ sum_of l + x
sum_more [] x = omega (arith, sum_cons x [])
sum_more (y ∷ ys) x = omega (arith, sum_cons y (ys ++ (x ∷ [])), sum_cons y ys, sum_more ys x)

pub sum_without : (l : List ℕ) (t : ℕ) → t < length l → sum_of (without l t) + get_or l t 0 ≡ sum_of l
unfolding without
sum_without [] t h = absurd (omega arith)
sum_without (x ∷ xs) zero h = omega (arith, sum_cons x xs)
sum_without (x ∷ xs) (suc t) h = omega (arith, sum_cons x xs, sum_cons x (without xs t), sum_without xs t (omega arith))

-- of durations as a caller gives them
pub sum_given : (ds : List ℤ) → total (duration_at ds) (length ds) ≡ sum_of (map duration_for ds)
sum_given ds = total_ext (duration_at ds) (λ k. get_or (map duration_for ds) k 0) (length ds) (λ k q. sym (get_or-map duration_for ds k (pos 0)))
    ∙ ap (total (λ k. get_or (map duration_for ds) k 0)) (sym (length-map ds duration_for))

-- as a record's array holds it
pub sum_placed : (l : List ℕ) → total (λ k. get_or (placed l) k 0) (length l) ≡ sum_of l
sum_placed l = total_ext (λ k. get_or (placed l) k 0) (λ k. get_or l k 0) (length l) (placed_at l)
