-- The tasks that have a flag, by number: one more of them, and which they are.
use mathlib.Core.Path.{◌≡◌, refl, sym, ap, ◌∙◌}
use mathlib.Core.Bool.{Bool, true, false, ◌&&◌, ◌||◌}
use mathlib.Core.Logic.{inl, inr}
use mathlib.Core.List.{List, [], ◌∷◌, ◌++◌, flat_map, append-nil}
use Prim.Native.Nat.{ℕ, zero, suc, ◌+◌, ◌<◌}
use native.Mathlib.Numerals.{add-one}
use native.Mathlib.Nat.{add-zero, zero-add}
use native.Mathlib.Omega.{arith}
use lib.Dec.{eqb, ltb}
use lib.ListN.{length, get_or}
use borrow.Author.Tests.{eqb-true, ltb-true, lt-ltb}
use Rattle.integers.specs.Orders.{picked, numbers, has, index, Sorted}
use Rattle.integers.proofs.Bools.{bool, and_true, and_yes, and_left, and_right}
use Rattle.integers.proofs.Permutations.{has_cons, has_nil, has_at, index_at, numbers_below, numbers_permute}
use Rattle.integers.proofs.StableSort.{sorted_at}
use Rattle.text.specs.DecimalText.{Puts}
use Rattle.text.proofs.PutBytes.{puts_append}
use Rattle.pages.proofs.PageLines.{flat_append, flat_one}

-- a test goes into a sum of tests, or takes the first of them out
spread : (a b c : Bool) → (a ≡ true → c ≡ true) → a || (b && c) ≡ (a || b) && c
spread true b c h = sym (h refl)
spread false b c h = refl

drops : (a b c : Bool) → (a ≡ true → c ≡ false) → b && c ≡ (a || b) && c
drops true b c h = and_right b c (h refl) ∙ sym (h refl)
drops false b c h = refl

module _ (q : ℕ → Bool) where
  pick_yes : (x : ℕ) (xs : List ℕ) → q x ≡ true → picked q (x ∷ xs) ≡ x ∷ picked q xs
  unfolding picked
  pick_yes x xs y = rw (y, picked)

  pick_no : (x : ℕ) (xs : List ℕ) → q x ≡ false → picked q (x ∷ xs) ≡ picked q xs
  unfolding picked
  pick_no x xs y = rw (y, picked)

  pick_append : (xs ys : List ℕ) → picked q (xs ++ ys) ≡ picked q xs ++ picked q ys
  unfolding picked
  pick_append [] ys = refl
  pick_append (x ∷ xs) ys = elim (bool (q x)) [
    | inl y ↦ pick_yes x (xs ++ ys) y ∙ ap (λ (l : List ℕ). x ∷ l) (pick_append xs ys) ∙ ap (λ (l : List ℕ). l ++ picked q ys) (sym (pick_yes x xs y))
    | inr y ↦ pick_no x (xs ++ ys) y ∙ pick_append xs ys ∙ ap (λ (l : List ℕ). l ++ picked q ys) (sym (pick_no x xs y))
  ]

  numbers_more : (a d : ℕ) → numbers a (suc d) ≡ numbers a d ++ ((a + d) ∷ [])
  unfolding numbers
  numbers_more a zero = ap (λ (k : ℕ). k ∷ []) (sym (add-zero a))
  numbers_more a (suc d) = ap (λ (l : List ℕ). a ∷ l) (numbers_more (suc a) d) ∙ ap (λ (k : ℕ). a ∷ (numbers (suc a) d ++ (k ∷ []))) (omega arith)

  -- ---- one number more is tried
  more : (k : ℕ) → picked q (numbers 0 (k + 1)) ≡ picked q (numbers 0 k) ++ picked q (k ∷ [])
  more k = ap (λ (n : ℕ). picked q (numbers 0 n)) (add-one k) ∙ ap (picked q) (numbers_more 0 k ∙ ap (λ (j : ℕ). numbers 0 k ++ (j ∷ [])) (zero-add k)) ∙ pick_append (numbers 0 k) (k ∷ [])

  module _ (f : ℕ → List ℕ) where
    pub puts_none : (out : List ℕ) (at : ℕ) → Puts out out at (flat_map f (picked q (numbers 0 0))) at
    unfolding flat_map picked numbers
    puts_none out at = record { text = refl; end = omega arith }

    -- its line
    pub puts_next : {first second third : List ℕ} {from at next : ℕ} (k : ℕ) → q k ≡ true → Puts first second from (flat_map f (picked q (numbers 0 k))) at → Puts second third at (f k) next
        → Puts first third from (flat_map f (picked q (numbers 0 (k + 1)))) next
    unfolding flat_map picked
    puts_next k y p s = rw (more k, flat_append f (picked q (numbers 0 k)) (picked q (k ∷ [])), pick_yes k [] y, flat_one f k) (puts_append p s)

    -- or none
    pub puts_same : {first second : List ℕ} {from at : ℕ} (k : ℕ) → q k ≡ false → Puts first second from (flat_map f (picked q (numbers 0 k))) at
        → Puts first second from (flat_map f (picked q (numbers 0 (k + 1)))) at
    unfolding picked
    puts_same k y p = rw (more k, pick_no k [] y, append-nil) p

  -- ---- which they are
  pick_has : (l : List ℕ) (k : ℕ) → has (picked q l) k ≡ has l k && q k
  unfolding picked
  pick_has [] k = has_nil k ∙ sym (and_left (has [] k) (q k) (has_nil k))
  pick_has (x ∷ xs) k = elim (bool (q x)) [
    | inl y ↦ rw (pick_yes x xs y, has_cons x k (picked q xs), has_cons x k xs, pick_has xs k) (spread (eqb x k) (has xs k) (q k) (λ z. ap q (sym (eqb-true x k z)) ∙ y))
    | inr y ↦ rw (pick_no x xs y, has_cons x k xs, pick_has xs k) (drops (eqb x k) (has xs k) (q k) (λ z. ap q (sym (eqb-true x k z)) ∙ y))
  ]

  pick_from : (l : List ℕ) (k : ℕ) → has (picked q l) k ≡ true → (has l k ≡ true) × (q k ≡ true)
  pick_from l k h = and_true (has l k) (q k) (sym (pick_has l k) ∙ h)

  -- each is greater than the one before it
  rising : (a d : ℕ) → Sorted ltb (picked q (numbers a d))
  unfolding picked numbers
  rising a zero = tt
  rising a (suc d) = elim (bool (q a)) [
    | inl y ↦ rw (pick_yes a (numbers (suc a) d) y) (λ k h. lt-ltb a k (numbers_below (suc a) d k (pick_from (numbers (suc a) d) k h).0).0, rising (suc a) d)
    | inr y ↦ rw (pick_no a (numbers (suc a) d) y) (rising (suc a) d)
  ]

  module _ (n : ℕ) where
    pub chosen : (k : ℕ) → has (picked q (numbers 0 n)) k ≡ true → (k < n) × (q k ≡ true)
    chosen k h = let r = pick_from (numbers 0 n) k h in ((numbers_permute n).below k r.0, r.1)

    pub chosen_at : (t : ℕ) → t < length (picked q (numbers 0 n)) → (get_or (picked q (numbers 0 n)) t 0 < n) × (q (get_or (picked q (numbers 0 n)) t 0) ≡ true)
    chosen_at t h = chosen (get_or (picked q (numbers 0 n)) t 0) (has_at (picked q (numbers 0 n)) t h)

    pub place_of : (k : ℕ) → k < n → q k ≡ true → (t : ℕ) × (t < length (picked q (numbers 0 n))) × (get_or (picked q (numbers 0 n)) t 0 ≡ k)
    place_of k h y =
        let l = picked q (numbers 0 n) in
        let i = index_at l k (pick_has (numbers 0 n) k ∙ and_yes (has (numbers 0 n) k) (q k) ((numbers_permute n).every k h) y) in
        (index l k, i.0, i.1)

    pub chosen_rise : (s t : ℕ) → s < t → t < length (picked q (numbers 0 n)) → get_or (picked q (numbers 0 n)) s 0 < get_or (picked q (numbers 0 n)) t 0
    chosen_rise s t h r = ltb-true _ _ (sorted_at ltb (picked q (numbers 0 n)) (rising 0 n) s t h r)
