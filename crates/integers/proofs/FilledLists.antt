-- A list that a loop fills from the front, one store a turn, at any element type.
use mathlib.Core.Path.{◌≡◌, refl, sym, ap, ◌∙◌}
use mathlib.Core.List.{List, map}
use Prim.Native.Nat.{ℕ, zero, suc, ◌+◌, ◌≤◌, ◌<◌}
use native.Mathlib.Omega.{arith}
use lib.ListN.{length, get_or, set, replicate, length-set, length-map}
use lib.Seq.{get_or-set_same, get_or-set_other, ext_get_or}
use native.Mathlib.Numerals.{add-one}
use native.Mathlib.Decide.{dec_lt}
use borrow.Author.Count.{below_more}
use Rattle.integers.specs.FilledLists.{filled}
use Rattle.integers.proofs.Lists.{get_d_map_in}

module _ {A : Type 0} (d : A) where
  -- what the places below i hold, they hold after a store at i
  pub set_below : (f : ℕ → A) (l : List A) (i : ℕ) (v : A) → i < length l → ((k : ℕ) → k < i → get_or l k d ≡ f k)
      → v ≡ f i → (k : ℕ) → k < i + 1 → get_or (set l i v) k d ≡ f k
  set_below f l i v h all e = below_more (λ (k : ℕ). get_or (set l i v) k d ≡ f k) i (λ k kl. get_or-set_other l i k v d (omega arith) ∙ all k kl) (get_or-set_same l i v d h ∙ e)

  pub get_d_fresh : (n k : ℕ) → get_or (replicate n d) k d ≡ d
  get_d_fresh zero k = refl
  get_d_fresh (suc n) zero = refl
  get_d_fresh (suc n) (suc k) = get_d_fresh n k

-- `filled`: the loop's first and next turn, and what the list holds then.
module _ {A : Type 0} (f : ℕ → A) where
  pub filled_none : (l : List A) → filled f 0 l ≡ l
  unfolding filled
  filled_none l = refl

  pub filled_more : (n : ℕ) (l : List A) → filled f (n + 1) l ≡ set (filled f n l) n (f n)
  unfolding filled
  filled_more n l = rw add-one

  filled_suc : (n : ℕ) (l : List A) → filled f (suc n) l ≡ set (filled f n l) n (f n)
  unfolding filled
  filled_suc n l = refl

  pub filled_length : (n : ℕ) (l : List A) → length (filled f n l) ≡ length l
  filled_length zero l = ap length (filled_none l)
  filled_length (suc n) l = ap length (filled_suc n l) ∙ length-set (filled f n l) n (f n) ∙ filled_length n l

  pub filled_past : (n : ℕ) (l : List A) (d : A) (k : ℕ) → n ≤ k → get_or (filled f n l) k d ≡ get_or l k d
  filled_past zero l d k h = ap (λ (m : List A). get_or m k d) (filled_none l)
  filled_past (suc n) l d k h = ap (λ (m : List A). get_or m k d) (filled_suc n l) ∙ get_or-set_other (filled f n l) n k (f n) d (omega arith) ∙ filled_past n l d k (omega arith)

  pub filled_at : (n : ℕ) (l : List A) (d : A) (k : ℕ) → k < n → n ≤ length l → get_or (filled f n l) k d ≡ f k
  filled_at zero l d k h q = absurd (omega arith)
  filled_at (suc n) l d k h q = ap (λ (m : List A). get_or m k d) (filled_suc n l) ∙ elim (dec_lt k n) [
    | yes r ↦ get_or-set_other (filled f n l) n k (f n) d (omega arith) ∙ filled_at n l d k r (omega arith)
    | no r ↦ last (omega arith)
  ]
    where
      last : k ≡ n → get_or (set (filled f n l) n (f n)) k d ≡ f k
      last z = rw z (get_or-set_same (filled f n l) n (f n) d (omega (arith, filled_length n l)))

  -- one store more
  pub filled_store : (l out : List A) (i : ℕ) (v : A) → out ≡ filled f i l → v ≡ f i → set out i v ≡ filled f (i + 1) l
  filled_store l out i v h e = ap (λ (m : List A). set m i v) h ∙ ap (set (filled f i l) i) e ∙ sym (filled_more i l)

  -- the loop's end
  pub filled_end : (l out : List A) (i n : ℕ) → out ≡ filled f i l → i ≤ n → n ≤ i → out ≡ filled f n l
  filled_end l out i n h p q = let e : i ≡ n = omega arith in h ∙ ap (λ (k : ℕ). filled f k l) e

-- what a loop leaves that puts f of each element in its place
pub filled_all : {A : Type 0} (f : A → A) (d : A) (l : List A) → filled (λ k. f (get_or l k d)) (length l) l ≡ map f l
filled_all f d l = ext_get_or d (filled (λ k. f (get_or l k d)) (length l) l) (map f l) (size ∙ sym (length-map l f))
    (λ k q. filled_at (λ k. f (get_or l k d)) (length l) l d k (omega (arith, size)) (omega arith) ∙ sym (get_d_map_in f l k d d (omega (arith, size))))
  where
    size : length (filled (λ k. f (get_or l k d)) (length l) l) ≡ length l
    size = filled_length (λ k. f (get_or l k d)) (length l) l
