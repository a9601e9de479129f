-- A list in the first places of a record's array.
use mathlib.Core.Path.{◌≡◌, sym, ap, ◌∙◌}
use mathlib.Core.List.{List, [], ◌∷◌, ◌++◌}
use Prim.Native.Nat.{ℕ, suc, ◌+◌, ◌-◌, ◌≤◌, ◌<◌}
use native.Mathlib.Omega.{arith}
use native.Mathlib.Decide.{dec_lt}
use lib.ListN.{length, get_or, take, set, replicate, length-append, length-replicate, get_or-append}
use lib.Seq.{length-take-le, take-append_seam, get_or-take, get_or-append-add, set-append_seam, append_snoc, ext_get_or}
use Rattle.integers.specs.Limits.{TASKS}
use Rattle.integers.proofs.FilledLists.{get_d_fresh}
use Rattle.std.specs.List.{CopiedTo, SameBelow, SameFrom}
use Rattle.std.proofs.lemmas.List.{get_or-set_other, length-set}
use Rattle.std.proofs.lemmas.Grind.{get_or-set_at}
use Rattle.task_changes.specs.Lists.{placed, without}
use Rattle.task_changes.proofs.LeftOut.{without_length, without_before, without_after}

module _ (l : List ℕ) where
  pub placed_length : length l ≤ TASKS → length (placed l) ≡ TASKS
  placed_length h = let z = length-replicate {A = ℕ} (TASKS - length l) 0 in omega (arith, length-append l (replicate (TASKS - length l) 0), z)

  pub placed_front : take (length l) (placed l) ≡ l
  placed_front = take-append_seam l (replicate (TASKS - length l) 0)

  pub placed_at : (k : ℕ) → k < length l → get_or (placed l) k 0 ≡ get_or l k 0
  placed_at k h = get_or-append l (replicate (TASKS - length l) 0) 0 k h

  pub placed_past : (k : ℕ) → length l ≤ k → get_or (placed l) k 0 ≡ 0
  placed_past k h =
      let e : k ≡ length l + (k - length l) = omega arith in
      ap (λ (j : ℕ). get_or (placed l) j 0) e ∙ get_or-append-add l (replicate (TASKS - length l) 0) (k - length l) 0 ∙ get_d_fresh 0 (TASKS - length l) (k - length l)

  -- one number more
  pub placed_store : (x : ℕ) → length l < TASKS → set (placed l) (length l) x ≡ placed (l ++ (x ∷ []))
  placed_store x h =
      let e : TASKS - length l ≡ suc (TASKS - length (l ++ (x ∷ []))) = omega (arith, length-append l (x ∷ [])) in
      ap (λ (m : ℕ). set (l ++ replicate m 0) (length l) x) e
      ∙ set-append_seam l 0 (replicate (TASKS - length (l ++ (x ∷ []))) 0) x
      ∙ sym (append_snoc l x (replicate (TASKS - length (l ++ (x ∷ []))) 0))

-- an array that holds 0 from place n on
pub front_placed : (n : ℕ) (l : List ℕ) → length l ≡ TASKS → n ≤ TASKS → ((k : ℕ) → n ≤ k → k < TASKS → get_or l k 0 ≡ 0) → l ≡ placed (take n l)
front_placed n l long few unused = ext_get_or 0 l (placed (take n l)) (long ∙ sym (placed_length (take n l) (omega (arith, front)))) same
  where
    front : length (take n l) ≡ n
    front = length-take-le n l (omega (arith, long, few))

    same : (k : ℕ) → k < length l → get_or l k 0 ≡ get_or (placed (take n l)) k 0
    same k h = elim (dec_lt k n) [
      | yes q ↦ sym (placed_at (take n l) k (omega (arith, front)) ∙ get_or-take n l k 0 q)
      | no q ↦ unused k (omega arith) (omega (arith, long)) ∙ sym (placed_past (take n l) k (omega (arith, front)))
    ]

-- and one number more in its place n
pub last_stored : (n : ℕ) (l : List ℕ) (x : ℕ) → length l ≡ TASKS → n < TASKS → ((k : ℕ) → n ≤ k → k < TASKS → get_or l k 0 ≡ 0) → set l n x ≡ placed (take n l ++ (x ∷ []))
last_stored n l x long few unused =
    let front : length (take n l) ≡ n = length-take-le n l (omega (arith, long, few)) in
    ap (λ (m : List ℕ). set m n x) (front_placed n l long (omega (arith, few)) unused)
    ∙ ap (λ (k : ℕ). set (placed (take n l)) k x) (sym front)
    ∙ placed_store (take n l) x (omega (arith, front, few))

-- Place t of the first n is closed: the numbers after it are one place lower, and the last place holds 0.
pub gap_closed : (n t : ℕ) (l moved : List ℕ) → length l ≡ TASKS → n ≤ TASKS → t < n → ((k : ℕ) → n ≤ k → k < TASKS → get_or l k 0 ≡ 0)
    → length moved ≡ length l → CopiedTo l moved (t + 1) t (n - (t + 1)) → SameBelow l moved t → SameFrom l moved (t + (n - (t + 1)))
    → set moved (n - 1) 0 ≡ placed (without (take n l) t)
gap_closed n t l moved long few there unused same copied below from = ext_get_or 0 (set moved (n - 1) 0) (placed (without (take n l) t)) sizes each
  where
    front : length (take n l) ≡ n
    front = length-take-le n l (omega (arith, long, few))

    size : length (without (take n l) t) + 1 ≡ n
    size = without_length (take n l) t (omega (arith, front, there)) ∙ front

    sizes : length (set moved (n - 1) 0) ≡ length (placed (without (take n l) t))
    sizes = omega (arith, length-set moved (n - 1) 0, same, long, placed_length (without (take n l) t) (omega (arith, size, few)))

    each : (k : ℕ) → k < length (set moved (n - 1) 0) → get_or (set moved (n - 1) 0) k 0 ≡ get_or (placed (without (take n l) t)) k 0
    each k h = elim (dec_lt k (n - 1)) [
      | yes q ↦ get_or-set_other moved (n - 1) k 0 0 (λ e. omega arith) ∙ inner k q ∙ sym (placed_at (without (take n l) t) k (omega (arith, size)))
      | no q ↦ last k q (omega (arith, h, length-set moved (n - 1) 0, same, long)) ∙ sym (placed_past (without (take n l) t) k (omega (arith, size)))
    ]
      where
        inner : (k : ℕ) → k < n - 1 → get_or moved k 0 ≡ get_or (without (take n l) t) k 0
        inner k q = elim (dec_lt k t) [
          | yes b ↦ below k 0 b ∙ sym (without_before (take n l) t k b ∙ get_or-take n l k 0 (omega arith))
          | no b ↦ copied k 0 (omega arith) (omega arith) ∙ ap (λ (j : ℕ). get_or l j 0) (omega arith) ∙ sym (without_after (take n l) t k (omega arith) ∙ get_or-take n l (suc k) 0 (omega arith))
        ]

        last : (k : ℕ) → (k < n - 1 → ⊥) → k < TASKS → get_or (set moved (n - 1) 0) k 0 ≡ 0
        last k q few_k = elim (dec_lt (n - 1) k) [
          | yes b ↦ get_or-set_other moved (n - 1) k 0 0 (λ e. omega arith) ∙ from k 0 (omega arith) ∙ unused k (omega arith) few_k
          | no b ↦ get_or-set_at moved (n - 1) k 0 0 (omega arith) (omega (arith, same, long, few))
        ]
