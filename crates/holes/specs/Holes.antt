-- Holes: ascending lists of whole numbers, and the first and the last value that is none of them.
use Rattle.std.specs.Prelude.{◌≡◌, Bool, true, cond, ◌&&◌, List, [], ◌∷◌, ◌++◌, ℕ, suc, ◌-◌, ℤ, pos, negsuc, ◌+ℤ◌, length, replicate, ◌≤ℤ◌, ◌<ℤ◌}
use Rattle.std.specs.Int.Signed.{le_z, lt_z}
use Rattle.integers.specs.Limits.{HOLES}
use Rattle.integers.specs.WholeNumbers.{eq_z, has}

-- each is below all that follow it
abbrev pub Ascending : List ℤ → Type 0
Ascending [] = Unit {0}
Ascending (h ∷ hs) = ((x : ℤ) → has hs x ≡ true → h <ℤ x) × Ascending hs

-- those of a list that p keeps
unfoldable pub kept : (ℤ → Bool) → List ℤ → List ℤ
kept p [] = []
kept p (h ∷ hs) = cond (p h) (h ∷ kept p hs) (kept p hs)

-- those below v, and those above v
abbrev pub below : ℤ → List ℤ → List ℤ
below v = kept (λ h. lt_z h v)

abbrev pub above : ℤ → List ℤ → List ℤ
above v = kept (λ h. lt_z v h)

-- an ascending list with v put in
unfoldable pub inserted : ℤ → List ℤ → List ℤ
inserted v hs = below v hs ++ v ∷ above v hs

-- how many stand before the first that is v or above
unfoldable pub rank : ℤ → List ℤ → ℕ
rank v [] = 0
rank v (h ∷ hs) = cond (le_z v h) 0 (suc (rank v hs))

-- the places of an array: the list, and 0 past it
abbrev pub padded : List ℤ → List ℤ
padded hs = hs ++ replicate (HOLES - length hs) (pos 0)

-- every place is 0
unfoldable pub zeros : List ℤ → Bool
zeros [] = true
zeros (h ∷ hs) = eq_z h (pos 0) && zeros hs

-- a lower bound that is the hole h moves up by one
abbrev pub step_upward : ℤ → ℤ → ℤ
step_upward h b = cond (eq_z h b) (b +ℤ pos 1) b

-- an upper bound that is the hole h moves down by one
abbrev pub step_downward : ℤ → ℤ → ℤ
step_downward h b = cond (eq_z h b) (b +ℤ negsuc 0) b

-- The first value from b on that is no hole, where the holes ascend: a bound that is a hole moves on, as in the source's recursion.
unfoldable pub first_at_or_after : ℤ → List ℤ → ℤ
first_at_or_after b [] = b
first_at_or_after b (h ∷ hs) = first_at_or_after (step_upward h b) hs

-- The last value up to b that is no hole.
unfoldable pub last_at_or_before : ℤ → List ℤ → ℤ
last_at_or_before b [] = b
last_at_or_before b (h ∷ hs) = step_downward h (last_at_or_before b hs)

-- v is the first value from b on that is no hole
pub record First (b : ℤ) (hs : List ℤ) (v : ℤ) : Type 0 where
  pub from : b ≤ℤ v
  pub free : has hs v ≡ true → ⊥
  pub passed : (z : ℤ) → b ≤ℤ z → z <ℤ v → has hs z ≡ true
  pub near : v ≤ℤ (b +ℤ pos (length hs))

-- v is the last value up to b that is no hole
pub record Last (b : ℤ) (hs : List ℤ) (v : ℤ) : Type 0 where
  pub to : v ≤ℤ b
  pub free : has hs v ≡ true → ⊥
  pub passed : (z : ℤ) → v <ℤ z → z ≤ℤ b → has hs z ≡ true
  pub near : b ≤ℤ (v +ℤ pos (length hs))
