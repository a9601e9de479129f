-- Moments: whole numbers counted from −o, so that those at or after −o are natural numbers.
use Rattle.std.specs.Prelude.{ℕ, suc, ◌+◌, ◌-◌, ℤ, pos, negsuc, neg_ℤ, ◌≤ℤ◌, List, get_or}
use Rattle.std.proofs.Math.IntN.{sub_ℕ}

-- the moment of z is z + o
abbrev pub moment : ℕ → ℤ → ℕ
moment o (pos n) = o + n
moment o (negsuc n) = o - suc n

-- z is at or after −o, so that it has a moment
abbrev pub Above : ℕ → ℤ → Type 0
Above o z = neg_ℤ (pos o) ≤ℤ z

-- the whole number at a moment: m − o
abbrev pub instant : ℕ → ℕ → ℤ
instant o m = sub_ℕ m o

-- The moment of 0 in code: that of the least i32, the source's i32::MIN, is 0.
abbrev pub zero_at : ℕ
zero_at = 2147483648

-- the moment of task k's start
abbrev pub moment_at : List ℤ → ℕ → ℕ
moment_at xs k = moment zero_at (get_or xs k (pos 0))

-- task k's latest completion: its latest start plus its duration
abbrev pub completion_at : List ℕ → List ℕ → ℕ → ℕ
completion_at latest durations k = get_or latest k 0 + get_or durations k 0
