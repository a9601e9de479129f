-- Precedences that can be read off the ranges: the tasks that must come before a task, and the bound that they give.
use Rattle.std.specs.Prelude.{not, ◌&&◌, ℕ, eqb, ℤ, pos, ◌+ℤ◌, ◌≤ℤ◌}
use Rattle.std.specs.Int.Signed.{lt_z}
use Rattle.scheduling.specs.Scheduling.{whole, Tasks, TaskSet, In, Ect}

module _ (J : Tasks whole) where
  -- P of task i: the other tasks whose latest start is below i's earliest start plus i's duration
  abbrev pub predecessors : ℕ → TaskSet
  predecessors i j = not (eqb j i) && lt_z (J.latest j) (J.earliest i +ℤ pos (J.duration i))

  -- no two starts from their ranges put j at or after the end of i; the other tasks j of which this holds are P (`exactly_before`)
  abbrev pub NeverAfter : ℕ → ℕ → Type 0
  NeverAfter i j = (u v : ℤ) → (J.earliest i ≤ℤ u) × (u ≤ℤ J.latest i) → (J.earliest j ≤ℤ v) × (v ≤ℤ J.latest j)
      → (u +ℤ pos (J.duration i)) ≤ℤ v → ⊥

  -- at the starts s all of P come before i: each ends by i's start
  abbrev pub AllBefore : ℕ → (ℕ → ℤ) → Type 0
  AllBefore i s = (j : ℕ) → In J (predecessors i) j → (s j +ℤ pos (J.duration j)) ≤ℤ s i

  -- b is the bound of i: ect(P); where P is empty there is none
  abbrev pub PrecedenceBound : ℕ → ℤ → Type 0
  PrecedenceBound i = Ect J (predecessors i)
