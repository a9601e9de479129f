-- A larger set has a later ect, and a later lct.
use Prim.Native.Nat.{ℕ, ◌≤◌}
use Rattle.scheduling.specs.Scheduling.{natural, Tasks, TaskSet, Subset, Lct, EstPlusP, Ect}

unfoldable pub part_mono : (J : Tasks natural) (S Ω : TaskSet) (v : ℕ) → Subset J S Ω → EstPlusP J S v → EstPlusP J Ω v
part_mono J S Ω v h f = record { part = f.part; within = λ k q. h k (record { small = q.small; mem = f.within k q }); start = f.start; est = f.est; sum = f.sum }

pub ect_mono : (J : Tasks natural) (S Ω : TaskSet) (v w : ℕ) → Subset J S Ω → Ect J S v → Ect J Ω w → v ≤ w
ect_mono J S Ω v w h a b = b.bounds v (part_mono J S Ω v h a.holds)

pub lct_mono : (J : Tasks natural) (S Ω : TaskSet) (v w : ℕ) → Subset J S Ω → Lct J S v → Lct J Ω w → v ≤ w
lct_mono J S Ω v w h a b = let (k, km, e) = a.holds in b.bounds v (k, record { small = km.small; mem = h k km }, e)
