-- Mirrored time: the caller's moment t is −t there. A task that starts at s and lasts p starts there at −(s + p). The mirrored rule moves latest starts.
use Rattle.std.specs.Prelude.{◌≡◌, List, map, ◌⊎◌, ℕ, zero, suc, ◌<◌, ℤ, pos, neg_ℤ, ◌+ℤ◌, ◌≤ℤ◌, ◌<ℤ◌}
use Rattle.scheduling.specs.Scheduling.{whole, Tasks, TaskSet, ◌with◌, Least, Outside, Subset, Est, Lct, processing, Overloads, Atom}

-- the mirrored start of a task that lasts p
abbrev pub start_mirrored : ℕ → ℤ → ℤ
start_mirrored p s = neg_ℤ (s +ℤ pos p)

-- a range a..b with duration p becomes −(b + p)..−(a + p)
abbrev pub mirror : Tasks whole → Tasks whole
mirror J = record {
  count = J.count;
  earliest = λ k. start_mirrored (J.duration k) (J.latest k);
  latest = λ k. start_mirrored (J.duration k) (J.earliest k);
  duration = J.duration;
}

-- start ≥ v of mirrored time reads start ≤ −v − p, and the other way round
abbrev pub mirror_kind : ℕ → ℕ
mirror_kind zero = 1
mirror_kind (suc zero) = 0
mirror_kind (suc (suc k)) = suc (suc k)

abbrev pub mirror_atom : (ℕ → ℕ) → Atom → Atom
mirror_atom duration a = record { variable = a.variable; kind = mirror_kind a.kind; value = start_mirrored (duration a.variable) a.value }

abbrev pub mirror_atoms : (ℕ → ℕ) → List Atom → List Atom
mirror_atoms duration = map (mirror_atom duration)

module _ (J : Tasks whole) where
  -- t is lct − p of a non-empty subset of Ω
  pub record LctLessP (Ω : TaskSet) (t : ℤ) : Type 0 where
    pub part : TaskSet
    pub within : Subset J part Ω
    pub end : ℤ
    pub lct : Lct J part end
    pub difference : t +ℤ pos (processing J part) ≡ end

  -- lst(Ω), the smallest lct − p over all non-empty subsets
  abbrev pub Lst : TaskSet → ℤ → Type 0
  Lst Ω = Least whole (LctLessP Ω)

  -- b is a bound of the mirrored rule for the start of i: i ends by lst(Ω) for a set Ω that i is outside of, with lst(Ω with i) < est(Ω)
  pub record MirroredBound (i : ℕ) (b : ℤ) : Type 0 where
    pub set : TaskSet
    pub outside : Outside J set i
    pub start : ℤ
    pub est : Est J set start
    pub joint : ℤ
    pub lst_with : Lst (set with i) joint
    pub passes : joint <ℤ start
    pub lst : Lst set (b +ℤ pos (J.duration i))

  -- Some set overloads its span, or some bound of the mirrored rule is below an earliest start.
  abbrev pub MirroredConflict : Type 0
  MirroredConflict = ((Ω : TaskSet) × Overloads J Ω) ⊎ ((i : ℕ) × (b : ℤ) × MirroredBound i b × (b <ℤ J.earliest i))

  -- Done, with the latest starts `start` and m posts: no conflict; each latest start is the smallest of its old value and its bounds;
  -- the posts are one for each task so moved, at the smallest of its bounds, and no others.
  pub record MirroredDone (start : ℕ → ℤ) (m : ℕ) (task : ℕ → ℕ) (bound : ℕ → ℤ) : Type 0 where
    pub no_overload : (Ω : TaskSet) → Overloads J Ω → ⊥
    pub no_passing : (i : ℕ) (b : ℤ) → MirroredBound i b → J.earliest i ≤ℤ b
    pub starts : (i : ℕ) → i < J.count → Least whole (λ v. (J.latest i ≡ v) ⊎ MirroredBound i v) (start i)
    pub small : (j : ℕ) → j < m → task j < J.count
    pub lowers : (j : ℕ) → j < m → bound j <ℤ J.latest (task j)
    pub at_smallest : (j : ℕ) → j < m → Least whole (MirroredBound (task j)) (bound j)
    pub every : (k : ℕ) → k < J.count → start k <ℤ J.latest k → (j : ℕ) × (j < m) × (task j ≡ k)
    pub once : (i j : ℕ) → i < m → j < m → task i ≡ task j → i ≡ j
