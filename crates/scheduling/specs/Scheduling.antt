-- Scheduling on one machine, after Vilím's thesis: tasks and sets of tasks, est, lct, p and ect, overloads, the edge-finding rule, schedules, reasons, checks.
-- What speaks of time is stated over a clock: whole numbers for the contracts, natural numbers for the proofs.
use Rattle.std.specs.Prelude.{◌≡◌, Bool, true, false, cond, ◌||◌, List, [], ◌∷◌, ◌++◌, ◌⊎◌, ℕ, zero, suc, ◌+◌, ◌≤◌, ◌<◌, ℤ, pos, negsuc, ◌+ℤ◌, ◌≤ℤ◌, ◌<ℤ◌, eqb, length, get_or}
use Rattle.std.proofs.Math.Option.{Option, some, none}

-- Clocks -----------------------------------------------------------------------------------------------------------------------

-- A clock: moments, their order, and the moment a number of units later.
pub record Clock : Type 1 where
  pub Moment : Type 0
  pub upto : Moment → Moment → Type 0
  pub before : Moment → Moment → Type 0
  pub later : Moment → ℕ → Moment

-- the whole numbers
abbrev pub whole : Clock
whole = record { Moment = ℤ; upto = ◌≤ℤ◌; before = ◌<ℤ◌; later = λ t d. t +ℤ pos d }

-- the natural numbers
abbrev pub natural : Clock
natural = record { Moment = ℕ; upto = ◌≤◌; before = ◌<◌; later = ◌+◌ }

module _ (C : Clock) where
  -- v is the largest moment of which P holds
  pub record Largest (P : C.Moment → Type 0) (v : C.Moment) : Type 0 where
    pub holds : P v
    pub bounds : (w : C.Moment) → P w → C.upto w v

  -- v is the least moment of which P holds
  pub record Least (P : C.Moment → Type 0) (v : C.Moment) : Type 0 where
    pub holds : P v
    pub bounds : (w : C.Moment) → P w → C.upto v w

-- Tasks and sets of tasks ------------------------------------------------------------------------------------------------------

-- The tasks 0 to count − 1: the range of each one's start, and its duration.
pub record Tasks (C : Clock) : Type 0 where
  pub count : ℕ
  pub earliest : ℕ → C.Moment
  pub latest : ℕ → C.Moment
  pub duration : ℕ → ℕ

-- the tasks of three lists: durations, earliest starts, latest starts
abbrev pub tasks_of : List ℕ → List ℤ → List ℤ → Tasks whole
tasks_of ds es ls = record { count = length ds; earliest = λ k. get_or es k (pos 0); latest = λ k. get_or ls k (pos 0); duration = λ k. get_or ds k 0 }

-- A set of tasks says of each task whether it is in.
abbrev pub TaskSet : Type 0
TaskSet = ℕ → Bool

infixl 20 ◌with◌
-- Ω with i
abbrev pub ◌with◌ : TaskSet → ℕ → TaskSet
◌with◌ Ω i k = eqb k i || Ω k

-- f 0 + .. + f (n − 1)
unfoldable pub total : (ℕ → ℕ) → ℕ → ℕ
total f zero = 0
total f (suc n) = total f n + f n

module _ {C : Clock} (J : Tasks C) where
  -- No range is empty, and each task lasts one unit or more.
  pub record Proper : Type 0 where
    pub ranges : (k : ℕ) → k < J.count → C.upto (J.earliest k) (J.latest k)
    pub lasts : (k : ℕ) → k < J.count → 1 ≤ J.duration k

  -- k is a task of Ω
  pub record In (Ω : TaskSet) (k : ℕ) : Type 0 where
    pub small : k < J.count
    pub mem : Ω k ≡ true

  -- k is a task outside Ω
  pub record Outside (Ω : TaskSet) (k : ℕ) : Type 0 where
    pub small : k < J.count
    pub mem : Ω k ≡ false

  abbrev pub NonEmpty : TaskSet → Type 0
  NonEmpty Ω = (k : ℕ) × In Ω k

  abbrev pub Subset : TaskSet → TaskSet → Type 0
  Subset S Ω = (k : ℕ) → In S k → Ω k ≡ true

  -- the latest completion of task k: its latest start plus its duration
  abbrev pub completion : ℕ → C.Moment
  completion k = C.later (J.latest k) (J.duration k)

  -- est, lct, p, ect -------------------------------------------------------------------------------------------------------------

  -- est(Ω), the least earliest start: a set that has one is not empty
  abbrev pub Est : TaskSet → C.Moment → Type 0
  Est Ω = Least C (λ t. (k : ℕ) × In Ω k × (J.earliest k ≡ t))

  -- lct(Ω), the greatest latest completion
  abbrev pub Lct : TaskSet → C.Moment → Type 0
  Lct Ω = Largest C (λ t. (k : ℕ) × In Ω k × (completion k ≡ t))

  -- p(Ω), the duration sum
  unfoldable pub processing : TaskSet → ℕ
  processing Ω = total (λ k. cond (Ω k) (J.duration k) 0) J.count

  -- t is est + p of a non-empty subset of Ω
  pub record EstPlusP (Ω : TaskSet) (t : C.Moment) : Type 0 where
    pub part : TaskSet
    pub within : Subset part Ω
    pub start : C.Moment
    pub est : Est part start
    pub sum : C.later start (processing part) ≡ t

  -- ect(Ω), the largest est + p over all non-empty subsets
  abbrev pub Ect : TaskSet → C.Moment → Type 0
  Ect Ω = Largest C (EstPlusP Ω)

  -- Overloads, the edge-finding rule, schedules ----------------------------------------------------------------------------------

  -- Ω overloads its span, est to lct: est + p > lct
  pub record Overloads (Ω : TaskSet) : Type 0 where
    pub start : C.Moment
    pub end : C.Moment
    pub est : Est Ω start
    pub lct : Lct Ω end
    pub over : C.before end (C.later start (processing Ω))

  -- b is an edge-finding bound of i: ect(Ω) for a set Ω that i is outside of, with ect(Ω with i) > lct(Ω)
  pub record EdgeFindingBound (i : ℕ) (b : C.Moment) : Type 0 where
    pub set : TaskSet
    pub outside : Outside set i
    pub end : C.Moment
    pub lct : Lct set end
    pub joint : C.Moment
    pub ect_with : Ect (set with i) joint
    pub passes : C.before end joint
    pub ect : Ect set b

  -- no two tasks overlap
  abbrev pub NoOverlap : (ℕ → C.Moment) → Type 0
  NoOverlap s = (j k : ℕ) → j < J.count → k < J.count → (j ≡ k → ⊥)
      → C.upto (C.later (s j) (J.duration j)) (s k) ⊎ C.upto (C.later (s k) (J.duration k)) (s j)

  -- A schedule: a start for each task in its range, no two tasks overlapping. A post (task, bound) holds in it if bound is at most s task.
  pub record Schedule (s : ℕ → C.Moment) : Type 0 where
    pub from : (k : ℕ) → k < J.count → C.upto (J.earliest k) (s k)
    pub to : (k : ℕ) → k < J.count → C.upto (s k) (J.latest k)
    pub apart : NoOverlap s

  -- What a run must find ---------------------------------------------------------------------------------------------------------

  -- Some set overloads its span, or some edge-finding bound passes a latest start.
  abbrev pub Conflict : Type 0
  Conflict = ((Ω : TaskSet) × Overloads Ω) ⊎ ((i : ℕ) × (b : C.Moment) × EdgeFindingBound i b × C.before (J.latest i) b)

  -- Done, with the starts `start` and m posts: no conflict; each start is the largest of its old value and its edge-finding bounds;
  -- the posts are one for each task so raised, at the largest of its bounds, and no others.
  pub record Done (start : ℕ → C.Moment) (m : ℕ) (task : ℕ → ℕ) (bound : ℕ → C.Moment) : Type 0 where
    pub no_overload : (Ω : TaskSet) → Overloads Ω → ⊥
    pub no_passing : (i : ℕ) (b : C.Moment) → EdgeFindingBound i b → C.upto b (J.latest i)
    pub starts : (i : ℕ) → i < J.count → Largest C (λ v. (J.earliest i ≡ v) ⊎ EdgeFindingBound i v) (start i)
    pub small : (j : ℕ) → j < m → task j < J.count
    pub raises : (j : ℕ) → j < m → C.before (J.earliest (task j)) (bound j)
    pub at_largest : (j : ℕ) → j < m → Largest C (EdgeFindingBound (task j)) (bound j)
    pub every : (k : ℕ) → k < J.count → C.before (J.earliest k) (start k) → (j : ℕ) × (j < m) × (task j ≡ k)
    pub once : (i j : ℕ) → i < m → j < m → task i ≡ task j → i ≡ j

-- Atoms and reasons ------------------------------------------------------------------------------------------------------------

-- An atom compares a variable with a value: kind 0 is ≥, 1 is ≤, 2 is =, 3 is ≠. Variable k is the start of task k.
pub record Atom : Type 0 where
  pub variable : ℕ
  pub kind : ℕ
  pub value : ℤ

-- z compares with v as the kind says
abbrev pub Compares : ℕ → ℤ → ℤ → Type 0
Compares zero v z = v ≤ℤ z
Compares (suc zero) v z = z ≤ℤ v
Compares (suc (suc zero)) v z = z ≡ v
Compares (suc (suc (suc k))) v z = z ≡ v → ⊥

-- the atom allows its variable the value z
abbrev pub Allows : Atom → ℤ → Type 0
Allows a z = Compares a.kind a.value z

-- the atom is met at the starts s
abbrev pub Meets : (ℕ → ℤ) → Atom → Type 0
Meets s a = Allows a (s a.variable)

-- P holds of every atom of a list
abbrev pub Every : (Atom → Type 0) → List Atom → Type 0
Every P [] = Unit {0}
Every P (a ∷ rest) = P a × Every P rest

-- A reason holds at entry: every choice of starts from the ranges meets each of its atoms.
abbrev pub HoldsAtEntry : Tasks whole → List Atom → Type 0
HoldsAtEntry J reason = (s : ℕ → ℤ) → ((k : ℕ) → k < J.count → (J.earliest k ≤ℤ s k) × (s k ≤ℤ J.latest k)) → Every (Meets s) reason

-- not (≥ v) is ≤ v − 1, not (≤ v) is ≥ v + 1; = and ≠ change places
abbrev pub negated_kind : ℕ → ℕ
negated_kind zero = 1
negated_kind (suc zero) = 0
negated_kind (suc (suc zero)) = 3
negated_kind (suc (suc (suc k))) = 2

abbrev pub negated_value : ℕ → ℤ → ℤ
negated_value zero v = v +ℤ negsuc 0
negated_value (suc zero) v = v +ℤ pos 1
negated_value (suc (suc k)) v = v

abbrev pub negation : Atom → Atom
negation a = record { variable = a.variable; kind = negated_kind a.kind; value = negated_value a.kind a.value }

-- Checks -----------------------------------------------------------------------------------------------------------------------

-- The values of variable k that the atoms admit.
abbrev pub Admits : List Atom → ℕ → ℤ → Type 0
Admits atoms k z = Every (λ a. a.variable ≡ k → Allows a z) atoms

-- what a check takes for given: the premises, and the consequent negated
abbrev pub given : List Atom → Option Atom → List Atom
given premises none = premises
given premises (some a) = premises ++ (negation a ∷ [])

-- Ω are the tasks to which the atoms leave a least and a greatest value, and B has these as their ranges. J's own ranges play no part.
pub record Bounded (J : Tasks whole) (atoms : List Atom) (Ω : TaskSet) (B : Tasks whole) : Type 0 where
  pub same_count : B.count ≡ J.count
  pub same_duration : (k : ℕ) → B.duration k ≡ J.duration k
  pub least : (k : ℕ) → In J Ω k → Least whole (Admits atoms k) (B.earliest k)
  pub greatest : (k : ℕ) → In J Ω k → Largest whole (Admits atoms k) (B.latest k)
  pub only : (k : ℕ) → k < J.count → Ω k ≡ false → (u v : ℤ) → Least whole (Admits atoms k) u → Largest whole (Admits atoms k) v → ⊥

-- The checker's formula for task i after the set Ω: min(est(i), est(Ω)) + p(Ω) + p(i) > lct(Ω), and ect(Ω) passes i's latest start.
-- Without a consequent the formula is that Ω overloads its span.
pub record RuleFormula {C : Clock} (J : Tasks C) (Ω : TaskSet) (i : ℕ) : Type 0 where
  pub outside : Outside J Ω i
  pub start : C.Moment
  pub end : C.Moment
  pub joint : C.Moment
  pub est : Est J Ω start
  pub lct : Lct J Ω end
  pub ect : Ect J Ω joint
  pub over_i : C.before end (C.later (J.earliest i) (processing J Ω + J.duration i))
  pub over_Ω : C.before end (C.later start (processing J Ω + J.duration i))
  pub passes : C.before (J.latest i) joint

-- The premises with a consequent meet the checker's formula.
pub record PassesWith (J : Tasks whole) (premises : List Atom) (consequent : Atom) : Type 0 where
  pub set : TaskSet
  pub ranges : Tasks whole
  pub bounded : Bounded J (given premises (some consequent)) (set with consequent.variable) ranges
  pub formula : RuleFormula ranges set consequent.variable

-- The premises alone meet it.
pub record PassesAlone (J : Tasks whole) (premises : List Atom) : Type 0 where
  pub set : TaskSet
  pub ranges : Tasks whole
  pub bounded : Bounded J premises set ranges
  pub formula : Overloads ranges set

abbrev pub PassesFormula : Tasks whole → List Atom → Option Atom → Type 0
PassesFormula J premises none = PassesAlone J premises
PassesFormula J premises (some a) = PassesWith J premises a

-- the consequent is not met; where there is none, nothing is asked
abbrev pub Unmet : (ℕ → ℤ) → Option Atom → Type 0
Unmet s none = Unit {0}
Unmet s (some a) = Meets s a → ⊥

-- The starts s, of whatever range, contradict a check: no two tasks overlap, the premises are met and the consequent is not.
-- A premise on a variable that is no task's counts as met.
pub record Contradicts (J : Tasks whole) (premises : List Atom) (consequent : Option Atom) (s : ℕ → ℤ) : Type 0 where
  pub apart : NoOverlap J s
  pub premises_met : Every (λ a. a.variable < J.count → Meets s a) premises
  pub consequent_not : Unmet s consequent
