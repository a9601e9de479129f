-- The reason of one task's bound: its atoms, what refuses the call, and what it leaves.
use Rattle.std.specs.Prelude.{◌≡◌, Bool, true, false, Result, List, [], ◌∷◌, ◌++◌, ℕ, zero, suc, ◌+◌, ◌*◌, ◌≤◌, ◌<◌, leb, ℤ, pos, length}
use Rattle.std.proofs.Math.Option.{some, none}
use Rattle.integers.specs.declared.refused.Refusal.{Refusal}
use Rattle.integers.specs.Refused as refused
use Rattle.integers.specs.Answers.{answered, refused_by}
use Rattle.integers.specs.Tests.{Test, test, refusal}
use Rattle.integers.specs.Words.{overwritten}
use Rattle.scheduling.specs.Scheduling.{whole, Tasks, TaskSet, Atom, HoldsAtEntry, Contradicts}
use Rattle.scheduling.specs.Words.{atom_words}
use Rattle.records.specs.declared.record.DisjunctivePropagator.{DisjunctivePropagator}
use Rattle.records.specs.Records.{tasks_in}
use Rattle.precedences.specs.Predecessors.{predecessors, AllBefore, PrecedenceBound}
use Rattle.precedences.specs.ReasonNumbers.{numbers_of_reason}
use Rattle.precedences.specs.Bounds.{Raises, bound_tests}

-- task j starts at v or later; at v or earlier
abbrev pub at_least : ℕ → ℤ → Atom
at_least j v = record { variable = j; kind = 0; value = v }

abbrev pub at_most : ℕ → ℤ → Atom
at_most j v = record { variable = j; kind = 1; value = v }

-- both bounds of task j, earliest before latest, where it is a member
abbrev pub both_of : Bool → ℕ → ℤ → ℤ → List Atom
both_of true j earliest latest = at_least j earliest ∷ at_most j latest ∷ []
both_of false j earliest latest = []

-- those of the members of Ω below n, by number
unfoldable pub both_bounds : (ℕ → ℤ) → (ℕ → ℤ) → TaskSet → ℕ → List Atom
both_bounds earliest latest Ω zero = []
both_bounds earliest latest Ω (suc n) = both_bounds earliest latest Ω n ++ both_of (Ω n) n (earliest n) (latest n)

module _ (J : Tasks whole) (i : ℕ) where
  -- i's earliest start, then both bounds of each member of P
  abbrev pub reason_of : List Atom
  reason_of = at_least i (J.earliest i) ∷ both_bounds J.earliest J.latest (predecessors J i) J.count

  -- An accepted call, from the words ws to ws'. Where the bound raises i, the reason is at the front, every word after it is unchanged, and the answer is
  -- its atom count. Elsewhere the answer is 0, and no word changes. The reason holds at entry. Take starts of any range that meet it, with no two tasks
  -- overlapping. Then all of P comes before i, and i starts at or after the bound.
  pub record Explained (ws : List ℤ) (r : Result ℕ Refusal) (ws' : List ℤ) : Type 0 where
    pub written : Raises J i → (numbers_of_reason r ≡ answered 0 (pos (length reason_of) ∷ [])) × (ws' ≡ overwritten ws (atom_words reason_of))
    pub nothing : (Raises J i → ⊥) → (numbers_of_reason r ≡ answered 0 (pos 0 ∷ [])) × (ws' ≡ ws)
    pub few : length reason_of + 1 ≤ 2 * J.count
    pub holds : HoldsAtEntry J reason_of
    pub before : (s : ℕ → ℤ) → Contradicts J reason_of none s → AllBefore J i s
    pub sound : (b : ℤ) → PrecedenceBound J i b → (s : ℕ → ℤ) → Contradicts J reason_of (some (at_least i b)) s → ⊥

-- The bound's tests; then 16: no room for the reason
abbrev pub reason_tests : DisjunctivePropagator → List ℤ → List ℤ → Bool → ℕ → ℕ → List Test
reason_tests r es ls bars task words = bound_tests r es ls bars task ++ (test refused.REASON_ROOM (leb (6 * r.count) words) ∷ [])

abbrev pub reason_number : DisjunctivePropagator → List ℤ → List ℤ → Bool → ℕ → ℕ → ℕ
reason_number r es ls bars task words = refusal (reason_tests r es ls bars task words)

-- A refused call changes no word.
pub record KeptWords (ws : List ℤ) (number : ℕ) (r : Result ℕ Refusal) (ws' : List ℤ) : Type 0 where
  pub answer : numbers_of_reason r ≡ refused_by number
  pub words : ws' ≡ ws

-- `bars` says whether the bars of the ranges fit. The first test that fails refuses the call.
pub record ReasonGiven (before : DisjunctivePropagator) (es ls : List ℤ) (bars : Bool) (task : ℕ)
    (ws : List ℤ) (r : Result ℕ Refusal) (ws' : List ℤ) : Type 0 where
  pub refused : (reason_number before es ls bars task (length ws) ≡ 0 → ⊥) → KeptWords ws (reason_number before es ls bars task (length ws)) r ws'
  pub given : reason_number before es ls bars task (length ws) ≡ 0 → Explained (tasks_in before es ls) task ws r ws'

-- The same tests as facts.
pub record AcceptedReason (r : DisjunctivePropagator) (task words : ℕ) : Type 0 where
  pub small : task < r.count
  pub room : 6 * r.count ≤ words
