-- What a pass leaves that raises each earliest start to the bound that precedences give.
use Rattle.std.specs.Prelude.{◌≡◌, Bool, List, [], ◌∷◌, ◌⊎◌, ◌↔◌, ℕ, ◌<◌, ℤ, pos, ◌≤ℤ◌, ◌<ℤ◌, length, get_or}
use Rattle.integers.specs.Answers.{answered, refused_by}
use Rattle.scheduling.specs.Scheduling.{whole, Tasks, Largest, Schedule}
use Rattle.records.specs.declared.record.DisjunctivePropagator.{DisjunctivePropagator}
use Rattle.records.specs.Records.{tasks_in}
use Rattle.records.specs.Refusals.{input_number}
use Rattle.precedences.specs.Predecessors.{AllBefore, PrecedenceBound}
use Rattle.precedences.specs.declared.answers.Precedences.{Precedences}
use Rattle.precedences.specs.Numbers.{numbers_of_precedences}

module _ (J : Tasks whole) where
  -- i is the lowest task whose bound passes its latest start
  pub record FirstEmptied (i : ℕ) : Type 0 where
    pub small : i < J.count
    pub bound : ℤ
    pub is_bound : PrecedenceBound J i bound
    pub passes : J.latest i <ℤ bound
    pub lowest : (k : ℕ) → k < i → (b : ℤ) → PrecedenceBound J k b → b ≤ℤ J.latest k

  -- no bound passes a latest start
  abbrev pub NoneEmptied : Type 0
  NoneEmptied = (k : ℕ) → k < J.count → (b : ℤ) → PrecedenceBound J k b → b ≤ℤ J.latest k

  -- An accepted pass, from the earliest starts es to es'. It ends Emptied exactly with the lowest task whose bound passes its latest start. Then no start
  -- changes, and there is no schedule. Otherwise it is Done: each start is the larger of its old value and its bound, both from the ranges at entry. Every
  -- schedule starts each task at or after that. However it ends, all of P comes before i in every schedule.
  pub record LeftPrecedences (es : List ℤ) (r : Precedences) (es' : List ℤ) : Type 0 where
    pub before : (s : ℕ → ℤ) → Schedule J s → (i : ℕ) → i < J.count → AllBefore J i s
    pub emptied : (i : ℕ) → (numbers_of_precedences r ≡ answered 1 (pos i ∷ [])) ↔ FirstEmptied i
    pub done : (numbers_of_precedences r ≡ answered 0 []) ↔ NoneEmptied
    pub kept : (numbers_of_precedences r).kind ≡ 1 → es' ≡ es
    pub size : length es' ≡ length es
    pub starts : (numbers_of_precedences r).kind ≡ 0 → (i : ℕ) → i < J.count
        → Largest whole (λ v. (J.earliest i ≡ v) ⊎ PrecedenceBound J i v) (get_or es' i (pos 0))
    pub no_schedule : (numbers_of_precedences r).kind ≡ 1 → (s : ℕ → ℤ) → Schedule J s → ⊥
    pub holds : (numbers_of_precedences r).kind ≡ 0 → (s : ℕ → ℤ) → Schedule J s → (i : ℕ) → i < J.count → get_or es' i (pos 0) ≤ℤ s i

-- A refused pass changes no start.
pub record KeptStarts (es : List ℤ) (number : ℕ) (r : Precedences) (es' : List ℤ) : Type 0 where
  pub answer : numbers_of_precedences r ≡ refused_by number
  pub starts : es' ≡ es

-- `bars` says whether the bars of the ranges fit. The first of a run's tests on the record and its ranges that fails refuses the pass.
pub record RanPrecedences (before : DisjunctivePropagator) (es ls : List ℤ) (bars : Bool) (r : Precedences) (es' : List ℤ) : Type 0 where
  pub refused : (input_number before es ls bars ≡ 0 → ⊥) → KeptStarts es (input_number before es ls bars) r es'
  pub ran : input_number before es ls bars ≡ 0 → LeftPrecedences (tasks_in before es ls) es r es'
