-- A loop that marks the numbers of a list, one a turn, leaves the flags of those that stand in it: of the tasks read, and of the variables of atoms.
use mathlib.Core.Path.{◌≡◌, refl, sym, ap, ◌∙◌}
use mathlib.Core.Bool.{Bool, true, ◌||◌}
use mathlib.Core.Logic.{inl, inr}
use mathlib.Core.List.{List, [], ◌∷◌, map}
use Prim.Native.Nat.{ℕ, zero, suc, ◌+◌, ◌*◌, ◌≤◌, ◌<◌}
use native.Mathlib.Omega.{arith}
use native.Mathlib.Numerals.{add-one}
use lib.Dec.{eqb}
use lib.IntN.{ℤ, pos}
use lib.ListN.{length, get_or, set, take, length-map}
use lib.Seq.{get_or-take, take-length, take-take}
use borrow.Author.Tests.{eq-eqb, ne_eqb}
use Rattle.integers.specs.Limits.{TASKS}
use Rattle.integers.specs.Orders.{has}
use Rattle.integers.proofs.Bools.{bool, or_swap}
use Rattle.integers.proofs.FilledLists.{filled_none}
use Rattle.integers.proofs.Lists.{get_d_map_in}
use Rattle.integers.proofs.Permutations.{has_nil, has_at}
use Rattle.scheduling.specs.Scheduling.{natural, Tasks, TaskSet, Atom}
use Rattle.scheduling.specs.Words.{no_atom}
use Rattle.scheduling.proofs.Words.{atoms_length, three_alone}
use Rattle.sorts.specs.Orders.{SortedBy, by_key}
use Rattle.runs.specs.ReasonSets.{named}
use Rattle.overload_test.specs.ReadTasks.{by_completion, read}
use Rattle.overload_test.proofs.NextTask.{order_is}
use Rattle.overload_test.proofs.ReadTasks.{by_completion_is, read_small}
use Rattle.overload_test.specs.declared.task_moments.TaskMoments.{TaskMoments}
use Rattle.conflicts.specs.Answers.{no_flags, flags_of}
use Rattle.overload_test.specs.ReadArrays.{HoldsTasks}
use Rattle.conflicts.specs.HeldTasks.{NamesTasks}
use Rattle.conflicts.proofs.Flags.{flag_set, flags_agree}

-- the flags of the first t numbers
abbrev pub marked : List ℕ → ℕ → List Bool
marked l t = flags_of TASKS (has (take t l))

has_front : (l : List ℕ) (t k : ℕ) → t < length l → has (take (suc t) l) k ≡ eqb (get_or l t 0) k || has (take t l) k
unfolding has
has_front [] t k q = absurd (omega arith)
has_front (x ∷ l) zero k q = refl
has_front (x ∷ l) (suc t) k q = rw (has_front l t k (omega arith)) (or_swap (eqb x k) (eqb (get_or l t 0) k) (has (take t l) k))

pub none_marked : (l : List ℕ) → no_flags ≡ marked l 0
none_marked l = sym (filled_none (has []) no_flags) ∙ flags_agree 0 TASKS (omega arith) (omega arith) (has []) (has []) (λ k q. absurd (omega arith)) (λ k q r. has_nil k)

pub one_marked : (l : List ℕ) (t : ℕ) → t < length l → get_or l t 0 < TASKS → {flags : List Bool} → flags ≡ marked l t → set flags (get_or l t 0) true ≡ marked l (t + 1)
one_marked l t q r {flags} e = rw (add-one t) (ap (λ (f : List Bool). set f (get_or l t 0) true) e
    ∙ flag_set TASKS (omega arith) (has (take t l)) (has (take (suc t) l)) (get_or l t 0) true r
    (has_front l t (get_or l t 0) q ∙ rw (eq-eqb (get_or l t 0) (get_or l t 0) refl)) (λ k s ne. has_front l t k q ∙ rw (ne_eqb (get_or l t 0) k (λ z. ne (sym z)))))

-- flags of tasks among those held
pub names_hold : {J : Tasks natural} {m : TaskMoments} → HoldsTasks J m → (S : TaskSet) → ((k : ℕ) → S k ≡ true → k < J.count) → flags_of TASKS S ≡ flags_of J.count S
names_hold {J} h S small = sym (flags_agree J.count TASKS (omega (arith, h.held.count, h.held.few)) (omega arith) S S (λ k q. refl)
    (λ k q r. elim (bool (S k)) [ inl y ↦ absurd (omega (arith, small k y)) | inr y ↦ y ]))

-- The tasks by latest completion -----------------------------------------------------------------------------------------------

module _ (J : Tasks natural) {m : TaskMoments} (h : HoldsTasks J m) {tasks : List ℕ} (s : SortedBy (by_key m.lct) m.count tasks) where
  task_is : (t : ℕ) → t < m.count → get_or tasks t 0 ≡ get_or (by_completion J) t 0
  task_is t q = sym (get_or-take m.count tasks t 0 q) ∙ ap (λ (o : List ℕ). get_or o t 0) (order_is J h s)

  pub task_known : (t : ℕ) → t < m.count → get_or tasks t 0 < TASKS
  task_known t q = omega (arith, task_is t q, (by_completion_is J).task t (omega (arith, h.held.count)), h.held.count, h.held.few)

  pub front_known : (k t : ℕ) → k ≤ m.count → t < k → get_or (take k tasks) t 0 < TASKS
  front_known k t p q = omega (arith, get_or-take k tasks t 0 q, task_known t (omega arith))

  -- the first k of them are those read
  pub read_marked : (k : ℕ) → k ≤ m.count → marked (take k tasks) k ≡ flags_of J.count (read J k)
  read_marked k q = ap (λ (l : List ℕ). flags_of TASKS (has l)) (take-take k k tasks (omega arith) ∙ sym (take-take k m.count tasks q) ∙ ap (take k) (order_is J h s))
      ∙ names_hold h (read J k) (read_small J k)

-- The variables of atoms -------------------------------------------------------------------------------------------------------

abbrev pub variables : List Atom → List ℕ
variables atoms = map (λ (a : Atom). a.variable) atoms

module _ {words : List ℤ} (h : NamesTasks words) where
  pub atom_count : length words ≡ 3 * length h.atoms
  atom_count = ap length h.is ∙ atoms_length h.atoms

  -- what stands at the first word of atom k
  pub variable_at : (k : ℕ) → k < length h.atoms → get_or words (3 * k) (pos 0) ≡ pos (get_or (variables h.atoms) k 0)
  variable_at k q = ap (λ (l : List ℤ). get_or l (3 * k) (pos 0)) h.is ∙ (three_alone h.atoms k q).variable ∙ ap pos (sym (get_d_map_in (λ (a : Atom). a.variable) h.atoms k no_atom 0 q))

  pub variables_long : length (variables h.atoms) ≡ length h.atoms
  variables_long = length-map h.atoms (λ (a : Atom). a.variable)

  pub variable_known : (k : ℕ) → k < length h.atoms → get_or (variables h.atoms) k 0 < TASKS
  variable_known k q = h.small (get_or (variables h.atoms) k 0) (has_at (variables h.atoms) k (omega (arith, variables_long)))

  pub named_marked : marked (variables h.atoms) (length h.atoms) ≡ flags_of TASKS (named h.atoms)
  named_marked = ap (λ (l : List ℕ). flags_of TASKS (has l)) (ap (λ (n : ℕ). take n (variables h.atoms)) (sym variables_long) ∙ take-length (variables h.atoms))
