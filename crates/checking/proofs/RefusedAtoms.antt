-- The sole ground for each number that refuses a list of atoms: all before it hold, and its own does not.
use mathlib.Core.Path.{◌≡◌, refl, sym, ap, ◌∙◌}
use mathlib.Core.Logic.{inl, inr, ◌↔◌}
use mathlib.Core.Bool.{true}
use mathlib.Core.List.{List, ◌∷◌}
use Prim.Native.Nat.{ℕ, ◌+◌, ◌*◌, ◌≤◌, ◌<◌}
use native.Mathlib.Omega.{arith}
use native.Mathlib.Decide.{dec_lt}
use lib.IntN.{ℤ}
use lib.ListN.{length}
use Rattle.integers.specs.Answers.{Answer, refused_by}
use Rattle.integers.specs.Limits.{PREMISES}
use Rattle.integers.specs.declared.refused.Refusal.TheVariants as refusal
use Rattle.integers.proofs.Bools.{bool, clash}
use Rattle.integers.proofs.Tests.{broken}
use Rattle.scheduling.specs.Scheduling.{Atom, given}
use Rattle.checking.specs.Atoms.{atoms_of, consequent_of, right_lists, RightLists}
use Rattle.checking.proofs.RightWords.{lists_are}
use Rattle.checking.specs.declared.variable_state.VariableState.{VariableState}
use Rattle.checking.specs.declared.variable_state.Application.TheVariants.{Refused}
use Rattle.checking.specs.declared.variable_state.Applied.{Applied}
use Rattle.checking.specs.Answers.{application_numbers}
use Rattle.checking.specs.Promises.{lacks_room, Reaches, NoRoom}
use Rattle.checking.specs.States.{empty_state, stepped, apply_all, prepared}
use Rattle.checking.proofs.Meaning.{all_append}
use Rattle.checking.proofs.Remaining.{prepared_runs}
use Rattle.checking.proofs.Promises.{prepare_means}
use Rattle.checking.proofs.States.{stepped_case, all_on}

-- an atom without room, once it is reached, refuses the list
full_step : (s : VariableState) (a : Atom) → lacks_room s a ≡ true → stepped s a ≡ record { answer = Refused refusal.Holes; state = s }
full_step s a y = stepped_case s a (λ r. r ≡ record { answer = Refused refusal.Holes; state = s }) (λ _. refl) (λ n _. clash y n) (λ n _. clash y n)

full_list : (atoms : List Atom) (p : Reaches atoms) → lacks_room p.state p.atom ≡ true → apply_all atoms empty_state ≡ record { answer = Refused refusal.Holes; state = empty_state }
full_list atoms p y =
    ap (λ (l : List Atom). apply_all l empty_state) p.split
    ∙ all_append p.before (p.atom ∷ p.after) empty_state p.state p.reached
    ∙ all_on p.state p.atom p.after _ (full_step p.state p.atom y)

module _ (ps cs : List ℤ) where
  abbrev numbers : Answer
  numbers = application_numbers (prepared ps cs).answer

  -- an answer has one number
  same : (m n : ℕ) → numbers ≡ refused_by m → numbers ≡ refused_by n → m ≡ n
  same m n p q = ap (λ (a : Answer). a.number) (sym p ∙ q)

  -- past 7 where it is another, and past 6, where it is that of an atom without room
  few : (n : ℕ) → numbers ≡ refused_by n → (n ≡ 7 → ⊥) → length ps ≤ 3 * PREMISES + 2
  few n e d = elim (dec_lt (3 * PREMISES + 2) (length ps)) [ yes h ↦ absurd (d (same n 7 e ((prepare_means ps cs).many h))) | no h ↦ omega arith ]

  right : (n : ℕ) → numbers ≡ refused_by n → length ps ≤ 3 * PREMISES + 2 → (n ≡ 6 → ⊥) → right_lists ps cs ≡ true
  right n e l d = elim (bool (right_lists ps cs)) [ inl y ↦ y | inr y ↦ absurd (d (same n 6 e ((prepare_means ps cs).malformed l y))) ]

  room : (n : ℕ) → numbers ≡ refused_by n → length ps ≤ 3 * PREMISES + 2 → right_lists ps cs ≡ true → (n ≡ 21 → ⊥) → ⊥
  room n e l y d = d ((prepare_means ps cs).room l y n e).0

  pub prepared_7 : application_numbers (prepared ps cs).answer ≡ refused_by 7 ↔ (3 * PREMISES + 2 < length ps)
  prepared_7 = (
    λ e. elim (dec_lt (3 * PREMISES + 2) (length ps)) [
      | yes h ↦ h
      | no h ↦ (let l : length ps ≤ 3 * PREMISES + 2 = omega arith in absurd (room 7 e l (right 7 e l (λ z. omega arith)) (λ z. omega arith)))
    ],
    (prepare_means ps cs).many,
  )

  pub prepared_6 : application_numbers (prepared ps cs).answer ≡ refused_by 6 ↔ ((length ps ≤ 3 * PREMISES + 2) × (RightLists ps cs → ⊥))
  prepared_6 = (
    λ e. (let l = few 6 e (λ z. omega arith) in (l, λ f. room 6 e l ((lists_are ps cs).1 f) (λ z. omega arith))),
    λ h. (prepare_means ps cs).malformed h.0 ((broken (lists_are ps cs)).1 h.1),
  )

  -- the first atom that needs a hole too many, with no contradiction before it
  pub prepared_21 : application_numbers (prepared ps cs).answer ≡ refused_by 21
      ↔ ((length ps ≤ 3 * PREMISES + 2) × (RightLists ps cs × NoRoom (given (atoms_of ps) (consequent_of cs))))
  prepared_21 = (
    λ e.
        let l = few 21 e (λ z. omega arith) in
        let y = right 21 e l (λ z. omega arith) in
        (l, ((lists_are ps cs).0 y, ((prepare_means ps cs).room l y 21 e).1)),
    λ h. ap (λ (r : Applied). application_numbers r.answer) (prepared_runs ps cs h.0 ((lists_are ps cs).1 h.1.0) ∙ full_list (given (atoms_of ps) (consequent_of cs)) h.1.1.0 h.1.1.1),
  )
