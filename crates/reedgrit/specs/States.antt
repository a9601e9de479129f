-- What is answered of the state that premises lead to.
use Rattle.std.specs.Prelude.{Bool, ◌&&◌, List, [], ◌∷◌, ℕ, zero, suc, ◌+◌, ◌*◌, leb, ℤ, length}
use Rattle.integers.specs.Refused as refused
use Rattle.integers.specs.Answers.{Answer, refused_by}
use Rattle.integers.specs.Limits.{PREMISES}
use Rattle.integers.specs.Tests.{Test, test, refusal}
use Rattle.checking.specs.Atoms.{right_variable, right_atom, right_words}
use Rattle.checking.specs.declared.int_ext.IntExt.{IntExt}
use Rattle.checking.specs.declared.domain.Domain.{Domain}
use Rattle.checking.specs.declared.variable_state.VariableState.{VariableState}
use Rattle.checking.specs.declared.variable_state.Applied.{Applied}
use Rattle.checking.specs.Answers.{application_numbers, numbers_of_truth, numbers_of_bound}
use Rattle.checking.specs.States.{prepared, truth_of, bound_of, lower_of, upper_of}
use Rattle.answers.specs.declared.source_calls.StateAnswer.{StateAnswer}
use Rattle.answers.specs.SourceAnswers.{state_answer, queried_at}

-- prepare: whether premises and the negated consequent lead to a state, which is kind 0; a contradiction; or a refusal
abbrev pub prepared_answer : List ℤ → List ℤ → StateAnswer
prepared_answer premises consequent = state_answer (application_numbers (prepared premises consequent).answer)

-- A query to the state that premises lead to ---------------------------------------------------------------------------------

-- the words of the premises and those of the query are right
abbrev pub right_words_of : List ℤ → Bool → Bool
right_words_of premises own = right_words premises && own

-- its tests, each over the whole input: 7, then 6
abbrev pub state_tests : List ℤ → Bool → List Test
state_tests premises own = test refused.PREMISES (leb (length premises) (3 * PREMISES + 2)) ∷ test refused.ATOMS (right_words_of premises own) ∷ []

abbrev pub queried_after : ℕ → Applied → (VariableState → Answer) → StateAnswer
queried_after zero applied query = queried_at applied.answer (state_answer (query applied.state))
queried_after (suc n) applied query = state_answer (refused_by (suc n))

abbrev pub queried : List ℤ → Bool → (VariableState → Answer) → StateAnswer
queried premises own query = queried_after (refusal (state_tests premises own)) (prepared premises []) query

abbrev pub truth_stepped : List ℤ → ℤ → ℤ → ℤ → StateAnswer
truth_stepped premises x k v = queried premises (right_atom x k v) (λ s. numbers_of_truth (truth_of s x k v))

abbrev pub bound_stepped : (Domain → IntExt) → List ℤ → ℤ → StateAnswer
bound_stepped side premises x = queried premises (right_variable x) (λ s. numbers_of_bound (bound_of side s x))

abbrev pub lower_after : List ℤ → ℤ → StateAnswer
lower_after premises x = bound_stepped lower_of premises x

abbrev pub upper_after : List ℤ → ℤ → StateAnswer
upper_after premises x = bound_stepped upper_of premises x
