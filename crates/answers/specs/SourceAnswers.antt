-- An answer by the papers' numbers as a struct: the kind, the number, and the values in their places. A value that a case lacks is 0. Different answers are
-- different structs (proofs/SourceAnswers.antt).
use Rattle.std.specs.Prelude.{◌≡◌, cond, ℕ, ◌+◌, ◌^◌, ◌<◌, eqb, ℤ, pos, nat_abs, get_or}
use Rattle.integers.specs.Answers.{Answer}
use Rattle.checking.specs.declared.variable_state.Application.{Application}
use Rattle.checking.specs.declared.variable_state.Application.TheVariants as application
use Rattle.checking.specs.Answers.{application_numbers}
use Rattle.post_words.specs.Posts.{words_of}
use Rattle.runs.specs.declared.outcome.Outcome.{Outcome}
use Rattle.runs.specs.Outcomes.{first_of, count_of}
use Rattle.answers.specs.declared.source_calls.RunAnswer.{RunAnswer}
use Rattle.answers.specs.declared.source_calls.CheckAnswer.{CheckAnswer}
use Rattle.answers.specs.declared.source_calls.StateAnswer.{StateAnswer}

-- the value at a place, and the same as a natural number
abbrev pub value_at : ℕ → Answer → ℤ
value_at k a = get_or a.values k (pos 0)

abbrev pub nat_at : ℕ → Answer → ℕ
nat_at k a = nat_abs (value_at k a)

-- An overload's reason is given in words, as a post's is, and an atom has three: a usize counts the words up to its end.
abbrev pub WordsCountable : Outcome → Type 0
WordsCountable o = words_of (first_of o) + words_of (count_of o) < 2 ^ 64

-- a run: its post count and, of an overload's reason, the first word's index and the word count; and its leaf changes
abbrev pub answer_of_run : Answer → ℕ → RunAnswer
answer_of_run a changed = record {
  kind = a.kind;
  number = a.number;
  posts = nat_at 0 a;
  first = words_of (nat_at 1 a);
  count = words_of (nat_at 2 a);
  changes = changed;
}

-- a check: a contradiction's variable
abbrev pub answer_of_check : Answer → CheckAnswer
answer_of_check a = record { kind = a.kind; number = a.number; variable = nat_at 0 a }

-- a query of a state. A contradiction, kind 2, has its variable. A bound has the sign of its infinity, or 0 and the whole number
abbrev pub state_answer : Answer → StateAnswer
state_answer a = record {
  kind = a.kind;
  number = a.number;
  variable = cond (eqb a.kind 2) (nat_at 0 a) 0;
  infinity = cond (eqb a.kind 2) (pos 0) (value_at 0 a);
  value = value_at 1 a;
}

-- what the state says, unless the premises lead to none: 21 or a contradiction
abbrev pub queried_at : Application → StateAnswer → StateAnswer
queried_at application.Consistent here = here
queried_at (application.Contradiction x) here = state_answer (application_numbers (application.Contradiction x))
queried_at (application.Refused why) here = state_answer (application_numbers (application.Refused why))

-- a is made of the numbers of an answer of which P holds
pub record NumbersOf {R A : Type 0} (numbers : R → A) (P : R → Type 0) (a : A) : Type 0 where
  pub answer : R
  pub are : a ≡ numbers answer
  pub promised : P answer
