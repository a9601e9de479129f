-- The answers of the calls beside the run as structs: the kind, the number, and the values in their places. A value that a case lacks is 0. Different answers
-- of one call are different structs (proofs/AddedAnswers.antt).
use Rattle.integers.specs.Answers.{Answer}
use Rattle.post_words.specs.Posts.{words_of}
use Rattle.charges.specs.declared.answer.Charges.{Charges}
use Rattle.charges.specs.Numbers.{charges_numbers}
use Rattle.conflicts.specs.declared.answer.Conflict.{Conflict}
use Rattle.conflicts.specs.Numbers.{found_numbers}
use Rattle.answers.specs.declared.added_calls.MirroredAnswer.{MirroredAnswer}
use Rattle.answers.specs.declared.added_calls.CountAnswer.{CountAnswer}
use Rattle.answers.specs.declared.added_calls.ChangeAnswer.{ChangeAnswer}
use Rattle.answers.specs.declared.added_calls.StartAnswer.{StartAnswer}
use Rattle.answers.specs.declared.added_calls.BusiestAnswer.{BusiestAnswer}
use Rattle.answers.specs.declared.added_calls.ChargesAnswer.{ChargesAnswer}
use Rattle.answers.specs.declared.added_calls.ConflictAnswer.{ConflictAnswer}
use Rattle.answers.specs.SourceAnswers.{value_at, nat_at}

-- a mirrored pass: its post count and, of an overload's reason, the first word's index and the word count
abbrev pub answer_of_mirrored : Answer → MirroredAnswer
answer_of_mirrored a = record { kind = a.kind; number = a.number; posts = nat_at 0 a; first = words_of (nat_at 1 a); count = words_of (nat_at 2 a) }

-- the tasks read, the bytes, the task or the atoms
abbrev pub answer_of_count : Answer → CountAnswer
answer_of_count a = record { kind = a.kind; number = a.number; count = nat_at 0 a }

abbrev pub change_answer : Answer → ChangeAnswer
change_answer a = record { kind = a.kind; number = a.number }

abbrev pub answer_of_start : Answer → StartAnswer
answer_of_start a = record { kind = a.kind; number = a.number; start = value_at 0 a }

-- the covered time and the stretch's start
abbrev pub busiest_answer : Answer → BusiestAnswer
busiest_answer a = record { kind = a.kind; number = a.number; time = nat_at 0 a; start = value_at 1 a }

-- the numbers of the answer, and the charges unchanged
abbrev pub answer_of_charges : Charges → ChargesAnswer
answer_of_charges c = record { kind = (charges_numbers c).kind; number = (charges_numbers c).number; total = c.charged.total; charges = c.charged.charges }

-- the numbers of what is found, and the sets with their sums unchanged
abbrev pub answer_of_conflict : Conflict → ConflictAnswer
answer_of_conflict c = record {
  kind = (found_numbers c.found).kind;
  number = (found_numbers c.found).number;
  task = nat_at 0 (found_numbers c.found);
  latest_start = value_at 1 (found_numbers c.found);
  bound = value_at 2 (found_numbers c.found);
  set = c.set;
  lct = c.lct;
  excess = c.excess;
  before = c.before;
}
