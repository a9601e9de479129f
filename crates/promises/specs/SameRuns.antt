-- When two calls give the same results, as a caller reads them: two runs, two mirrored passes, two passes by precedences.
use Rattle.std.specs.Prelude.{◌≡◌, List, ℕ, ◌<◌, ℤ}
use Rattle.post_words.specs.Posts.{task_of, bound_of}
use Rattle.runs.specs.declared.outcome.Outcome.{Outcome}
use Rattle.runs.specs.Outcomes.{outcome_numbers, value_of}
use Rattle.precedences.specs.declared.answers.Precedences.{Precedences}
use Rattle.ranges.specs.declared.range.Range.{Range}
use Rattle.promises.specs.Promise.{reason_of, overload_of}

-- The outcome, each post with its reason, and an overload's reason. What stands in the slices beyond these words may differ.
pub record SameAnswer (answer : Outcome) (posts atoms : List ℤ) (answer' : Outcome) (posts' atoms' : List ℤ) : Type 0 where
  pub outcome : answer ≡ answer'
  pub tasks : (j : ℕ) → j < value_of answer 0 → task_of posts j ≡ task_of posts' j
  pub bounds : (j : ℕ) → j < value_of answer 0 → bound_of posts j ≡ bound_of posts' j
  pub reasons : (j : ℕ) → j < value_of answer 0 → reason_of answer posts atoms j ≡ reason_of answer' posts' atoms' j
  pub overload : (outcome_numbers answer).kind ≡ 1 → overload_of answer atoms ≡ overload_of answer' atoms'

-- Of runs also the leaf changes and the ranges that they leave,
pub record SameRun (answer : Outcome) (changes : ℕ) (ranges : List Range) (posts atoms : List ℤ) (answer' : Outcome) (changes' : ℕ)
    (ranges' : List Range)
    (posts' atoms' : List ℤ) : Type 0 where
  pub answers : SameAnswer answer posts atoms answer' posts' atoms'
  pub changed : changes ≡ changes'
  pub starts : ranges ≡ ranges'

-- of mirrored passes the ranges,
pub record SameMirrored (answer : Outcome) (ranges : List Range) (posts atoms : List ℤ) (answer' : Outcome) (ranges' : List Range)
    (posts' atoms' : List ℤ) : Type 0 where
  pub answers : SameAnswer answer posts atoms answer' posts' atoms'
  pub starts : ranges ≡ ranges'

-- and of passes by precedences the answer and the ranges.
pub record SamePrecedences (answer : Precedences) (ranges : List Range) (answer' : Precedences) (ranges' : List Range) : Type 0 where
  pub answers : answer ≡ answer'
  pub starts : ranges ≡ ranges'
