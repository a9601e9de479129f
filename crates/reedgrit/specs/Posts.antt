-- The post reader's answer as numbers.
use Rattle.std.specs.Prelude.{List, ℕ, zero, suc, ℤ, pos}
use Rattle.post_words.specs.Posts.{word_of_task, bound_of, stretch_start, stretch_length, number_of_post}
use Rattle.answers.specs.declared.source_calls.PostAnswer.{PostAnswer}

-- the post reader: a post's two words and its stretch, in words; nothing but the number where that is 11
abbrev pub post_answer : ℕ → ℤ → ℤ → ℕ → ℕ → PostAnswer
post_answer number task bound first count = record { number = number; task = task; bound = bound; first = first; count = count }

abbrev pub post_read_back : List ℤ → ℕ → PostAnswer
post_read_back posts index = post_answer 0 (word_of_task posts index) (bound_of posts index) (stretch_start posts index) (stretch_length posts index)

abbrev pub post_at : ℕ → List ℤ → ℕ → PostAnswer
post_at zero posts index = post_read_back posts index
post_at (suc n) posts index = post_answer (suc n) (pos 0) (pos 0) 0 0

abbrev pub post_numbers : List ℤ → List ℤ → ℕ → ℕ → PostAnswer
post_numbers posts atoms count index = post_at (number_of_post posts atoms count index) posts index
