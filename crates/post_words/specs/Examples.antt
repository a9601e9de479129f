-- The definitions at small inputs.
use Rattle.std.specs.Prelude.{◌≡◌, refl, List, [], ◌∷◌, ℤ, pos, negsuc}
use Rattle.integers.specs.Tests.{refusal}
use Rattle.post_words.specs.Posts.{number_of_post, reason_words}

-- The post reader: two posts, of one atom and of two.
posts : List ℤ
posts = pos 2 ∷ pos 9 ∷ pos 0 ∷ pos 1 ∷ pos 0 ∷ pos 6 ∷ pos 1 ∷ pos 2 ∷ []

atoms : List ℤ
atoms = pos 0 ∷ pos 0 ∷ pos 0 ∷ pos 1 ∷ pos 0 ∷ pos 1 ∷ pos 1 ∷ pos 1 ∷ pos 2 ∷ []

first_reason : reason_words posts atoms 2 0 ≡ pos 0 ∷ pos 0 ∷ pos 0 ∷ []
unfolding posts atoms refusal reason_words
first_reason = refl

second_reason : reason_words posts atoms 2 1 ≡ pos 1 ∷ pos 0 ∷ pos 1 ∷ pos 1 ∷ pos 1 ∷ pos 2 ∷ []
unfolding posts atoms refusal reason_words
second_reason = refl

past_the_count : number_of_post posts atoms 1 1 ≡ 11
unfolding posts atoms refusal
past_the_count = refl

past_the_atoms : number_of_post posts (pos 0 ∷ pos 0 ∷ pos 0 ∷ pos 1 ∷ pos 0 ∷ pos 1 ∷ pos 1 ∷ pos 1 ∷ []) 2 1 ≡ 11
unfolding posts refusal
past_the_atoms = refl

negative_count : number_of_post (pos 2 ∷ pos 9 ∷ pos 1 ∷ negsuc 0 ∷ []) atoms 1 0 ≡ 11
unfolding atoms refusal
negative_count = refl

-- no atoms inside the slice are no refusal
empty_stretch : number_of_post (pos 2 ∷ pos 9 ∷ pos 3 ∷ pos 0 ∷ []) atoms 1 0 ≡ 0
unfolding atoms refusal
empty_stretch = refl
