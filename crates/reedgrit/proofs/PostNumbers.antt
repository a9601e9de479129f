-- The post reader's numbers, by the reader's own.
use mathlib.Core.Path.{◌≡◌, refl, sym, ap, ◌∙◌}
use mathlib.Core.List.{List}
use Prim.Native.Nat.{ℕ, zero, suc}
use lib.IntN.{ℤ, pos}
use Rattle.post_words.specs.Posts.{number_of_post}
use Rattle.reedgrit.specs.Posts.{post_answer, post_read_back, post_at, post_numbers}

-- beside a number that is not 0 all values are 0
apart : (n : ℕ) (posts : List ℤ) (index : ℕ) → (n ≡ 0 → ⊥) → post_answer n (pos 0) (pos 0) 0 0 ≡ post_at n posts index
apart zero posts index some = elim (some refl) [ ]
apart (suc n) posts index some = refl

module _ (posts atoms : List ℤ) (count index : ℕ) where
  pub is_refused : (n : ℕ) → n ≡ number_of_post posts atoms count index → (n ≡ 0 → ⊥) → post_answer n (pos 0) (pos 0) 0 0 ≡ post_numbers posts atoms count index
  is_refused n e some = apart n posts index some ∙ ap (λ (m : ℕ). post_at m posts index) e

  pub read : (n : ℕ) → n ≡ number_of_post posts atoms count index → n ≡ 0 → post_read_back posts index ≡ post_numbers posts atoms count index
  read n e none = ap (λ (m : ℕ). post_at m posts index) (sym none ∙ e)

pub same_post : {t t' b b' : ℤ} {f f' n n' : ℕ} → t ≡ t' → b ≡ b' → f ≡ f' → n ≡ n' → post_answer 0 t b f n ≡ post_answer 0 t' b' f' n'
same_post et eb ef en = λ i. post_answer 0 (et i) (eb i) (ef i) (en i)
