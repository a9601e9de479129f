-- The explanations at small tasks, where the walks stop after the first task or differ; each meets what is asked of the input.
use Rattle.std.specs.Prelude.{◌≡◌, refl, List, [], ◌∷◌, ℕ, zero, suc, ◌+◌, ◌≤◌, pos, get_or}
use Rattle.std.proofs.Common.{arith}
use Rattle.integers.specs.Moments.{zero_at}
use Rattle.runs.specs.Runs.{within, conflict, bounds, propagation}
use Rattle.scheduling.specs.Words.{atom_words}
use Rattle.explanations.specs.Walks.{lasts, Each, Known}
use Rattle.explanations.specs.WrittenAtoms.{starting}
use Rattle.explanations.specs.Explanations.{ConflictExplainable, PropagationExplainable}

-- moment of a start that is not negative
abbrev at : ℕ → ℕ
at n = zero_at + n

each_two : (P : ℕ → Type 0) (a b : ℕ) → P a → P b → Each P (a ∷ b ∷ [])
each_two P a b p q zero s = p
each_two P a b p q (suc zero) s = q
each_two P a b p q (suc (suc x)) s = absurd (omega arith)

each_three : (P : ℕ → Type 0) (a b c : ℕ) → P a → P b → P c → Each P (a ∷ b ∷ c ∷ [])
each_three P a b c p q r zero s = p
each_three P a b c p q r (suc x) s = each_two P b c q r x (omega arith)

-- 0..13,1; 10..11,3; 10..11,3 overload: tasks 1 and 2 pass 14 by two, and task 0 is not in the reason
abbrev es : List ℕ
es = at 0 ∷ at 10 ∷ at 10 ∷ []

abbrev ds : List ℕ
ds = 1 ∷ 3 ∷ 3 ∷ []

abbrev theta : List ℕ
theta = 0 ∷ 1 ∷ 2 ∷ []

conflict_explainable : ConflictExplainable 18 0 theta es ds 7 (at 14)
unfolding lasts
conflict_explainable = record {
  white = record {
    known = each_three (Known es ds) 0 1 2 (record { task = omega arith; start = omega arith; duration = omega arith })
        (record { task = omega arith; start = omega arith; duration = omega arith })
        (record { task = omega arith; start = omega arith; duration = omega arith });
    total = refl;
    ends = each_three (λ k. get_or es k 0 + get_or ds k 0 ≤ at 14) 0 1 2 (omega arith) (omega arith) (omega arith);
  };
  overloads = record { place = 1; small = omega arith; holds = omega arith };
  early = each_three (λ k. 7 ≤ get_or es k 0) 0 1 2 (omega arith) (omega arith) (omega arith);
  fits = omega arith;
  room = omega arith;
}

overload_words : atom_words (conflict zero_at (starting es ds) (at 14) 7 theta)
    ≡ pos 1 ∷ pos 0 ∷ pos 10 ∷ pos 1 ∷ pos 1 ∷ pos 12 ∷ pos 2 ∷ pos 0 ∷ pos 10 ∷ pos 2 ∷ pos 1 ∷ pos 12 ∷ []
unfolding conflict within atom_words
overload_words = refl

-- tasks 0 and 1 of durations 1 and 4 start at 0 and 5 and end by 9; task 2, of duration 5, goes after both, and task 1 alone gives the bound 9
abbrev es' : List ℕ
es' = at 0 ∷ at 5 ∷ at 0 ∷ []

abbrev ds' : List ℕ
ds' = 1 ∷ 4 ∷ 5 ∷ []

abbrev theta' : List ℕ
theta' = 0 ∷ 1 ∷ []

propagation_explainable : PropagationExplainable 15 0 theta' es' ds' 5 (at 9) 2 (at 9)
unfolding lasts
propagation_explainable = record {
  white = record {
    known = each_two (Known es' ds') 0 1 (record { task = omega arith; start = omega arith; duration = omega arith })
        (record { task = omega arith; start = omega arith; duration = omega arith });
    total = refl;
    ends = each_two (λ k. get_or es' k 0 + get_or ds' k 0 ≤ at 9) 0 1 (omega arith) (omega arith);
  };
  known = (record { task = omega arith; start = omega arith; duration = omega arith });
  precedes = record { place = 0; small = omega arith; holds = omega arith };
  attains = record { place = 1; small = omega arith; holds = refl };
  among = omega arith;
  fits = omega arith;
  room = omega arith;
}

post_words_are : atom_words (propagation zero_at (starting es' ds') 2 (at 9) (at 9) 5 theta')
    ≡ pos 0 ∷ pos 0 ∷ pos 0 ∷ pos 0 ∷ pos 1 ∷ pos 8 ∷ pos 1 ∷ pos 0 ∷ pos 5 ∷ pos 1 ∷ pos 1 ∷ pos 5 ∷ pos 2 ∷ pos 0 ∷ pos 0 ∷ []
unfolding propagation bounds within atom_words
post_words_are = refl
