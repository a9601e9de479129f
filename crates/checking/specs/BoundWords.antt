-- What the code holds of lists that make no hole: the bounds of each domain, as two words. The state that they stand for is that of States.antt.
use Rattle.std.specs.Prelude.{◌≡◌, Bool, cond, ◌||◌, List, [], ℕ, zero, suc, ◌+◌, ◌-◌, ◌<◌, max, leb, eqb, ℤ, length, get_or, Option, None}
use Rattle.integers.specs.Limits.{VARIABLES, VALUE, U32MAX}
use Rattle.integers.specs.Moments.{moment, zero_at}
use Rattle.integers.specs.WholeNumbers.{Within}
use Rattle.checking.specs.declared.int_ext.IntExt.{IntExt}
use Rattle.checking.specs.declared.int_ext.IntExt.TheVariants.{Int, NegativeInf, PositiveInf}
use Rattle.checking.specs.declared.domain.Domain.{Domain}
use Rattle.checking.specs.declared.bound_words.BoundWords.{BoundWords}
use Rattle.checking.specs.declared.start_bounds.TaskBounds.{TaskBounds}
use Rattle.checking.specs.declared.prepared_bounds.OnWords.{OnWords}
use Rattle.checking.specs.declared.prepared_bounds.OnWords.TheVariants as on_words
use Rattle.checking.specs.declared.variable_state.Application.TheVariants as application
use Rattle.checking.specs.declared.variable_state.Applied.{Applied}
use Rattle.checking.specs.declared.variable_state.VariableState.{VariableState}
use Rattle.checking.specs.Domains.{holes_of}
use Rattle.checking.specs.States.{AcceptedState, domain_at}
use Rattle.checking.specs.TaskBounds.{two_bounds, bounds_by}
use Rattle.checking.specs.declared.start_bounds.Bounds.{Bounds}

-- Words ------------------------------------------------------------------------------------------------------------------------

-- a lower bound is its moment, and an upper bound the complement of its moment: 0 is no bound
abbrev pub word_of_lower : IntExt → ℕ
word_of_lower (Int z) = moment zero_at z
word_of_lower NegativeInf = 0
word_of_lower PositiveInf = 0

abbrev pub word_of_upper : IntExt → ℕ
word_of_upper (Int z) = U32MAX - moment zero_at z
word_of_upper NegativeInf = 0
word_of_upper PositiveInf = 0

abbrev pub pair_of : ℕ → ℕ → BoundWords
pair_of lower upper = record { lower = lower; upper = upper }

abbrev pub words_of : Domain → BoundWords
words_of d = pair_of (word_of_lower d.lower_bound) (word_of_upper d.upper_bound)

-- an atom applied, by its kind: 0 is ≥, 1 is ≤, 2 is =
abbrev pub applied_words : BoundWords → ℕ → ℤ → BoundWords
applied_words w zero v = record { lower = max w.lower (moment zero_at v); upper = w.upper }
applied_words w (suc zero) v = record { lower = w.lower; upper = max w.upper (U32MAX - moment zero_at v) }
applied_words w (suc (suc zero)) v = record { lower = max w.lower (moment zero_at v); upper = max w.upper (U32MAX - moment zero_at v) }
applied_words w (suc (suc (suc k))) v = w

-- the bounds have not crossed
abbrev pub consistent_words : BoundWords → Bool
consistent_words w = leb w.lower (U32MAX - w.upper)

-- the bounds that they are, where there are two
abbrev pub bounds_of_task_in_words : BoundWords → Option TaskBounds
bounds_of_task_in_words w = cond (eqb w.lower 0 || eqb w.upper 0) None (two_bounds w.lower (U32MAX - w.upper))

-- The words of all variables ---------------------------------------------------------------------------------------------------

-- no bounds
abbrev pub no_words : BoundWords
no_words = pair_of 0 0

abbrev pub words_at : List BoundWords → ℕ → BoundWords
words_at words x = get_or words x no_words

-- the bounds of the first n
abbrev pub bounds_in_words : List BoundWords → ℕ → Bounds
bounds_in_words words = bounds_by (λ k. bounds_of_task_in_words (words_at words k))

-- The domain has no hole, and its bounds are values of atoms.
pub record HoleFree (d : Domain) : Type 0 where
  pub none : holes_of d ≡ []
  pub lower : (u : ℤ) → d.lower_bound ≡ Int u → Within (VALUE + 1) u
  pub upper : (u : ℤ) → d.upper_bound ≡ Int u → Within (VALUE + 1) u

-- The words are the bounds of the state's domains, which have no holes.
pub record HeldWords (s : VariableState) (words : List BoundWords) : Type 0 where
  pub size : length words ≡ VARIABLES
  pub accepted : AcceptedState s
  pub free : (x : ℕ) → x < VARIABLES → HoleFree (domain_at s x)
  pub each : (x : ℕ) → x < VARIABLES → words_at words x ≡ words_of (domain_at s x)

-- The answer is the prepared one, unless an atom that can make a hole ended it. Where all atoms were applied, the words are the prepared state's bounds.
abbrev pub AppliedToWords : Applied → List BoundWords → OnWords → Type 0
AppliedToWords p words on_words.Consistent = (p.answer ≡ application.Consistent) × HeldWords p.state words
AppliedToWords p words (on_words.Contradiction x) = p.answer ≡ application.Contradiction x
AppliedToWords p words on_words.MakesHole = Unit {0}
