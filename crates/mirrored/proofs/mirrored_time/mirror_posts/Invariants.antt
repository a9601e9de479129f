-- After j turns the bounds of the first j posts are mirrored, and all other words are unchanged.
use mathlib.Core.Path.{◌≡◌}
use mathlib.Core.List.{List, ◌++◌}
use Prim.Native.Nat.{ℕ}
use lib.IntN.{ℤ}
use lib.ListN.{length}
use Rattle.runs.specs.Words.{post_words}
use Rattle.runs.specs.MirroredWords.{posts_to}
use Rattle.mirrored.specs.MirroredSlices.{PostsMirrorable}
use Rattle.mirrored.proofs.mirrored_time.mirror_posts.Given as goal

-- the first j posts are mirrored
pub record Loop (old : List ℤ) (count : ℕ) (array : List ℕ) (words : List ℤ) (j : ℕ) : Type 0 where
  pub mirrorable : PostsMirrorable old count array
  pub mirrored : (h : PostsMirrorable old count array) → words ≡ post_words 0 (posts_to h.ds j h.posts) ++ h.tail
  pub size : length words ≡ length old

abbrev pub invariant-loop-j : goal.invariant-loop-j
invariant-loop-j l = Loop l.initial.posts l.count l.durations l.posts l.j
