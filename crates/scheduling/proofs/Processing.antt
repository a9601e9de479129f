-- p of a set of tasks: more tasks, one task more, one less, none, and by whole numbers or their moments.
use mathlib.Core.Path.{◌≡◌, refl, ap}
use mathlib.Core.Bool.{Bool, true, false, cond}
use mathlib.Core.Logic.{◌⊎◌, inl, inr}
use Prim.Native.Nat.{ℕ, ◌+◌, ◌≤◌, ◌<◌}
use native.Mathlib.Omega.{arith}
use borrow.Author.Tests.{ne_eqb}
use Rattle.integers.proofs.Bools.{bool}
use Rattle.scheduling.specs.Moments.{moments}
use Rattle.scheduling.specs.Scheduling.{natural, whole, Tasks, TaskSet, total, ◌with◌, In, Outside, Subset, processing}
use Rattle.scheduling.proofs.Sets.{Empty, total_ext, total_mono, total_swap, total_zero, ◌less◌, less_self, with_new}

-- durations are the same in whole numbers and in moments
pub processing_moments : (o : ℕ) (J : Tasks whole) (Ω : TaskSet) → processing J Ω ≡ processing (moments o J) Ω
unfolding processing
processing_moments o J Ω = refl

module _ (J : Tasks natural) where
  -- what task k adds to the duration of Ω
  unfoldable pub term : TaskSet → ℕ → ℕ
  term Ω k = cond (Ω k) (J.duration k) 0

  pub term_true : (Ω : TaskSet) (k : ℕ) → Ω k ≡ true → term Ω k ≡ J.duration k
  unfolding term
  term_true Ω k h = rw h

  pub term_false : (Ω : TaskSet) (k : ℕ) → Ω k ≡ false → term Ω k ≡ 0
  unfolding term
  term_false Ω k h = rw h

  pub processing_mono : (S Ω : TaskSet) → Subset J S Ω → processing J S ≤ processing J Ω
  unfolding processing term
  processing_mono S Ω h = total_mono (term S) (term Ω) J.count (λ k q. each k q (bool (S k)))
    where
      each : (k : ℕ) → k < J.count → (S k ≡ true) ⊎ (S k ≡ false) → term S k ≤ term Ω k
      each k q (inl y) = omega (arith, term_true S k y, term_true Ω k (h k (record { small = q; mem = y })))
      each k q (inr z) = omega (arith, term_false S k z)

  -- as a sum, of all tasks, and of two sets with the same tasks
  pub processing_is : (Ω : TaskSet) → processing J Ω ≡ total (λ k. cond (Ω k) (J.duration k) 0) J.count
  unfolding processing
  processing_is Ω = refl

  pub processing_all : processing J (λ _. true) ≡ total J.duration J.count
  unfolding processing
  processing_all = refl

  pub processing_same : (S Ω : TaskSet) → ((k : ℕ) → k < J.count → S k ≡ Ω k) → processing J S ≡ processing J Ω
  unfolding processing term
  processing_same S Ω z = total_ext (term S) (term Ω) J.count (λ k q. ap (λ (b : Bool). cond b (J.duration k) 0) (z k q))

  term_less : (Ω : TaskSet) (i k : ℕ) → (k ≡ i → ⊥) → term Ω k ≡ term (Ω less i) k
  unfolding term
  term_less Ω i k ne = rw (ne_eqb k i ne)

  pub processing_less : (Ω : TaskSet) (i : ℕ) → In J Ω i → processing J Ω ≡ processing J (Ω less i) + J.duration i
  unfolding processing term
  processing_less Ω i h =
      let g : total (term Ω) J.count + term (Ω less i) i ≡ total (term (Ω less i)) J.count + term Ω i
      = total_swap (term Ω) (term (Ω less i)) J.count i h.small (term_less Ω i) in
      omega (arith, g, term_true Ω i h.mem, term_false (Ω less i) i (less_self Ω i))

  pub processing_empty : (Ω : TaskSet) → Empty Ω J.count → processing J Ω ≡ 0
  unfolding processing term
  processing_empty Ω h = total_zero (term Ω) J.count (λ k q. term_false Ω k (h k q))

  pub processing_with : (Ω : TaskSet) (i : ℕ) → Outside J Ω i → processing J (Ω with i) ≡ processing J Ω + J.duration i
  unfolding processing term
  processing_with Ω i h =
      let g : total (term Ω) J.count + term (Ω with i) i ≡ total (term (Ω with i)) J.count + term Ω i
      = total_swap (term Ω) (term (Ω with i)) J.count i h.small (λ k ne. rw (ne_eqb k i ne)) in
      omega (arith, g, term_false Ω i h.mem, term_true (Ω with i) i (with_new Ω i))
