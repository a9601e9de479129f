-- What an accepted record and its ranges bring: the tasks' moments, within the limits, as the arrays hold them.
use mathlib.Core.Path.{◌≡◌, refl, sym, ap, ap₂, ◌∙◌}
use mathlib.Core.Bool.{true}
use mathlib.Core.List.{List}
use Prim.Native.Nat.{ℕ, ◌+◌, ◌-◌, ◌≤◌, ◌<◌}
use native.Mathlib.Omega.{arith}
use lib.IntN.{ℤ, pos, neg_ℤ}
use lib.ListN.{length, get_or, take, length-replicate}
use lib.Seq.{get_or-take, length-take-le}
use Rattle.integers.specs.Limits.{TASKS, START, DURATIONS, U32MAX}
use Rattle.integers.specs.FilledLists.{filled, no_tasks}
use Rattle.integers.specs.Moments.{zero_at, Above, moment_at, completion_at}
use Rattle.integers.proofs.FilledLists.{filled_at}
use Rattle.integers.proofs.Ints.{up, dn}
use Rattle.integers.proofs.MomentSums.{mono, above_up, above_show}
use Rattle.scheduling.specs.Scheduling.{whole, natural, Tasks, Proper, total, processing, completion}
use Rattle.scheduling.proofs.Processing.{processing_less, processing_all}
use Rattle.scheduling.proofs.Sets.{total_ext}
use Rattle.scheduling.proofs.Clocks.{sound}
use Rattle.records.specs.declared.record.DisjunctivePropagator.{DisjunctivePropagator}
use Rattle.records.specs.Records.{tasks_in, moments_in}
use Rattle.records.specs.Refusals.{AcceptedInput, AcceptedRun}

-- an accepted run's are such
pub input_of : {r : DisjunctivePropagator} {es ls : List ℤ} {posts atoms : ℕ} → AcceptedRun r es ls posts atoms → AcceptedInput r es ls
input_of a = record { lawful = a.lawful; counts = a.counts; starts = a.starts; ranges = a.ranges }

zeros_long : length no_tasks ≡ TASKS
zeros_long = length-replicate {A = ℕ} TASKS 0

-- the least start has a moment
deep : Above zero_at (neg_ℤ (pos START))
unfolding up dn
deep = above_show zero_at (neg_ℤ (pos START)) (omega arith)

module _ (r : DisjunctivePropagator) (es ls : List ℤ) (a : AcceptedInput r es ls) (long : length r.durations ≡ TASKS) where
  abbrev n : ℕ
  n = r.count

  abbrev ds : List ℕ
  ds = take r.count r.durations

  abbrev Z : Tasks whole
  Z = tasks_in r es ls

  abbrev J : Tasks natural
  J = moments_in r es ls

  pub count : J.count ≡ r.count
  count = length-take-le n r.durations (omega (arith, a.lawful.few, long))

  pub durations_at : (k : ℕ) → k < r.count → get_or r.durations k 0 ≡ J.duration k
  durations_at k q = sym (get_or-take n r.durations k 0 q)

  pub sum_fits : total J.duration J.count ≤ DURATIONS
  sum_fits = omega (arith, ap (total J.duration) count, total_ext (λ k. get_or r.durations k 0) J.duration n durations_at, a.lawful.sum)

  -- the tasks are proper, over whole numbers and over their moments
  pub proper_whole : Proper Z
  proper_whole = record {
    ranges = λ k q. a.ranges k (omega (arith, count, a.counts.earliest));
    lasts = λ k q. omega (arith, durations_at k (omega (arith, count)), a.lawful.lasts k (omega (arith, count)));
  }

  pub above : (k : ℕ) → k < Z.count → Above zero_at (Z.earliest k)
  above k q = above_up zero_at (neg_ℤ (pos START)) (get_or es k (pos 0)) (a.starts.earliest k (omega (arith, count, a.counts.earliest))).low deep

  pub proper : Proper J
  proper = sound zero_at Z proper_whole above

  -- and their moments are within the limits
  pub between : (k : ℕ) → k < J.count → (zero_at - START ≤ J.earliest k) × (J.earliest k ≤ J.latest k) × (J.latest k ≤ zero_at + START)
  unfolding up dn
  between k q = (
    omega (arith, mono zero_at (neg_ℤ (pos START)) (get_or es k (pos 0)) (a.starts.earliest k (omega (arith, count, a.counts.earliest))).low),
    proper.ranges k q,
    omega (arith, mono zero_at (get_or ls k (pos 0)) (pos START) (a.starts.latest k (omega (arith, count, a.counts.latest))).high),
  )

  pub short : processing J (λ _. true) ≤ DURATIONS
  short = omega (arith, processing_all J, sum_fits)

  pub lasting : (k : ℕ) → k < J.count → J.duration k ≤ DURATIONS
  lasting k q = omega (arith, short, processing_less J (λ _. true) k (record { small = q; mem = refl }))

  pub completion_small : (k : ℕ) → k < r.count → completion J k ≤ U32MAX
  completion_small k q = let z : k < J.count = omega (arith, count) in omega (arith, (between k z).2, lasting k z)

  -- the arrays hold them
  pub moments_at : (xs : List ℤ) → length xs ≡ r.count → (k : ℕ) → k < r.count → get_or (filled (moment_at xs) (length xs) no_tasks) k 0 ≡ moment_at xs k
  moments_at xs z k q = filled_at (moment_at xs) (length xs) no_tasks 0 k (omega (arith, z)) (omega (arith, z, a.lawful.few, zeros_long))

  pub completions_are : (lst : List ℕ) → ((k : ℕ) → k < r.count → get_or lst k 0 ≡ J.latest k) → (k : ℕ) → k < r.count → completion_at lst r.durations k ≡ completion J k
  completions_are lst h k q = ap₂ ◌+◌ (h k q) (durations_at k q)

  pub completions_at : (lst : List ℕ) → ((k : ℕ) → k < r.count → get_or lst k 0 ≡ J.latest k) → (k : ℕ) → k < r.count
      → get_or (filled (completion_at lst r.durations) r.count no_tasks) k 0 ≡ completion J k
  completions_at lst h k q = filled_at (completion_at lst r.durations) n no_tasks 0 k q (omega (arith, a.lawful.few, zeros_long)) ∙ completions_are lst h k q
