-- The pass over the tasks by start. A further task that does not end by the next task's start is free only from that task's end on.
use mathlib.Core.Path.{◌≡◌}
use mathlib.Core.Logic.{inl, inr, ⊎_elim}
use Prim.Native.Nat.{ℕ, ◌+◌, ◌≤◌, ◌<◌, max}
use native.Mathlib.Omega.{arith}
use native.Mathlib.Decide.{dec_lt}
use native.Mathlib.Numerals.{add-one}
use Rattle.integers.proofs.Bools.{below_suc}
use Rattle.integers.specs.Orders.{Ordered}
use Rattle.scheduling.specs.Scheduling.{natural, Tasks}
use Rattle.free_starts.specs.FreeStarts.{Free, EarliestFree}

-- The first i tasks of the order have ended at s, and nothing before s is free.
pub record Passed (J : Tasks natural) (at : ℕ → ℕ) (t d i s : ℕ) : Type 0 where
  pub from : t ≤ s
  pub ended : (p : ℕ) → p < i → J.earliest (at p) + J.duration (at p) ≤ s
  pub none_before : (u : ℕ) → t ≤ u → u < s → Free J d u → ⊥

module _ (J : Tasks natural) (at place : ℕ → ℕ) (o : Ordered J.count at place (λ j k. J.earliest j ≤ J.earliest k)) (t d : ℕ) where
  pub begins : Passed J at t d 0 t
  begins = record { from = omega arith; ended = λ p q. absurd (omega arith); none_before = λ u h q. absurd (omega arith) }

  -- the next task is in the way: nothing is free before its end
  pub waits : (i s e : ℕ) → i < J.count → Passed J at t d i s → J.earliest (at i) < s + d → e ≡ J.earliest (at i) + J.duration (at i) → s < e → Passed J at t d (i + 1) e
  waits i s e q w h z l = record {
    from = omega (arith, w.from);
    ended = rw (add-one i) (below_suc (λ p. J.earliest (at p) + J.duration (at p) ≤ e) i (λ p r. omega (arith, w.ended p r)) (omega arith));
    none_before = λ u a b f. elim (dec_lt u s) [ yes r ↦ w.none_before u a r f | no r ↦ ⊎_elim (λ y. omega arith) (λ y. omega arith) (f (at i) (o.task i q)) ];
  }

  -- or it has ended already
  pub over : (i s : ℕ) → Passed J at t d i s → J.earliest (at i) + J.duration (at i) ≤ s → Passed J at t d (i + 1) s
  over i s w h = record {
    from = w.from;
    ended = rw (add-one i) (below_suc (λ p. J.earliest (at p) + J.duration (at p) ≤ s) i w.ended h);
    none_before = w.none_before;
  }

  -- the next task does not start late enough, so the further one waits for its end, where that is later
  pub goes_on : (i s e : ℕ) → i < J.count → Passed J at t d i s → J.earliest (at i) < s + d → e ≡ max s (J.earliest (at i) + J.duration (at i)) → Passed J at t d (i + 1) e
  goes_on i s e q w h z = elim (dec_lt s (J.earliest (at i) + J.duration (at i))) [
    | yes l ↦ waits i s e q w h (omega arith) (omega arith)
    | no l ↦ (let same : e ≡ s = omega arith in rw same (over i s w (omega arith)))
  ]

  -- the further task ends by the next task's start, and so by those of all after it
  pub stops : (i s : ℕ) → i < J.count → Passed J at t d i s → s + d ≤ J.earliest (at i) → EarliestFree J t d s
  stops i s q w h = record { from = w.from; free = free; none_before = w.none_before }
    where
      free : Free J d s
      free k r = elim (dec_lt (place k) i) [
        | yes l ↦ inr (rw (o.there k r) at (w.ended (place k) l))
        | no l ↦ (let a : J.earliest (at i) ≤ J.earliest k = rw (o.there k r) at (o.sorted i (place k) (omega arith) (o.placed k r)) in inl (omega arith))
      ]

  -- all tasks have ended
  pub ends : (s : ℕ) → Passed J at t d J.count s → EarliestFree J t d s
  ends s w = record { from = w.from; free = λ k r. inr (rw (o.there k r) at (w.ended (place k) (o.placed k r))); none_before = w.none_before }
