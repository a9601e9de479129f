-- A loop's running value: at each task of a set it becomes the lesser, or the greater, of itself and the task's own. It ends as the least, or the greatest, of the set.
use mathlib.Core.Path.{◌≡◌}
use mathlib.Core.Bool.{true, false, cond}
use mathlib.Core.Logic.{◌↔◌, ◌⊎◌, inl, inr}
use Prim.Native.Nat.{ℕ, zero, suc, ◌≤◌, ◌<◌, min, max}
use native.Mathlib.Omega.{arith}
use native.Mathlib.Nat.{le_antisymm}
use Rattle.integers.proofs.Bools.{bool, clash, below_suc}
use Rattle.scheduling.specs.Scheduling.{natural, Tasks, TaskSet, In, NonEmpty, Least, Largest}
use Rattle.scheduling.proofs.Exists.{least_at, largest_at}

-- Under is an order, and what is under `pick x y` is what is under both. So what is under the running value is under its first value and those of the tasks so far.
module _ (Ω : TaskSet) (f v : ℕ → ℕ) (Under : ℕ → ℕ → Type 0) (pick : ℕ → ℕ → ℕ) (both : (w x y : ℕ) → Under w (pick x y) ↔ (Under w x × Under w y))
    (step : (k : ℕ) → v (suc k) ≡ cond (Ω k) (pick (v k) (f k)) (v k)) where
  abbrev UnderAll : ℕ → ℕ → Type 0
  UnderAll m w = Under w (v 0) × ((k : ℕ) → k < m → Ω k ≡ true → Under w (f k))

  running : (m w : ℕ) → Under w (v m) ↔ UnderAll m w
  running zero w = (λ u. (u, λ k q. absurd (omega arith)), λ u. u.0)
  running (suc m) w = by (running m w) (bool (Ω m))
    where
      by : Under w (v m) ↔ UnderAll m w → (Ω m ≡ true) ⊎ (Ω m ≡ false) → Under w (v (suc m)) ↔ UnderAll (suc m) w
      by ih (inl y) = (
        λ u. let r = (both w (v m) (f m)).0 (rw (step m, y) at u) in ((ih.0 r.0).0, below_suc (λ k. Ω k ≡ true → Under w (f k)) m (ih.0 r.0).1 (λ _. r.1)),
        λ u. rw (step m, y) ((both w (v m) (f m)).1 (ih.1 (u.0, λ k q. u.1 k (omega arith)), u.1 m (omega arith) y)),
      )
      by ih (inr y) = (
        λ u. let r = ih.0 (rw (step m, y) at u) in (r.0, below_suc (λ k. Ω k ≡ true → Under w (f k)) m r.1 (λ z. clash z y)),
        λ u. rw (step m, y) (ih.1 (u.0, λ k q. u.1 k (omega arith))),
      )

module _ (J : Tasks natural) (Ω : TaskSet) (f v : ℕ → ℕ) (ne : NonEmpty J Ω) where
  pub running_least : ((k : ℕ) → v (suc k) ≡ cond (Ω k) (min (v k) (f k)) (v k)) → ((k : ℕ) → k < J.count → f k ≤ v 0)
      → Least natural (λ t. (k : ℕ) × In J Ω k × (f k ≡ t)) (v J.count)
  running_least step first =
      let (k, km, kt) = least_at J Ω f ne in
      let r = running Ω f v (λ w x. w ≤ x) min (λ w x y. (λ u. (omega arith, omega arith), λ u. omega arith)) step J.count in
      let under = ((r (v J.count)).0 (omega arith)).1 in
      record {
        holds = (k, km, le_antisymm ((r (f k)).1 (first k km.small, λ j q y. kt j (record { small = q; mem = y }))) (under k km.small km.mem));
        bounds = λ w (j, jm, e). omega (arith, e, under j jm.small jm.mem);
      }

  pub running_largest : ((k : ℕ) → v (suc k) ≡ cond (Ω k) (max (v k) (f k)) (v k)) → ((k : ℕ) → k < J.count → v 0 ≤ f k)
      → Largest natural (λ t. (k : ℕ) × In J Ω k × (f k ≡ t)) (v J.count)
  running_largest step first =
      let (k, km, kt) = largest_at J Ω f ne in
      let r = running Ω f v (λ w x. x ≤ w) max (λ w x y. (λ u. (omega arith, omega arith), λ u. omega arith)) step J.count in
      let over = ((r (v J.count)).0 (omega arith)).1 in
      record {
        holds = (k, km, le_antisymm (over k km.small km.mem) ((r (f k)).1 (first k km.small, λ j q y. kt j (record { small = q; mem = y }))));
        bounds = λ w (j, jm, e). omega (arith, e, over j jm.small jm.mem);
      }

-- There is one of each.
pub one_least : {P : ℕ → Type 0} {u v : ℕ} → Least natural P u → Least natural P v → u ≡ v
one_least {u = u} {v = v} a b = le_antisymm (a.bounds v b.holds) (b.bounds u a.holds)

pub one_largest : {P : ℕ → Type 0} {u v : ℕ} → Largest natural P u → Largest natural P v → u ≡ v
one_largest {u = u} {v = v} a b = le_antisymm (b.bounds u a.holds) (a.bounds v b.holds)
