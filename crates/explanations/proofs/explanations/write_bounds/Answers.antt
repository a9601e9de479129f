-- The leaves are split where ω' begins, and the two halves are written one after the other.
use Rattle.std.proofs.Common.{◌≡◌, rules, of_calls, arith}
use Prim.Native.Nat.{◌+◌}
use lib.ListN.{get_or}
use Rattle.explanations.specs.Walks.{Attains, StopsAt}
use Rattle.explanations.specs.Leaves.{white_of, task_at}
use Rattle.explanations.proofs.StoredReasons.{asks, stops_at, writable_first, writable_rest, bounds_stored}
use Rattle.explanations.proofs.explanations.write_bounds.Goals.{After-walk-omega_prime}
use Rattle.explanations.proofs.explanations.write_bounds.Goals as goal

stops : (c : After-walk-omega_prime) → let t = c.args.theta in
    StopsAt (white_of t) (task_at t) (Attains t.est.now c.args.new_bound) t.durations.now c.args.omega.first.0 t.n c.walk-omega_prime.result.first.0 c.walk-omega_prime.result.lasts
stops c = stops_at c.walk-omega_prime.ensures (λ k q h. search of_calls)
    (λ k q h same. (let other : get_or c.args.theta.est.now k 0 + q ≡ c.args.new_bound → ⊥ = search of_calls in other same))

pub write_within-at-requires : goal.write_within-at-requires
write_within-at-requires c =
    let s = stops (goal.at.write_within-at-requires c).After-walk-omega_prime in
    (writable_first s c.requires.1, s.from, omega (arith, s.small, c.args.theta.tasks))

pub write_within-requires : goal.write_within-requires
write_within-requires c =
    let s = stops (goal.at.write_within-requires c).After-walk-omega_prime in
    (writable_rest s c.args.r c.requires.1 c.write_within-at.ensures, omega (arith, s.small), c.args.theta.tasks)

pub returns : goal.returns
returns c =
    let a = c.args in
    bounds_stored a.theta.est.now c.requires.0.total a.new_bound a.r a.last (stops (goal.at.returns c).After-walk-omega_prime) c.write_within-at.ensures c.write_within.ensures
