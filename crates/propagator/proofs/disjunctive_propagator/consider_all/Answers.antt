use mathlib.Core.Path.{◌≡◌}
use Prim.Native.Nat.{suc, ◌+◌, ◌-◌}
use native.Mathlib.Omega.{arith}
use borrow.Author.Rules.{rules}
use Rattle.std.proofs.lemmas.Result.{err_from_is_err_and}
use Rattle.propagator.proofs.ConsideredTask.{shown, tall}
use Rattle.propagator.proofs.InnerLoop.{still_considerable, ended, nothing_left, one_left, one_less, one_emptied}
use Rattle.propagator.proofs.disjunctive_propagator.consider_all.Goals.{In-loop-turn}
use Rattle.propagator.proofs.disjunctive_propagator.consider_all.Goals as goal

-- inside the loop a turn is left
one_turn : (c : In-loop-turn) → c.args.turns - c.loop-turn._turn ≡ suc (c.args.turns - (c.loop-turn._turn + 1))
one_turn c = omega arith

pub candidate-requires : goal.candidate-requires
candidate-requires c = let v = c.loop-turn.invariant in (let a = still_considerable v.considerable (v.reached v.considerable) in (shown a, tall a))

pub returns-in_default : goal.returns-in_default
returns-in_default c = λ s.
    nothing_left s (c.loop-turn.invariant.reached s) (one_turn (goal.at.returns-in_default c).In-loop-turn) c.in_default.is c.candidate.ensures

pub consider-requires : goal.consider-requires
consider-requires c =
    let v = c.loop-turn.invariant in
    let r = v.reached v.considerable in
    let (x, o) = one_left v.considerable r c.in-Some.is c.candidate.ensures in
    (x, still_considerable v.considerable r, o)

pub loop-turn-preserved : goal.loop-turn-preserved
loop-turn-preserved c =
    let v = c.loop-turn.invariant in
    record {
      considerable = v.considerable;
      reached = λ s.
          let r = v.reached s in
          let (x, o) = one_left s r c.in-Some.is c.candidate.ensures in
          one_less s r (one_turn (goal.at.loop-turn-preserved c).In-loop-turn) c.in_ok-w.was (c.consider.ensures x (still_considerable s r) o);
      starts_length = search rules;
      posts_length = search rules;
      atoms_length = search rules;
    }

pub returns-in_err-w : goal.returns-in_err-w
returns-in_err-w c = λ s.
    let r = c.loop-turn.invariant.reached s in
    let (x, o) = one_left s r c.in-Some.is c.candidate.ensures in
    let p = err_from_is_err_and c.from_residual.result c.from_residual.ensures.1 in
    rw (p.1, p.2) (one_emptied s r (one_turn (goal.at.returns-in_err-w c).In-loop-turn) c.in_err-w.was (c.consider.ensures x (still_considerable s r) o))

pub returns : goal.returns
returns c = λ s. ended s (c.loop-turn.invariant.reached s) (omega arith)
