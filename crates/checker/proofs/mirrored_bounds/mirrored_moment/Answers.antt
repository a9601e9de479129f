-- 2³² less a sum is formed as the largest u32 less that sum, and one: neither step wraps.
use native.Mathlib.Omega.{arith}
use Rattle.checker.proofs.mirrored_bounds.mirrored_moment.Goals as goal

pub returns-then-not-known : goal.returns-then-not-known
returns-then-not-known c = rw c.if-not-known.true

pub returns : goal.returns
returns c = rw c.if-not-known.false (omega (arith, c.requires.1))
