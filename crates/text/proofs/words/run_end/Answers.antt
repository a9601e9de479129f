use mathlib.Core.Bool.{Bool, beq}
use mathlib.Core.Path.{◌≡◌, sym, ap, ◌∙◌}
use native.Mathlib.Omega.{arith}
use native.Mathlib.Decide.{dec_lt}
use lib.ListN.{length, drop}
use borrow.Author.Tests.{not-true, not-false}
use Rattle.std.proofs.Common.{rules}
use Rattle.text.specs.Words.{white_run, run_length}
use Rattle.text.proofs.Tokens.{run_none, run_ends, run_more}
use Rattle.text.proofs.words.run_end.Goals.{At-loop-i, in-Space, in_default}
use Rattle.text.proofs.words.run_end.Goals as goal

-- the run from `from` on, by what its bytes are
length_as : (c : At-loop-i) → run_length (white_run c.args.run) (drop c.args.«from» c.args.line.now) ≡ run_length c.match-matches.matches (drop c.args.«from» c.args.line.now)
length_as c =
    let white : c.match-matches.matches ≡ white_run c.args.run = elim c.match-matches.branch [ in-Space w ↦ search rules | in_default w ↦ search rules ] in
    ap (λ (t : Bool). run_length t (drop c.args.«from» c.args.line.now)) (sym white)

pub returns-then-is_space-white : goal.returns-then-is_space-white
returns-then-is_space-white c =
    let t = ap (λ (b : Bool). beq b c.match-matches.matches) (sym c.is_space.ensures) ∙ not-true _ c.if-is_space-white.true in
    omega (arith, c.loop-i.invariant, length_as (goal.at.returns-then-is_space-white c).At-loop-i, run_ends c.match-matches.matches c.args.line.now c.loop-i.i c.loop-i-test.true t)

pub loop-i-preserved : goal.loop-i-preserved
loop-i-preserved c =
    let t = ap (λ (b : Bool). beq b c.match-matches.matches) (sym c.is_space.ensures) ∙ not-false _ c.if-is_space-white.false in
    omega (arith, c.loop-i.invariant, run_more c.match-matches.matches c.args.line.now c.loop-i.i c.loop-i-test.true t)

pub returns : goal.returns
returns c =
    let white = c.match-matches.matches in
    let line = c.args.line.now in
    let same = length_as (goal.at.returns c).At-loop-i in
    let none = run_none white line c.loop-i.i (omega arith) in
    elim (dec_lt c.args.«from» (length line)) [
      | yes h ↦ omega (arith, c.loop-i.invariant, same, none, c.max.ensures, c.loop-i.auto.i-end (omega arith))
      | no h ↦ omega (arith, c.loop-i.invariant, same, none, c.max.ensures, run_none white line c.args.«from» (omega arith))
    ]
