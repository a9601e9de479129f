use mathlib.Core.List.{List, foldl, ◌++◌, foldl-append}
use mathlib.Core.Path.{◌≡◌, sym, ap, ◌∙◌}
use Prim.Native.Nat.{ℕ}
use Rattle.std.specs.declared.option.Option.{Option}
use Rattle.std.specs.Io.KnownBytes.{Consumes}
use Rattle.std.proofs.KnownBytes.{Consumes-trans}
use Rattle.text.specs.Scanner.{at_start, step_of, end_of, gathered}
use Rattle.text.specs.Numbers.{numbers_in}
use Rattle.text.specs.declared.reading.Numbers.{Numbers}
use Rattle.text.specs.declared.reading.Scanner.{Scanner}
use Rattle.text.proofs.ScannedNumbers.{scanned}
use Rattle.plan_cli.proofs.stdin.read_numbers.Goals as goal
use Rattle.plan_cli.proofs.stdin.read_numbers.Goals.{else-loop-test, then-loop-test+then-n-eq0}

-- a scanner that has gone over some bytes, those that were taken from the input
abbrev Scanned : Option (List ℕ) → Option (List ℕ) → Scanner → Scanner → Type 0
Scanned before after from scanner = (bytes : List ℕ) × (scanner ≡ foldl step_of from bytes) × Consumes before after bytes

-- one piece more
further : (a b c : Option (List ℕ)) (s t : Scanner) → Scanned a b at_start s → Scanned b c s t → Scanned a c at_start t
further a b c s t i p = (
  i.0 ++ p.0,
  p.1 ∙ ap (λ (x : Scanner). foldl step_of x p.0) i.1 ∙ sym (foldl-append step_of at_start i.0 p.0),
  Consumes-trans a b c i.0 p.0 i.2 p.2,
)

-- the numbers of all of them
finished : (a b : Option (List ℕ)) (s : Scanner) (ns : Numbers) → ns ≡ end_of s → Scanned a b at_start s → (text : List ℕ) × (ns ≡ gathered (numbers_in text)) × Consumes a b text
finished a b s ns e i = (i.0, e ∙ ap end_of i.1 ∙ scanned i.0, i.2)

pub loop-preserved : goal.loop-preserved
loop-preserved g c = further _ _ _ _ _ c.loop.invariant (_, c.feed-scanner.ensures, c.read_some-n.ensures.bytes)

pub returns : goal.returns
returns g c =
    let i : Scanned (g.R.Read.remaining c.args.input.now) (g.R.Read.remaining c.loop-test.input) at_start c.loop-test.scanner =
    elim c.loop-test.branch [
      | else-loop-test w ↦ rw (w.input-is, w.scanner-is) c.loop.invariant
      | then-loop-test+then-n-eq0 w ↦ rw (w.input-is, w.scanner-is) (further _ _ _ _ _ c.loop.invariant (_, w.feed-scanner.ensures, w.read_some-n.ensures.bytes))
    ] in
    finished _ _ _ _ c.finish.ensures i
