-- By the outcome, each way one shape of the answer; `Printable` gives its room.
use mathlib.Core.List.{List}
use mathlib.Core.Path.{◌≡◌, sym, subst}
use mathlib.Core.Logic.{◌⊎◌}
use Prim.Native.Nat.{ℕ}
use lib.IntN.{ℤ}
use Rattle.integers.specs.Texts.{bytes_of}
use Rattle.runs.specs.Traces.{Trace}
use Rattle.runs.specs.declared.outcome.Outcome.{Outcome}
use Rattle.runs.specs.declared.outcome.Outcome.TheVariants as outcome
use Rattle.text.proofs.PutBytes.{puts_append}
use Rattle.plan_cli.specs.Lines.{done_line, emptied_line}
use Rattle.plan_cli.specs.RunSlices.{Shown}
use Rattle.plan_cli.proofs.RunLines.{puts_as}
use Rattle.plan_cli.proofs.PrintedRun.{Parts, OverloadParts, done_parts, emptied_parts, overload_parts}
use Rattle.plan_cli.proofs.report.put_run.Goals as goal

-- what is shown, where the outcome is known
module _ (posts atoms starts : List ℤ) {r : Outcome} (what : ℕ ⊎ Trace) (h : Shown what r posts atoms starts) where
  known : (r' : Outcome) → r ≡ r' → Shown what r' posts atoms starts
  known r' e = subst (λ (x : Outcome). Shown what x posts atoms starts) e h

  done : (count : ℕ) → r ≡ outcome.Done count → Parts what posts atoms count (done_line starts)
  done count e = done_parts posts atoms starts what count (known (outcome.Done count) e)

  overloaded : (count first many : ℕ) → r ≡ outcome.Overload count first many → OverloadParts posts atoms starts what count first many
  overloaded count first many e = overload_parts posts atoms starts what count first many (known (outcome.Overload count first many) e)

  emptied : (count : ℕ) → r ≡ outcome.Emptied count → Parts what posts atoms count emptied_line
  emptied count e = emptied_parts posts atoms starts what count (known (outcome.Emptied count) e)

pub returns-in-Done-clause-text : goal.returns-in-Done-clause-text
returns-in-Done-clause-text c what h =
    let p = done c.args.posts.now c.args.atoms.now c.args.starts.now what h _ c.in-Done.is in
    puts_as (sym p.text) (puts_append (c.put_posts-end.ensures.text p.list p.holds) c.put_done.ensures.text)

pub returns-in-Overload-clause-text : goal.returns-in-Overload-clause-text
returns-in-Overload-clause-text c what h =
    let q = overloaded c.args.posts.now c.args.atoms.now c.args.starts.now what h _ _ _ c.in-Overload.is in
    puts_as (sym q.parts.text) (puts_append (c.put_posts-end-in-Overload.ensures.text q.parts.list q.parts.holds) (c.put_overload.ensures.text q.reason q.words))

pub returns-in-Emptied-clause-text : goal.returns-in-Emptied-clause-text
unfolding bytes_of
returns-in-Emptied-clause-text c what h =
    let p = emptied c.args.posts.now c.args.atoms.now c.args.starts.now what h _ c.in-Emptied.is in
    puts_as (sym p.text) (puts_append (c.put_posts-end-in-Emptied.ensures.text p.list p.holds) c.put_bytes.ensures)
