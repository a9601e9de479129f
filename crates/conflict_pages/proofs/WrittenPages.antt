-- A page's parts, one after the other.
use mathlib.Core.Path.{◌≡◌, refl, sym, subst}
use mathlib.Core.List.{List, [], ◌++◌}
use Prim.Native.Nat.{ℕ, ◌+◌, ◌*◌, ◌≤◌}
use native.Mathlib.Omega.{arith}
use lib.IntN.{ℤ}
use lib.ListN.{length, get_or}
use mir.Syntax.{w32}
use mir.Val.{SFits, to_z, of_z}
use Rattle.integers.proofs.Ints.{back}
use Rattle.scheduling.proofs.Sets.{total_part}
use Rattle.records.specs.declared.record.DisjunctivePropagator.{DisjunctivePropagator}
use Rattle.text.specs.DecimalText.{Puts}
use Rattle.text.proofs.PutBytes.{puts_length, puts_append}
use Rattle.conflicts.specs.declared.answer.Found.{Found}
use Rattle.conflicts.specs.declared.answer.Found.TheVariants.{Overload, Late}
use Rattle.conflicts.specs.declared.answer.Conflict.{Conflict}
use Rattle.conflict_pages.specs.Lines.{LINE, heading}
use Rattle.conflict_pages.specs.TaskLines.{task_lines}
use Rattle.conflict_pages.specs.Sentences.{overload_sentences, comes_after, starts_after}
use Rattle.conflict_pages.specs.Pages.{sentences_of, page_of}
use Rattle.conflict_pages.specs.Sayable.{Linable, OverloadSayable, SumSayable, Sayable, Pageable}

-- a number as the machine hands it on
abbrev word : ℤ → ℤ
word z = to_z w32 (of_z w32 z)

module _ (r : DisjunctivePropagator) (es ls : List ℤ) (c : Conflict) (out : List ℕ) (a : Pageable r es ls c (length out)) where
  -- there is room for the lines
  pub linable : Linable es ls r.durations (length out)
  linable =
      let i = a.input in
      let n = i.counts.earliest in
      record {
        few = omega (arith, n, i.lawful.few);
        same = omega (arith, n, i.counts.latest);
        earliest = i.starts.earliest;
        latest = λ k q. i.starts.latest k (omega (arith, n, i.counts.latest));
        durations = λ k q. omega (arith, total_part (λ j. get_or r.durations j 0) r.count k (omega (arith, n)), i.lawful.sum);
        space = omega (arith, n, a.space);
      }

  -- what is known of its numbers, by what was found
  said : {f : Found} → c.found ≡ f → Sayable c f
  said e = subst (Sayable c) e a.sayable

  -- The heading and the lines are put. The room of four lines is enough for the sentences, and they say the conflict's numbers.
  module _ {second : List ℕ} {at : ℕ} (lines : Puts out second 0 (heading ++ task_lines c.set.tasks c.before.tasks es ls r.durations) at) (low : at ≤ LINE * (length es + 1)) where
    with_sentences : {third : List ℕ} {next : ℕ} {f : Found} → c.found ≡ f → Puts second third at (sentences_of c f) next → next ≤ at + 171
        → Puts out third 0 (page_of r es ls c) next × (next ≤ length out)
    with_sentences {third} {next} e q h = (
      puts_append lines (subst (λ (g : Found). Puts second third at (sentences_of c g) next) (sym e) q),
      omega (arith, a.space, a.input.counts.earliest),
    )

    pub no_sentences : {f : Found} → c.found ≡ f → sentences_of c f ≡ [] → Puts out second 0 (page_of r es ls c) at × (at ≤ length out)
    no_sentences e none = with_sentences e (rw none (record { text = refl; end = omega arith })) (omega arith)

    module _ (d : SFits w32 c.set.est) (e : SFits w32 c.lct) where
      pub overload_able : c.found ≡ Overload → OverloadSayable (word c.set.est) c.set.p (word c.lct) c.excess × (at + 94 ≤ length second)
      overload_able f = (rw (back d, back e) (said f), omega (arith, puts_length lines, a.space, a.input.counts.earliest))

      pub overload_page : {third : List ℕ} {next : ℕ} → c.found ≡ Overload → Puts second third at (overload_sentences (word c.set.est) c.set.p (word c.lct) c.excess) next
          → next ≤ at + 93
          → Puts out third 0 (page_of r es ls c) next × (next ≤ length out)
      overload_page f q h = with_sentences f (rw (back d, back e) at q) (omega arith)

      module _ {task : ℕ} {latest bound : ℤ} (f : c.found ≡ Late task latest bound) where
        pub first_able : SumSayable task (word c.set.est) c.set.p (word c.lct) × (at + 59 + 25 ≤ length second)
        first_able = (rw (back d, back e) (said f).0, omega (arith, puts_length lines, a.space, a.input.counts.earliest))

        module _ {third : List ℕ} {next : ℕ} (first : Puts second third at (comes_after task (word c.set.est) c.set.p (word c.lct)) next) (h : next ≤ at + 58 + 25)
            (i : SFits w32 c.before.est) (j : SFits w32 latest) where
          pub second_able : SumSayable task (word c.before.est) c.before.p (word latest) × (next + 59 + 30 ≤ length third)
          second_able = (rw (back i, back j) (said f).1, omega (arith, puts_length lines, puts_length first, a.space, a.input.counts.earliest))

          pub late_page : {last : List ℕ} {end : ℕ} → Puts third last next (starts_after task (word c.before.est) c.before.p (word latest)) end → end ≤ next + 58 + 30
              → Puts out last 0 (page_of r es ls c) end × (end ≤ length out)
          late_page q k = with_sentences f (puts_append (rw (back d, back e) at first) (rw (back i, back j) at q)) (omega arith)
