-- A page's lines have one length, so that each is found at its place.
use mathlib.Core.Path.{◌≡◌, refl, ap, ◌∙◌}
use mathlib.Core.Bool.{Bool, true, false}
use mathlib.Core.List.{List, ◌++◌, flat_map, append_assoc}
use Prim.Native.Nat.{ℕ, ◌+◌, ◌*◌, ◌≤◌, ◌<◌}
use native.Mathlib.Omega.{arith}
use lib.IntN.{ℤ, pos, ◌+ℤ◌}
use lib.ListN.{length, get_or, take, drop, length-append}
use lib.Seq.{take_at}
use Rattle.integers.specs.Limits.{TASKS, DURATIONS}
use Rattle.integers.specs.Texts.{bytes_of}
use Rattle.records.specs.declared.record.DisjunctivePropagator.{DisjunctivePropagator}
use Rattle.records.specs.Refusals.{StartFits}
use Rattle.text.specs.DecimalText.{decimal}
use Rattle.pages.proofs.RightAligned.{pad_length, task_fits, start_fits, end_fits}
use Rattle.pages.proofs.PageLines.{line_after}
use Rattle.conflicts.specs.declared.answer.Conflict.{Conflict}
use Rattle.conflicts.specs.Answers.{flagged}
use Rattle.conflict_pages.specs.Lines.{LINE, line_end, columns, heading, line_of}
use Rattle.conflict_pages.specs.TaskLines.{tasks_of, line_at}
use Rattle.conflict_pages.specs.Pages.{sentences_of, page_of, OneLineEach}
use Rattle.conflict_pages.specs.Sayable.{Linable}
use Rattle.conflict_pages.proofs.Widths.{count_fits}
use Rattle.conflict_pages.proofs.ChosenTasks.{chosen, chosen_at, place_of, chosen_rise}

end_length : (marked : Bool) → length (line_end marked) ≡ 3
unfolding bytes_of
end_length true = refl
end_length false = refl

line_length : (task : ℕ) (earliest latest : ℤ) (d : ℕ) (marked : Bool) → task < TASKS → StartFits earliest → StartFits latest → d ≤ DURATIONS
    → length (line_of task earliest (latest +ℤ pos d) d marked) ≡ LINE
unfolding columns
line_length task earliest latest d marked h i j k = simp length-append (omega (
  arith,
  pad_length 4 (decimal (pos task)) (omega (arith, task_fits task h)),
  pad_length 12 (decimal earliest) (omega (arith, start_fits earliest i)),
  pad_length 12 (decimal (latest +ℤ pos d)) (omega (arith, end_fits latest d j k)),
  pad_length 12 (decimal (pos d)) (omega (arith, count_fits d k)),
  end_length marked,
))

module _ (r : DisjunctivePropagator) (es ls : List ℤ) (c : Conflict) {room : ℕ} (a : Linable es ls r.durations room) where
  -- task k's line
  abbrev f : ℕ → List ℕ
  f = line_at c.before.tasks es ls r.durations

  each_line : (k : ℕ) → k < length es → length (f k) ≡ LINE
  each_line k q =
      line_length k (get_or es k (pos 0)) (get_or ls k (pos 0)) (get_or r.durations k 0) (flagged c.before.tasks k) (omega (arith, a.few)) (a.earliest k q) (a.latest k q) (a.durations k q)

  abbrev tasks : List ℕ
  tasks = tasks_of c.set.tasks (length es)

  abbrev sentences : List ℕ
  sentences = sentences_of c c.found

  parted : page_of r es ls c ≡ heading ++ (flat_map f tasks ++ sentences)
  parted = append_assoc heading (flat_map f tasks) sentences

  pub one_line_each : OneLineEach r es ls c tasks
  unfolding bytes_of
  one_line_each = record {
    first = ap (take LINE) parted ∙ take_at heading (flat_map f tasks ++ sentences) LINE refl;
    line = λ t q. ap (λ (l : List ℕ). take LINE (drop (LINE * (t + 1)) l)) parted
        ∙ line_after f LINE heading refl tasks (λ k h. each_line k (chosen (flagged c.set.tasks) (length es) k h).0) sentences t q;
    chosen = chosen_at (flagged c.set.tasks) (length es);
    every = place_of (flagged c.set.tasks) (length es);
    rising = chosen_rise (flagged c.set.tasks) (length es);
  }
