-- What the functions that write a page take for given: no contract of an open call names these.
use Rattle.std.specs.Prelude.{◌≡◌, List, ℕ, ◌+◌, ◌*◌, ◌≤◌, ◌<◌, ℤ, pos, ◌+ℤ◌, length, get_or}
use Rattle.integers.specs.Limits.{TASKS, DURATIONS}
use Rattle.records.specs.declared.record.DisjunctivePropagator.{DisjunctivePropagator}
use Rattle.records.specs.Refusals.{StartFits, AcceptedInput}
use Rattle.text.specs.DecimalText.{decimal}
use Rattle.conflicts.specs.declared.answer.Found.{Found}
use Rattle.conflicts.specs.declared.answer.Found.TheVariants.{NothingFound, Overload, Late, Refused}
use Rattle.conflicts.specs.declared.answer.Conflict.{Conflict}
use Rattle.conflict_pages.specs.Lines.{LINE}

-- Few tasks, their ranges and durations within the limits, and room for the heading and all their lines.
pub record Linable (es ls : List ℤ) (ds : List ℕ) (room : ℕ) : Type 0 where
  pub few : length es ≤ TASKS
  pub same : length ls ≡ length es
  pub earliest : (k : ℕ) → k < length es → StartFits (get_or es k (pos 0))
  pub latest : (k : ℕ) → k < length es → StartFits (get_or ls k (pos 0))
  pub durations : (k : ℕ) → k < length es → get_or ds k 0 ≤ DURATIONS
  pub space : LINE * (length es + 1) ≤ room

-- Work p from est on is past lct by `excess`, and lct is not before est.
pub record OverloadSayable (est : ℤ) (p : ℕ) (lct : ℤ) (excess : ℕ) : Type 0 where
  pub start : StartFits est
  pub short : p ≤ DURATIONS
  pub sum : est +ℤ pos p ≡ lct +ℤ pos excess
  pub less : excess ≤ p

-- The numbers of a sum are within the limits.
pub record SumSayable (task : ℕ) (est : ℤ) (p : ℕ) (past : ℤ) : Type 0 where
  pub small : task < TASKS
  pub start : StartFits est
  pub short : p ≤ DURATIONS
  pub few : length (decimal past) ≤ 10

-- those of a conflict's sentences
abbrev pub Sayable : Conflict → Found → Type 0
Sayable c NothingFound = Unit {0}
Sayable c Overload = OverloadSayable c.set.est c.set.p c.lct c.excess
Sayable c (Late task latest bound) = SumSayable task c.set.est c.set.p c.lct × SumSayable task c.before.est c.before.p latest
Sayable c (Refused why) = Unit {0}

-- A conflict of an accepted input, and room for its page.
pub record Pageable (r : DisjunctivePropagator) (es ls : List ℤ) (c : Conflict) (room : ℕ) : Type 0 where
  pub input : AcceptedInput r es ls
  pub sayable : Sayable c c.found
  pub space : LINE * (r.count + 5) ≤ room
