-- The printed tariff for lateness, in cents. A unit of time is one minute.
use Rattle.std.specs.Prelude.{List, [], ◌∷◌, true, false, ℕ, ◌+◌, ◌-◌, ◌*◌, ◌/◌, min, leb, ℤ, pos, negsuc, ◌-ℤ◌}
use Rattle.scheduling.specs.Scheduling.{total}
use Rattle.charges.specs.declared.rates.Row.{Row}

-- Each hour begun costs 25 for hours 1 to 24 and 40 for hours 25 to 59. The hours up to 59 cost 2,000, the most for a task, so none past them costs anything.
abbrev pub tariff : List Row
tariff =
    record { upto = 24; cents = 25 }
    ∷ record { upto = 59; cents = 40 }
    ∷ []

-- what an hour costs, counted from 1: the cents of the first row whose limit is not below it, or nothing
unfoldable pub rate : List Row → ℕ → ℕ
rate [] hour = 0
rate (row ∷ rows) hour = elim (leb hour row.upto) [ true ↦ row.cents | false ↦ rate rows hour ]

-- the hours 1 to n, each at its rate
abbrev pub cost_of_hours : ℕ → ℕ
cost_of_hours n = total (λ k. rate tariff (k + 1)) n

-- the hours begun: minutes by 60, rounded up
abbrev pub hours_begun : ℕ → ℕ
hours_begun minutes = (minutes + 59) / 60

-- the cost of a number of minutes late
abbrev pub cost_of_minutes : ℕ → ℕ
cost_of_minutes minutes = cost_of_hours (hours_begun minutes)

-- a whole number's units past 0
abbrev pub past : ℤ → ℕ
past (pos n) = n
past (negsuc n) = 0

-- how many minutes a task ends after its due moment; 0 where it ends at or before it
abbrev pub late_minutes : ℤ → ℤ → ℕ
late_minutes end due = past (end -ℤ due)

-- The tariff as it is printed: 25 for each of the hours 1 to 24, 40 for each hour after that, at most 2,000. The table costs the same (`as_printed`).
abbrev pub printed : ℕ → ℕ
printed hours = min 2000 (25 * min hours 24 + 40 * (hours - 24))
