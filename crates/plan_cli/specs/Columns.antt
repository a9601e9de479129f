-- Tasks by columns.
use Rattle.std.specs.Prelude.{List, map, ℤ}
use Rattle.plan_cli.specs.Printed.{Triple}

pub record Columns : Type 0 where
  pub earliest : List ℤ
  pub latest : List ℤ
  pub durations : List ℤ

abbrev pub columns_of : List Triple → Columns
columns_of ts = record {
  earliest = map (λ (t : Triple). t.earliest) ts;
  latest = map (λ (t : Triple). t.latest) ts;
  durations = map (λ (t : Triple). t.duration) ts;
}

-- a function of the three lists
abbrev pub of_columns : {A : Type 0} → (List ℤ → List ℤ → List ℤ → A) → Columns → A
of_columns f t = f t.earliest t.latest t.durations
