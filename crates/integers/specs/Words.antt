-- A lent slice that is written from the front.
use Rattle.std.specs.Prelude.{List, ◌++◌, length, drop}

-- the words ws, and after them what stood there
abbrev pub overwritten : {A : Type 0} → List A → List A → List A
overwritten entry ws = ws ++ drop (length ws) entry
