-- Several inputs in one text.
use Rattle.std.specs.Prelude.{true, false, List, [], ◌∷◌, ℕ, suc, eqb}

-- the place of the first '%' of a text, or the end where there is none
unfoldable pub first_mark : List ℕ → ℕ
first_mark [] = 0
first_mark (b ∷ bs) = elim (eqb b 37) [ true ↦ 0 | false ↦ suc (first_mark bs) ]
