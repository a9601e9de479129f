-- The kinds of the atoms of a reason, as the checker numbers them.
use Rattle.std.specs.Prelude.{ℕ}
use Rattle.post_words.specs.declared.AtomKind.{AtomKind}
use Rattle.post_words.specs.declared.AtomKind.TheVariants.{AtLeast, AtMost}

abbrev pub kind_of : AtomKind → ℕ
kind_of AtLeast = 0
kind_of AtMost = 1
