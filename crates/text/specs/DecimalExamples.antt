-- The definitions at the least i32 and at 0.
use Rattle.std.specs.Prelude.{◌≡◌, refl, pos, negsuc}
use Rattle.integers.specs.Texts.{bytes_of}
use Rattle.text.specs.DecimalText.{figures, natural, decimal}

least_written : decimal (negsuc 2147483647) ≡ bytes_of "-2147483648"
unfolding bytes_of figures natural decimal
least_written = refl

zero_written : decimal (pos 0) ≡ bytes_of "0"
unfolding bytes_of figures natural decimal
zero_written = refl
