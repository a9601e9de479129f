-- Texts as bytes: what a program prints is written in its definitions as it is read.
use Rattle.std.specs.Prelude.{List, [], ◌∷◌, ℕ}
use Prim.Native.Char.{code}
use Prim.Native.String as S
use Prim.Native.String.{String}

-- the bytes of a text in ASCII, one for each character
unfoldable pub bytes_of : String → List ℕ
bytes_of S.[] = []
bytes_of (S.◌∷◌ c s) = code c ∷ bytes_of s
