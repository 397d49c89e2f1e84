-- A quoted text as its bytes (ASCII).
-- Assumes nothing.
use Rattle.std.specs.Prelude.{ℕ, List, [], ◌∷◌}
use Prim.Native.Char.{code}
use Prim.Native.String as Str
use Prim.Native.String.{String}

abbrev pub text : String → List ℕ
text Str.[] = []
text (Str.◌∷◌ c s) = code c ∷ text s
