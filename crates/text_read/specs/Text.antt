-- The bytes of a text. Definitions only.
use Prim.Native.Char.{code}
use Rattle.std.specs.Prelude.{ℕ, List, [], ◌∷◌}
use Prim.Native.String.{String, [] as no_text, ◌∷◌ as ◌and_text◌}

-- the bytes of a text of characters below 128
unfoldable pub bytes : String → List ℕ
bytes no_text = []
bytes (c and_text s) = code c ∷ bytes s
