-- The pieces of a text between separators. Definitions only.
use Rattle.std.specs.Prelude.{ℕ, suc, true, false, List, [], ◌∷◌, eqb, leb, length, drop}

-- the length of the first piece
unfoldable pub until : ℕ → List ℕ → ℕ
until separator [] = 0
until separator (b ∷ bytes) = elim (eqb b separator) [ true ↦ 0 | false ↦ suc (until separator bytes) ]

-- The pieces between the separators, at least one. Lines are the pieces between bytes 10; the last piece has no line end.
-- Words are a line's pieces between bytes 32.
unfoldable pub on_first : ℕ → List (List ℕ) → List (List ℕ)
on_first b [] = (b ∷ []) ∷ []
on_first b (piece ∷ pieces) = (b ∷ piece) ∷ pieces

unfoldable pub split : ℕ → List ℕ → List (List ℕ)
split separator [] = [] ∷ []
split separator (b ∷ bytes) = elim (eqb b separator) [ true ↦ [] ∷ split separator bytes | false ↦ on_first b (split separator bytes) ]

-- the pieces from a place on, none past the end
unfoldable pub pieces : ℕ → List ℕ → ℕ → List (List ℕ)
pieces separator bytes at = elim (leb at (length bytes)) [ true ↦ split separator (drop at bytes) | false ↦ [] ]
