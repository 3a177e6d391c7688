-- Texts compared. Definitions only.
use Rattle.std.specs.Prelude.{ℕ, Bool, true, false, ◌&&◌, List, [], ◌∷◌, eqb, length}

-- the bytes begin with those of a prefix
unfoldable pub begins : List ℕ → List ℕ → Bool
begins [] bytes = true
begins (p ∷ prefix) [] = false
begins (p ∷ prefix) (b ∷ bytes) = eqb b p && begins prefix bytes

-- the bytes are exactly those of a text
unfoldable pub same : List ℕ → List ℕ → Bool
same text bytes = eqb (length bytes) (length text) && begins text bytes
