-- The parts that lent bytes hold, as a loop over their fields meets them. Definitions only.
use Rattle.std.specs.Prelude.{ℕ, zero, suc, List, [], ◌∷◌, length}
use Rattle.model.specs.Certificate.{Part, unreadable, read, read_field}

-- The parts that some bytes hold: fields one after another, up to the first that cannot be read. (Each field has at least one byte.)
unfoldable pub parts_from : ℕ → List ℕ → List Part
parts_from zero bytes = []
parts_from (suc fuel) bytes = elim (read_field bytes) [ unreadable n ↦ [] | read p rest ↦ p ∷ parts_from fuel rest ]

unfoldable pub parts_held : List ℕ → List Part
parts_held bytes = parts_from (length bytes) bytes
