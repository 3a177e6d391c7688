-- docs/SPECIFICATION.md, 'Bins between two numbers'. Definitions only.
use Rattle.std.specs.Prelude.{ℕ, true, false, ◌&&◌, List, [], ◌∷◌, ltb, leb}
use Rattle.std.proofs.Math.Option.{none, some}
use Rattle.model.specs.Runs.{first_bin, from, unrisen_run}

-- the numbers of a list from the first to the last
unfoldable pub within : ℕ → ℕ → List ℕ → List ℕ
within first last [] = []
within first last (x ∷ s) = elim (leb first x && leb x last) [ true ↦ x ∷ within first last s | false ↦ within first last s ]

-- The part of the list which holds exactly its bins from the first number to the last; zeros at its start are none. If the first is above the last, or the list
-- does not rise after them, it is empty.
unfoldable pub between : ℕ → ℕ → List ℕ → List ℕ
between first last s =
    elim (ltb last first) [
      | true ↦ []
      | false ↦ elim (unrisen_run 0 s) [ none ↦ within first last (from first_bin s) | some i ↦ [] ]
    ]
