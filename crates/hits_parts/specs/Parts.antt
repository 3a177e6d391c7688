-- docs/SPECIFICATION.md, 'The program hits': the lines of a certificate's parts. Definitions only.
use Rattle.std.specs.Prelude.{ℕ, List, [], ◌∷◌, ◌++◌}
use Rattle.model.specs.Certificate.{Part, answer, gap}
use Rattle.text_lines.specs.Lines.{line}

-- `gap` first last mask, or `hit` value mask, for each part
unfoldable pub part_line : Part → List ℕ
part_line (gap first last named) = line (103 ∷ 97 ∷ 112 ∷ []) (first ∷ last ∷ named ∷ [])
part_line (answer value named) = line (104 ∷ 105 ∷ 116 ∷ []) (value ∷ named ∷ [])

unfoldable pub part_lines : List Part → List ℕ
part_lines [] = []
part_lines (p ∷ ps) = part_line p ++ part_lines ps
