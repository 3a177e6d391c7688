-- Sections by the place where their lines begin. Definitions only.
use Rattle.std.specs.Prelude.{ℕ, List}
use Rattle.lcov_form.specs.Form.{Line, lines_from, Section, section}
use Rattle.text_read.specs.Pieces.{pieces}

-- the lines from a place on, none past the end
unfoldable pub lines_at : List ℕ → ℕ → List Line
lines_at file at = lines_from at (pieces 10 file at)

-- the section whose lines begin at a place
unfoldable pub section_at : List ℕ → ℕ → Section
section_at file at = section (lines_at file at)
