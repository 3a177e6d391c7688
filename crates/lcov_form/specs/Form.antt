-- docs/SPECIFICATION.md, 'LCOV tracefiles': the form of a file: lines, sections, records. Definitions only.
use Rattle.std.specs.Prelude.{ℕ, ◌+◌, Bool, true, false, List, [], ◌∷◌, eqb, length, drop}
use Rattle.std.proofs.Math.Option.{Option, none, some}
use Rattle.text_match.specs.Match.{begins, same}
use Rattle.text_read.specs.Numbers.{number, value}
use Rattle.text_read.specs.Pieces.{split}
use Rattle.text_read.specs.Text.{bytes}

-- A line: the offset of its first byte in the file, and its bytes without its end.
pub record Line : Type 0 where
  pub offset : ℕ
  pub text : List ℕ

-- Lines end with byte 10, which the last may lack. (Where it does not lack it, an empty line follows, which says nothing.)
unfoldable pub lines_from : ℕ → List (List ℕ) → List Line
lines_from offset [] = []
lines_from offset (text ∷ texts) = record { offset = offset; text = text } ∷ lines_from (offset + length text + 1) texts

unfoldable pub lines : List ℕ → List Line
lines file = lines_from 0 (split 10 file)

-- A section opens at a line beginning `SF:` while none is open and closes at the next line that is exactly `end_of_record`.
unfoldable pub opens : List ℕ → Bool
opens text = begins (bytes "SF:") text

unfoldable pub closes : List ℕ → Bool
closes text = same (bytes "end_of_record") text

-- A section: the lines after the one that opens it, up to the one that closes it; or up to the end of the file, and its end is missing.
infixr 20 ◌and_then◌
pub data Section : Type 0 where
  closed : Section
  unclosed : Section
  ◌and_then◌ : (line : Line) (rest : Section) → Section

unfoldable pub section : List Line → Section
section [] = unclosed
section (line ∷ lines) = elim (closes line.text) [ true ↦ closed | false ↦ line and_then section lines ]

-- The sections that open in these lines, `inside` saying whether one is open before them.
unfoldable pub sections : (inside : Bool) → List Line → List Section
sections inside [] = []
sections false (line ∷ lines) = elim (opens line.text) [ true ↦ section lines ∷ sections true lines | false ↦ sections false lines ]
sections true (line ∷ lines) = elim (closes line.text) [ true ↦ sections false lines | false ↦ sections true lines ]

-- A line of a section: a `DA:` record with a count above 0, one that is not of the form, or a line that is passed over: another record, or a count of 0.
pub data Record : Type 0 where
  covered : (number : ℕ) → Record
  malformed : Record
  passed_over : Record

-- The line number and the count. A line number is 1 to 4294967295.
unfoldable pub counted : Option ℕ → Option ℕ → Record
counted none count = malformed
counted (some line) none = malformed
counted (some line) (some count) = elim (eqb line 0) [ true ↦ malformed | false ↦ elim (eqb count 0) [ true ↦ passed_over | false ↦ covered line ] ]

-- After `DA:`: digits for 1 to 4294967295, a comma, digits, then a comma or its end. A third value is ignored.
-- (Here: what stands between the commas.)
unfoldable pub values : List (List ℕ) → Record
values [] = malformed
values (line ∷ []) = malformed
values (line ∷ count ∷ others) = counted (number line) (value count)

unfoldable pub record_of : List ℕ → Record
record_of text = elim (begins (bytes "DA:") text) [ true ↦ values (split 44 (drop 3 text)) | false ↦ passed_over ]
