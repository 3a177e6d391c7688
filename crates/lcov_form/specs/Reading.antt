-- docs/SPECIFICATION.md, 'LCOV tracefiles': the run of a section, for any bytes. Definitions only.
use Rattle.std.specs.Prelude.{ℕ, suc, true, false, List, [], ◌∷◌, leb, length, get_or}
use Rattle.model.specs.Refusals.{Check, passed, refusal, over}
use Rattle.row_fill.specs.Filling.{Filling}
use Rattle.lcov_form.specs.Form.{lines, Section, closed, unclosed, ◌and_then◌, sections, covered, malformed, passed_over, record_of}

-- One section becomes one run: the line number of each `DA:` record whose count is above 0, in the order met.
unfoldable pub covered_in : Section → List ℕ
covered_in closed = []
covered_in unclosed = []
covered_in (line and_then rest) =
    elim (record_of line.text) [ covered x ↦ x ∷ covered_in rest | malformed ↦ covered_in rest | passed_over ↦ covered_in rest ]

-- What is read: the numbers written, and whether a refusal ended it.
pub record Reading : Type 0 where
  pub run : List ℕ
  pub check : Check

unfoldable pub stop : Check → Reading
stop check = record { run = []; check = check }

unfoldable pub write : ℕ → Reading → Reading
write x rest = record { run = x ∷ rest.run; check = rest.check }

-- Line by line. 15: a `DA:` line is not of the form, place its offset. 4: the run does not rise, records of count 0 left out, place the index in the run. 5: the
-- row is too short, checked after 4, place the count written. 16: the section's end is missing, met at the end of the file, place the file's length.
-- (Here: `size` is the file's length, `room` the row's; n numbers are written, the last of them `last`, or 0 before the first, which every line number is above.)
unfoldable pub read_from : (size room n last : ℕ) → Section → Reading
read_from size room n last closed = stop passed
read_from size room n last unclosed = stop (refusal 16 size)
read_from size room n last (line and_then rest) =
    elim (record_of line.text) [
      | malformed ↦ stop (refusal 15 line.offset)
      | passed_over ↦ read_from size room n last rest
      | covered x ↦
          elim (leb x last) [
            | true ↦ stop (refusal 4 n)
            | false ↦ elim (leb room n) [ true ↦ stop (refusal 5 n) | false ↦ write x (read_from size room (suc n) x rest) ]
          ]
    ]

-- The section with an index from 0. A file that has no such section is refused as one in which its end is missing is: 16 at the file's length.
unfoldable pub section_of : List ℕ → ℕ → Section
section_of file index = get_or (sections false (lines file)) index unclosed

-- The outcome, the count written, and what then stands in the row.
unfoldable pub result_of : Reading → List ℕ → Filling
result_of r row = record { check = r.check; count = length r.run; row = over r.run row }

unfoldable pub lcov_run : (file : List ℕ) (index : ℕ) (row : List ℕ) → Filling
lcov_run file index row = result_of (read_from (length file) (length row) 0 0 (section_of file index)) row
