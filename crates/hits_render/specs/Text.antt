-- docs/SPECIFICATION.md, 'The program hits': the text that it prints for the outcome of a question and its certificate. Definitions only.
use Rattle.std.specs.Prelude.{ℕ, true, false, List, [], ◌∷◌, ◌++◌, ◌≡◌, leb, length, take, Option, Some, None}
use Rattle.model.specs.Refusals.{Outcome, accepted, refused, over}
use Rattle.text_lines.specs.Lines.{line}
use Rattle.field_read.specs.Held.{parts_held}
use Rattle.hits_parts.specs.Parts.{part_lines}

-- `done` answers parts doublings halvings
unfoldable pub done_line : ℕ → ℕ → ℕ → ℕ → List ℕ
done_line answers parts doublings halvings = line (100 ∷ 111 ∷ 110 ∷ 101 ∷ []) (answers ∷ parts ∷ doublings ∷ halvings ∷ [])

-- `refuse` number place
unfoldable pub refuse_line : ℕ → ℕ → List ℕ
refuse_line number place = line (114 ∷ 101 ∷ 102 ∷ 117 ∷ 115 ∷ 101 ∷ []) (number ∷ place ∷ [])

-- An accepted question prints a line for each part of its certificate, which is the first bytes of the buffer, and the line `done`. A refused one
-- prints only the line `refuse`.
unfoldable pub rendered : Outcome → List ℕ → List ℕ
rendered (accepted answers parts bytes doublings halvings) certificate =
    part_lines (parts_held (take bytes certificate)) ++ done_line answers parts doublings halvings
rendered (refused number place answers bytes doublings halvings) certificate = refuse_line number place

-- A text in a buffer: what fits is written from the front, and the rest of the buffer is unchanged. The result is the text's length, if it fits.
unfoldable pub fitting : ℕ → ℕ → Option ℕ
fitting size room = elim (leb size room) [ true ↦ Some size | false ↦ None ]

pub record Shows (text before after : List ℕ) (r : Option ℕ) : Type 0 where
  pub written : after ≡ over (take (length before) text) before
  pub result : r ≡ fitting (length text) (length before)
