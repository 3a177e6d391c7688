-- A certificate's field read at an offset of lent bytes. Definitions only.
use Rattle.std.specs.Prelude.{ℕ, ◌+◌, List, ◌≡◌, drop, Result, Ok, Err}
use Rattle.refusal.specs.Number.{number_of}
use Rattle.refusal.specs.declared.Reason.{Reason}
use Rattle.refusal.specs.declared.Reason.TheVariants as refused
use Rattle.model.specs.Certificate as model
use Rattle.field_read.specs.declared.Part.{Part}
use Rattle.field_read.specs.declared.Part.TheVariants.{Answer, Gap}
use Rattle.field_read.specs.declared.Field.{Field}

-- the part that a value of the code's enum stands for
unfoldable pub part_of : Part → model.Part
part_of (Answer value mask) = model.answer value mask
part_of (Gap first last mask) = model.gap first last mask

-- the reading that what the code found stands for: the bytes after the field are those from the next offset on
unfoldable pub reading_of : List ℕ → Result Field Reason → model.Reading
reading_of bytes (Ok f) = model.read (part_of f.part) (drop f.next bytes)
reading_of bytes (Err reason) = model.unreadable (number_of reason)

-- the next offset is where the field from an offset on ends; what is no field is refused as such
unfoldable pub EndsFrom : ℕ → Result Field Reason → Type 0
EndsFrom at (Ok f) = f.next ≡ at + model.size_of (part_of f.part)
EndsFrom at (Err reason) = reason ≡ refused.Field
