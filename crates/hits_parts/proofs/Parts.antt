-- The parts' lines laid one after another. Assumes nothing.
use Prim.Native.Nat.{ℕ, ◌+◌, ◌≤◌}
use lib.ListN.{length, drop}
use mathlib.Core.List.{List}
use mathlib.Core.Path.{◌≡◌, refl, ◌∙◌}
use native.Mathlib.Omega.{arith}
use Rattle.field_read.proofs.Held.{held_unreadable, held_part}
use Rattle.field_read.specs.Held.{parts_held}
use Rattle.field_read.specs.Reading.{part_of, reading_of}
use Rattle.field_read.specs.declared.Field.{Field}
use Rattle.model.specs.Certificate.{read_field}
use Rattle.std.specs.Prelude.{Result, Ok, Err}
use Rattle.refusal.specs.declared.Reason.{Reason}
use Rattle.text_write.specs.Laying.{Lays}
use Rattle.hits_parts.specs.Parts.{part_line, part_lines}
use Rattle.text_write.proofs.Laid.{lays_none, lays_then, lays_length, lays_bound}

-- Up to an offset of the certificate the lines are laid: once the lines from there on are laid too, all are.
pub record Along (before certificate now : List ℕ) (place at : ℕ) : Type 0 where
  pub on : (l : List ℕ) (p : ℕ) → Lays (part_lines (parts_held (drop at certificate))) now place l p → Lays (part_lines (parts_held certificate)) before 0 l p
  pub same : length now ≡ length before
  pub within : place ≤ length now + 1

pub along_start : (l certificate : List ℕ) → Along l certificate l 0 0
along_start l certificate = record { on = λ m p g. g; same = refl; within = omega arith }

module _ {before certificate now : List ℕ} {place at : ℕ} (g : Along before certificate now place at) where
  pub along_end : {f : Result Field Reason} {reason : Reason} → reading_of certificate f ≡ read_field (drop at certificate) → f ≡ Err reason
      → Lays (part_lines (parts_held certificate)) before 0 now place
  unfolding part_lines
  along_end r e = g.on now place (rw (held_unreadable certificate at r e) (lays_none now place g.within))

  pub along_on : (field : Field) → reading_of certificate (Ok field) ≡ read_field (drop at certificate)
      → {l : List ℕ} {p : ℕ} → Lays (part_line (part_of field.part)) now place l p → Along before certificate l p field.next
  unfolding part_lines
  along_on field r {l} {p} k =
      let h = held_part certificate at r refl in
      let n = lays_length k in
      let b = lays_bound k in
      record {
        on = λ l₂ p₂ m. g.on l₂ p₂ (rw h (lays_then k m));
        same = n ∙ g.same;
        within = omega arith;
      }
