-- The whole text laid from the front on, and when it is shown whole. Assumes nothing.
use Rattle.std.proofs.Common.{◌≡◌, ℕ, ◌+◌, ◌*◌, ◌≤◌, List, length, take, min, arith}
use Rattle.std.proofs.lemmas.List.{take_min}
use Rattle.std.specs.Prelude.{Option, Some}
use Rattle.model.specs.Demands.{Fits}
use Rattle.query.specs.Outcomes.{accepted_is}
use Rattle.query.specs.declared.Accepted.{Accepted}
use Rattle.text_write.specs.Laying.{Lays}
use Rattle.hits_limits.specs.Limits.{line_room}
use Rattle.field_read.specs.Held.{parts_held}
use Rattle.hits_parts.specs.Parts.{part_lines}
use Rattle.hits_render.specs.Text.{done_line, rendered, Shows}
use Rattle.text_write.proofs.Laid.{lays_then}
use Rattle.hits_render.proofs.Fitting.{shown_whole}
use Rattle.hits_render.proofs.Room.{text_room}

pub accept_laid : (a : Accepted) (certificate : List ℕ) {bytes : ℕ} {l l₁ l₂ : List ℕ} {p₁ p₂ : ℕ} → bytes ≡ min a.bytes (length certificate)
    → Lays (part_lines (parts_held (take bytes certificate))) l 0 l₁ p₁ → Lays (done_line a.answers a.parts a.doublings a.halvings) l₁ p₁ l₂ p₂
    → Lays (rendered (accepted_is a) certificate) l 0 l₂ p₂
unfolding rendered
accept_laid a certificate e g h = lays_then (rw (e, take_min) at g) h

pub accept_whole : (a : Accepted) (certificate : List ℕ) {before after : List ℕ} {r : Option ℕ} → Fits 256 certificate
    → length (done_line a.answers a.parts a.doublings a.halvings) ≤ line_room → Shows (rendered (accepted_is a) certificate) before after r
    → 4 * length certificate + line_room ≤ length before → r ≡ Some (length (rendered (accepted_is a) certificate))
accept_whole a certificate f d s e =
    let z = text_room a.answers a.parts a.bytes a.doublings a.halvings certificate f d in
    shown_whole s (omega arith)
