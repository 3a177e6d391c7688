-- How much room is enough. The lines of the parts have at most 4 bytes for each byte of the certificate, the line `done` at most 69 and the line `refuse`
-- at most 49. So a text has at most 4 bytes for each byte of the certificate, and one line. Assumes nothing.
use Prim.Native.Nat.{ℕ, zero, suc, ◌+◌, ◌*◌, ◌^◌, ◌≤◌, ◌<◌, min}
use lib.ListN.{length, take, length-append, length-take}
use mathlib.Core.List.Memᴰ
use mathlib.Core.List.{List, [], ◌∷◌}
use mathlib.Core.Logic.{⊎_elim}
use mathlib.Core.Path.{◌≡◌}
use native.Mathlib.Omega.{arith}
use Rattle.model.specs.Demands.{Fits}
use Rattle.model.specs.Refusals.{accepted}
use Rattle.text_write.proofs.Decimals.{decimal_few}
use Rattle.text_lines.proofs.Lines.{line_length}
use Rattle.hits_limits.specs.Limits.{line_room}
use Rattle.field_read.specs.Held.{parts_held}
use Rattle.hits_parts.specs.Parts.{part_lines}
use Rattle.hits_parts.proofs.Room.{parts_room}
use Rattle.hits_render.specs.Text.{done_line, refuse_line, rendered}

pub done_room : (answers parts doublings halvings : ℕ) → answers < 2 ^ 64 → parts < 2 ^ 64 → doublings < 2 ^ 32 → halvings < 2 ^ 32
    → length (done_line answers parts doublings halvings) ≤ line_room
unfolding done_line line_room
done_room answers parts doublings halvings h i j k =
    let e = line_length (100 ∷ 111 ∷ 110 ∷ 101 ∷ []) (answers ∷ parts ∷ doublings ∷ halvings ∷ []) in
    let a = decimal_few 19 answers (omega arith) in
    let b = decimal_few 19 parts (omega arith) in
    let c = decimal_few 9 doublings (omega arith) in
    let d = decimal_few 9 halvings (omega arith) in
    omega arith

pub refuse_room : (number place : ℕ) → number < 2 ^ 64 → place < 2 ^ 64 → length (refuse_line number place) ≤ line_room
unfolding refuse_line line_room
refuse_room number place h k =
    let e = line_length (114 ∷ 101 ∷ 102 ∷ 117 ∷ 115 ∷ 101 ∷ []) (number ∷ place ∷ []) in
    let a = decimal_few 19 number (omega arith) in
    let b = decimal_few 19 place (omega arith) in
    omega arith

take_fits : {w : ℕ} (n : ℕ) (s : List ℕ) → Fits w s → Fits w (take n s)
take_fits zero s h = record { each = λ x m. absurd (Memᴰ.not-nil m) }
take_fits (suc n) [] h = h
take_fits (suc n) (y ∷ s) h =
    record {
      each = λ x m.
          ⊎_elim
          (λ (e : x ≡ y). h.each x (Memᴰ.head e))
          (λ k. (take_fits n s (record { each = λ z i. h.each z (Memᴰ.tail i) })).each x k)
          (Memᴰ.cases_cons m);
    }

pub text_room : (answers parts bytes doublings halvings : ℕ) (certificate : List ℕ) → Fits 256 certificate
    → length (done_line answers parts doublings halvings) ≤ line_room
    → length (rendered (accepted answers parts bytes doublings halvings) certificate) ≤ 4 * min bytes (length certificate) + line_room
unfolding rendered
text_room answers parts bytes doublings halvings certificate f d =
    let a = length-append (part_lines (parts_held (take bytes certificate))) (done_line answers parts doublings halvings) in
    let p = parts_room (length (take bytes certificate)) (take bytes certificate) (omega arith) (take_fits bytes certificate f) in
    omega (arith, length-take bytes certificate)
