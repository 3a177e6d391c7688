-- How long the lines of parts are: the line of a part is at most four times as long as its field (a hit's at most 36 bytes for 15, a gap's at most 47 for
-- 19), so for b bytes they have at most 4 × b. Assumes nothing.
use Prim.Native.Nat.{ℕ, zero, suc, ◌*◌, ◌^◌, ◌≤◌, ◌<◌}
use lib.ListN.{length, take, drop, length-append}
use mathlib.Core.List.Memᴰ
use mathlib.Core.List.{List, [], ◌∷◌}
use mathlib.Core.Logic.{⊎_elim}
use mathlib.Core.Path.{◌≡◌, refl, ap}
use native.Mathlib.Omega.{arith}
use Rattle.field_read.proofs.Held.{Shape, field_shape, read_size, reads, held_none, held_stop, held_read}
use Rattle.field_read.specs.Held.{parts_held}
use Rattle.model.proofs.Encoding.{size_pos, drop_fits, read_field_law}
use Rattle.model.specs.Certificate.{Part, answer, gap, number_of, size_of, read, read_field}
use Rattle.model.specs.Demands.{Fits}
use Rattle.text_write.proofs.Decimals.{decimal_few}
use Rattle.text_lines.proofs.Lines.{line_length}
use Rattle.hits_parts.specs.Parts.{part_line, part_lines}

-- ---- a part

hit_room : (value named : ℕ) → value < 256 ^ 4 → named < 256 ^ 8 → length (part_line (answer value named)) ≤ 36
unfolding part_line
hit_room value named h k =
    let e = line_length (104 ∷ 105 ∷ 116 ∷ []) (value ∷ named ∷ []) in
    let v = decimal_few 9 value (omega arith) in
    let m = decimal_few 19 named (omega arith) in
    omega arith

gap_room : (first last named : ℕ) → first < 256 ^ 4 → last < 256 ^ 4 → named < 256 ^ 8 → length (part_line (gap first last named)) ≤ 47
unfolding part_line
gap_room first last named h i k =
    let e = line_length (103 ∷ 97 ∷ 112 ∷ []) (first ∷ last ∷ named ∷ []) in
    let v = decimal_few 9 first (omega arith) in
    let w = decimal_few 9 last (omega arith) in
    let m = decimal_few 19 named (omega arith) in
    omega arith

-- ---- the numbers of a field

pow_pos : (n : ℕ) → 0 < 256 ^ n
pow_pos zero = omega arith
pow_pos (suc n) = let i = pow_pos n in omega arith

number_below : (n : ℕ) (s : List ℕ) → Fits 256 s → number_of (take n s) < 256 ^ n
unfolding number_of
number_below zero s h = omega arith
number_below (suc n) [] h = pow_pos (suc n)
number_below (suc n) (b ∷ s) h =
    let i = number_below n s (record { each = λ x m. h.each x (Memᴰ.tail m) }) in
    let k = h.each b (Memᴰ.head refl) in
    omega arith

part_room : (bytes rest : List ℕ) (p : Part) → Fits 256 bytes → read_field bytes ≡ read p rest → length (part_line p) ≤ 4 * size_of p
unfolding Shape size_of
part_room bytes rest p h e =
    let f = drop_fits 3 bytes h in
    let body = drop 3 bytes in
    ⊎_elim
    (λ s.
    let i : 15 ≡ size_of p = ap size_of s.1 in
    let k = hit_room _ _ (number_below 4 body f) (number_below 8 (drop 4 body) (drop_fits 4 body f)) in
    let l = ap (λ q. length (part_line q)) s.1 in
    omega arith)
    (λ s.
    let i : 19 ≡ size_of p = ap size_of s.1 in
    let k = gap_room _ _ _ (number_below 4 body f) (number_below 4 (drop 4 body) (drop_fits 4 body f)) (number_below 8 (drop 8 body) (drop_fits 8 body f)) in
    let l = ap (λ q. length (part_line q)) s.1 in
    omega arith)
    (field_shape bytes rest p e).1

-- ---- the parts

pub parts_room : (n : ℕ) (bytes : List ℕ) → length bytes ≤ n → Fits 256 bytes → length (part_lines (parts_held bytes)) ≤ 4 * length bytes
unfolding part_lines
parts_room zero [] h f = rw held_none (omega arith)
parts_room zero (x ∷ bytes) h f = absurd (omega arith)
parts_room (suc n) bytes h f =
    reads bytes
    (λ k e. rw (held_stop bytes k e) (omega arith))
    (λ p rest e.
    let s = read_size bytes rest p e in
    let z = size_pos p in
    let k = parts_room n rest (omega arith) (read_field_law bytes rest p f e).tail in
    let l = part_room bytes rest p f e in
    let a = length-append (part_line p) (part_lines (parts_held rest)) in
    rw (held_read bytes rest p e) (omega arith))
