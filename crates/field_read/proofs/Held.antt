-- The parts that some bytes hold: a field that reads and how many bytes it takes, the first part and the rest, and the bytes of a true certificate.
-- Assumes nothing.
use Prim.Native.Nat.{ℕ, zero, suc, ◌+◌, ◌≤◌, ◌<◌}
use borrow.Author.Tests.{leb-true, lt-ltb, le-ltb}
use lib.Dec.{leb, eqb}
use lib.ListN.{length, take, drop, length-drop, drop_of_length-le}
use mathlib.Core.Bool.{true, false, ◌&&◌}
use mathlib.Core.List.{List, [], ◌∷◌, Memᴰ}
use mathlib.Core.Logic.{◌⊎◌, inl, inr, ⊎_elim}
use mathlib.Core.Path.{◌≡◌, refl, sym, ap, ◌∙◌}
use native.Mathlib.Omega.{arith}
use Rattle.model.proofs.Checking.{Narrow, in_range}
use Rattle.model.proofs.Encoding.{size_pos, read_back}
use Rattle.model.proofs.Fewest.{covers_rest}
use Rattle.model.proofs.Tests.{both, and_true, lt_or_le}
use Rattle.model.specs.Certificate.{last_of, Part, answer, gap, number_of, encode, size_of, Reading, unreadable, read, read_body, read_field, Covers, TruePart}
use Rattle.model.specs.Runs.{Run}
use Rattle.field_read.specs.Held.{parts_from, parts_held}
use Rattle.field_read.specs.Reading.{part_of, reading_of, EndsFrom}
use Rattle.field_read.specs.declared.Field.{Field}
use Rattle.std.specs.Prelude.{Result, Ok, Err}
use Rattle.refusal.specs.Number as refused
use Rattle.refusal.specs.declared.Reason.{Reason}

-- ---- what a field that reads is

-- a body that reads is an answer's or a gap's
unfoldable pub Shape : List ℕ → Part → List ℕ → Type 0
Shape body p rest =
    ((12 ≤ length body) × (answer (number_of (take 4 body)) (number_of (take 8 (drop 4 body))) ≡ p) × (drop 12 body ≡ rest)) ⊎
    ((16 ≤ length body) × (gap (number_of (take 4 body)) (number_of (take 4 (drop 4 body))) (number_of (take 8 (drop 8 body))) ≡ p) × (drop 16 body ≡ rest))

body_shape : (tag size : ℕ) (body rest : List ℕ) (p : Part) → read_body tag size body ≡ read p rest → Shape body p rest
unfolding read_body Shape
body_shape tag size body rest p e =
    ⊎_elim
    (λ (q : (eqb tag 1 && (eqb size 12 && leb 12 (length body))) ≡ true).
    let r : read (answer (number_of (take 4 body)) (number_of (take 8 (drop 4 body)))) (drop 12 body) ≡ read p rest = rw (q, read_body) at e in
    let h = and_true (eqb size 12) (leb 12 (length body)) (and_true (eqb tag 1) (eqb size 12 && leb 12 (length body)) q).1 in
    inl (leb-true 12 (length body) h.1, (cc), (cc)))
    (λ (q : (eqb tag 1 && (eqb size 12 && leb 12 (length body))) ≡ false).
    ⊎_elim
    (λ (o : (eqb tag 2 && (eqb size 16 && leb 16 (length body))) ≡ true).
    let r : read (gap (number_of (take 4 body)) (number_of (take 4 (drop 4 body))) (number_of (take 8 (drop 8 body)))) (drop 16 body) ≡ read p rest =
    rw (q, read_body, o) at e in
    let h = and_true (eqb size 16) (leb 16 (length body)) (and_true (eqb tag 2) (eqb size 16 && leb 16 (length body)) o).1 in
    inr (leb-true 16 (length body) h.1, (cc), (cc)))
    (λ (o : (eqb tag 2 && (eqb size 16 && leb 16 (length body))) ≡ false).
    let r : unreadable 8 ≡ read p rest = rw (q, read_body, o) at e in
    absurd (let z : ◌≡◌ {A = ℕ} 0 1 = cc in omega arith))
    (both (eqb tag 2 && (eqb size 16 && leb 16 (length body)))))
    (both (eqb tag 1 && (eqb size 12 && leb 12 (length body))))

pub field_shape : (bytes rest : List ℕ) (p : Part) → read_field bytes ≡ read p rest → (3 ≤ length bytes) × Shape (drop 3 bytes) p rest
unfolding read_field
field_shape bytes rest p e =
    ⊎_elim
    (λ (h : length bytes < 3).
    let r : unreadable 8 ≡ read p rest = rw (lt-ltb (length bytes) 3 h, read_field) at e in
    absurd (let z : ◌≡◌ {A = ℕ} 0 1 = cc in omega arith))
    (λ (h : 3 ≤ length bytes). (h, body_shape _ _ (drop 3 bytes) rest p (rw (le-ltb (length bytes) 3 h, read_field) at e)))
    (lt_or_le (length bytes) 3)

pub read_size : (bytes rest : List ℕ) (p : Part) → read_field bytes ≡ read p rest → length rest + size_of p ≡ length bytes
unfolding Shape size_of
read_size bytes rest p e =
    let f = field_shape bytes rest p e in
    let d = length-drop 3 bytes in
    ⊎_elim
    (λ s.
    let i : 15 ≡ size_of p = ap size_of s.1 in
    let k = ap length s.2 in
    omega (arith, f.0, s.0, length-drop 12 (drop 3 bytes)))
    (λ s.
    let i : 19 ≡ size_of p = ap size_of s.1 in
    let k = ap length s.2 in
    omega (arith, f.0, s.0, length-drop 16 (drop 3 bytes)))
    f.1

-- ---- the parts that bytes hold

pub reads : (bytes : List ℕ) {A : Type 0} → ((k : ℕ) → read_field bytes ≡ unreadable k → A) → ((p : Part) (rest : List ℕ) → read_field bytes ≡ read p rest → A) → A
reads bytes {A} f g = go (read_field bytes) refl
  where
    go : (r : Reading) → read_field bytes ≡ r → A
    go (unreadable k) e = f k e
    go (read p rest) e = g p rest e

from_stop : (n : ℕ) (bytes : List ℕ) (k : ℕ) → read_field bytes ≡ unreadable k → parts_from (suc n) bytes ≡ []
unfolding parts_from
from_stop n bytes k e = rw (e, parts_from)

from_read : (n : ℕ) (bytes rest : List ℕ) (p : Part) → read_field bytes ≡ read p rest → parts_from (suc n) bytes ≡ p ∷ parts_from n rest
unfolding parts_from
from_read n bytes rest p e = rw (e, parts_from)

from_none : (n : ℕ) → parts_from n [] ≡ []
unfolding parts_from read_field
from_none zero = refl
from_none (suc n) = refl

-- more fuel than bytes changes nothing
from_same : (m n : ℕ) (bytes : List ℕ) → length bytes ≤ m → length bytes ≤ n → parts_from m bytes ≡ parts_from n bytes
from_same zero n [] h k = from_none zero ∙ sym (from_none n)
from_same zero n (x ∷ bytes) h k = absurd (omega arith)
from_same (suc m) zero [] h k = from_none (suc m) ∙ sym (from_none zero)
from_same (suc m) zero (x ∷ bytes) h k = absurd (omega arith)
from_same (suc m) (suc n) bytes h k =
    reads bytes
    (λ k e. from_stop m bytes k e ∙ sym (from_stop n bytes k e))
    (λ p rest e.
    let s = read_size bytes rest p e in
    let z = size_pos p in
    from_read m bytes rest p e ∙ (ap (λ ps. p ∷ ps) (from_same m n rest (omega arith) (omega arith)) ∙ sym (from_read n bytes rest p e)))

pub held_none : parts_held [] ≡ []
unfolding parts_held
held_none = from_none 0

pub held_stop : (bytes : List ℕ) (k : ℕ) → read_field bytes ≡ unreadable k → parts_held bytes ≡ []
unfolding parts_held
held_stop bytes k e = from_same (length bytes) (suc (length bytes)) bytes (omega arith) (omega arith) ∙ from_stop (length bytes) bytes k e

pub held_read : (bytes rest : List ℕ) (p : Part) → read_field bytes ≡ read p rest → parts_held bytes ≡ p ∷ parts_held rest
unfolding parts_held
held_read bytes rest p e =
    let s = read_size bytes rest p e in
    from_same (length bytes) (suc (length bytes)) bytes (omega arith) (omega arith)
    ∙ (from_read (length bytes) bytes rest p e ∙ ap (λ ps. p ∷ ps) (from_same (length bytes) (length rest) rest (omega arith) (omega arith)))

-- ---- the parts from an offset on, by what is read there

module _ (bytes : List ℕ) (at : ℕ) where
  pub held_end : length bytes ≤ at → parts_held (drop at bytes) ≡ []
  held_end h = rw (drop_of_length-le bytes h) held_none

  module _ {f : Result Field Reason} (r : reading_of bytes f ≡ read_field (drop at bytes)) where
    pub held_unreadable : {reason : Reason} → f ≡ Err reason → parts_held (drop at bytes) ≡ []
    unfolding reading_of
    held_unreadable {reason} e = held_stop (drop at bytes) (refused.number_of reason) (sym r ∙ ap (reading_of bytes) e)

    pub held_part : {field : Field} → f ≡ Ok field → parts_held (drop at bytes) ≡ part_of field.part ∷ parts_held (drop field.next bytes)
    unfolding reading_of
    held_part {field} e = held_read (drop at bytes) (drop field.next bytes) (part_of field.part) (sym r ∙ ap (reading_of bytes) e)

    -- a field that is read begins in the bytes
    pub part_inside : {field : Field} → f ≡ Ok field → at < length bytes
    unfolding reading_of
    part_inside {field} e =
        let s = read_size (drop at bytes) (drop field.next bytes) (part_of field.part) (sym r ∙ ap (reading_of bytes) e) in
        let n = length-drop at bytes in
        let z = size_pos (part_of field.part) in
        omega arith

-- the next offset is after the field
pub next_part : (f : Result Field Reason) (field : Field) (at : ℕ) → f ≡ Ok field → EndsFrom at f → field.next ≡ at + size_of (part_of field.part)
unfolding EndsFrom
next_part f field at e h = rw e at h

-- ---- the bytes of a certificate

-- the bytes of parts that cover the bins and are true hold those parts
pub held_encode : {rs : List Run} {t b : ℕ} (ps : List Part) → Narrow rs → Covers b ps → ((p : Part) → Memᴰ p ps → TruePart rs t p)
    → parts_held (encode ps) ≡ ps
unfolding encode
held_encode [] k c h = held_none
held_encode {b = b} (p ∷ ps) k c h =
    held_read _ (encode ps) p (read_back p (encode ps) (in_range c (h p (Memᴰ.head refl)) k))
    ∙ ap (λ l. p ∷ l) (held_encode {b = suc (last_of p)} ps k (covers_rest c) (λ q m. h q (Memᴰ.tail m)))
