-- What a field at an offset reads as: its numbers in halves, and the cases of `read_body` and `read_field`. Assumes nothing.
use Prim.Native.Nat.{ℕ, suc, ◌+◌, ◌*◌, ◌^◌, ◌≤◌, ◌<◌}
use borrow.Author.Tests.{lt-ltb, le-ltb, le-leb, lt-leb, eq-eqb, ne_eqb}
use lib.ListN.{length, get_or, take, drop, length-drop}
use lib.Seq.{drop-cons, drop-drop, take-add, length-take-le, get_or-drop}
use mathlib.Core.List.{List}
use mathlib.Core.Logic.{⊎_elim, ◌≢◌}
use mathlib.Core.Path.{◌≡◌, refl, sym}
use native.Mathlib.Nat.{add-zero}
use native.Mathlib.Numerals.{add-one}
use native.Mathlib.Omega.{arith}
use Rattle.model.proofs.Tests.{eq_or_ne}
use Rattle.model.specs.Certificate.{answer, gap, number_of, unreadable, read, read_body, read_field}
use Rattle.field_write.proofs.Bytes.{number_append}

-- ---- numbers

module _ (l : List ℕ) (at : ℕ) where
  pub number_two : at + 2 ≤ length l → number_of (take 2 (drop at l)) ≡ get_or l at 0 + 256 * get_or l (at + 1) 0
  unfolding number_of
  number_two h =
      let i : at < length l = omega arith in
      let j : suc at < length l = omega arith in
      rw (drop-cons l at 0 i, drop-cons l (suc at) 0 j, add-one at) (omega arith)

  -- the low m bytes and the high n bytes
  number_halves : (m n : ℕ) → at + m ≤ length l
      → number_of (take (m + n) (drop at l)) ≡ number_of (take m (drop at l)) + 256 ^ m * number_of (take n (drop (at + m) l))
  number_halves m n h =
      let d = length-drop at l in
      let e = length-take-le m (drop at l) (omega arith) in
      rw (take-add m n (drop at l), number_append (take m (drop at l)) (take n (drop m (drop at l))), e, drop-drop m at l)

module _ (l : List ℕ) (at : ℕ) where
  pub number_four : at + 4 ≤ length l
      → number_of (take 4 (drop at l)) ≡ get_or l at 0 + 256 * get_or l (at + 1) 0 + 65536 * (get_or l (at + 2) 0 + 256 * get_or l (at + 3) 0)
  number_four h =
      let e : at + 2 + 1 ≡ at + 3 = omega arith in
      rw (number_halves l at 2 2 (omega arith), number_two l at (omega arith), number_two l (at + 2) (omega arith), e) refl

module _ (l : List ℕ) (at : ℕ) where
  pub number_eight : at + 8 ≤ length l
      → number_of (take 8 (drop at l))
      ≡ get_or l at 0 + 256 * get_or l (at + 1) 0 + 65536 * (get_or l (at + 2) 0 + 256 * get_or l (at + 3) 0)
      + 4294967296 * (get_or l (at + 4) 0 + 256 * get_or l (at + 5) 0 + 65536 * (get_or l (at + 6) 0 + 256 * get_or l (at + 7) 0))
  number_eight h =
      let e : at + 4 + 1 ≡ at + 5 = omega arith in
      let f : at + 4 + 2 ≡ at + 6 = omega arith in
      let g : at + 4 + 3 ≡ at + 7 = omega arith in
      rw (number_halves l at 4 4 (omega arith), number_four l at (omega arith), number_four l (at + 4) (omega arith), e, f, g) refl

-- ---- the cases of a body and of a field

answer_refused : (size : ℕ) (body : List ℕ) → (size ≡ 12 → length body < 12) → read_body 1 size body ≡ unreadable 8
unfolding read_body
answer_refused size body h =
    ⊎_elim
    (λ (e : size ≡ 12). rw (eq-eqb size 12 e, lt-leb 12 (length body) (h e), read_body))
    (λ (e : size ≢ 12). rw (ne_eqb size 12 e, read_body))
    (eq_or_ne size 12)

gap_refused : (size : ℕ) (body : List ℕ) → (size ≡ 16 → length body < 16) → read_body 2 size body ≡ unreadable 8
unfolding read_body
gap_refused size body h =
    ⊎_elim
    (λ (e : size ≡ 16). rw (eq-eqb size 16 e, lt-leb 16 (length body) (h e), read_body))
    (λ (e : size ≢ 16). rw (ne_eqb size 16 e, read_body))
    (eq_or_ne size 16)

unknown_tag : (tag size : ℕ) (body : List ℕ) → tag ≢ 1 → tag ≢ 2 → read_body tag size body ≡ unreadable 8
unfolding read_body
unknown_tag tag size body e f = rw (ne_eqb tag 1 e, ne_eqb tag 2 f, read_body)

pub field_short : (bytes : List ℕ) → length bytes < 3 → read_field bytes ≡ unreadable 8
unfolding read_field
field_short bytes h = rw (lt-ltb (length bytes) 3 h, read_field)

module _ (l : List ℕ) (at : ℕ) where
  pub answer_whole : at + 15 ≤ length l
      → read_body 1 12 (drop (at + 3) l)
      ≡ read (answer (number_of (take 4 (drop (at + 3) l))) (number_of (take 8 (drop (at + 7) l)))) (drop (at + 15) l)
  unfolding read_body
  answer_whole h =
      let d = length-drop (at + 3) l in
      let e : at + 3 + 4 ≡ at + 7 = omega arith in
      let f : at + 3 + 12 ≡ at + 15 = omega arith in
      rw (le-leb 12 (length (drop (at + 3) l)) (omega arith), read_body)
      (simp (drop-drop, e, f))

  pub gap_whole : at + 19 ≤ length l
      → read_body 2 16 (drop (at + 3) l)
      ≡ read (gap (number_of (take 4 (drop (at + 3) l))) (number_of (take 4 (drop (at + 7) l))) (number_of (take 8 (drop (at + 11) l)))) (drop (at + 19) l)
  unfolding read_body
  gap_whole h =
      let d = length-drop (at + 3) l in
      let e : at + 3 + 4 ≡ at + 7 = omega arith in
      let f : at + 3 + 8 ≡ at + 11 = omega arith in
      let g : at + 3 + 16 ≡ at + 19 = omega arith in
      rw (le-leb 16 (length (drop (at + 3) l)) (omega arith), read_body)
      (simp (drop-drop, e, f, g))

  pub field_body : at + 3 ≤ length l
      → read_field (drop at l) ≡ read_body (get_or l at 0) (number_of (take 2 (drop (at + 1) l))) (drop (at + 3) l)
  unfolding read_field
  field_body h =
      let d = length-drop at l in
      rw (le-ltb (length (drop at l)) 3 (omega arith), read_field)
      (simp (drop-drop, get_or-drop, add-zero))

  -- the tag and the length are of no field that stands whole in the bytes
  pub nothing_read : (size : ℕ) → at + 3 ≤ length l → size ≡ number_of (take 2 (drop (at + 1) l)) → (get_or l at 0 ≡ 1 → size ≡ 12 → length l < at + 15)
      → (get_or l at 0 ≡ 2 → size ≡ 16 → length l < at + 19) → unreadable 8 ≡ read_field (drop at l)
  nothing_read size h e f g =
      let tag = get_or l at 0 in
      let body = drop (at + 3) l in
      let d = length-drop (at + 3) l in
      let none : read_body tag size body ≡ unreadable 8 =
      ⊎_elim
      (λ (p : tag ≡ 1). rw p (answer_refused size body (λ q. let i = f p q in omega arith)))
      (λ (p : tag ≢ 1).
      ⊎_elim
      (λ (q : tag ≡ 2). rw q (gap_refused size body (λ r. let i = g q r in omega arith)))
      (λ (q : tag ≢ 2). unknown_tag tag size body p q)
      (eq_or_ne tag 2))
      (eq_or_ne tag 1) in
      sym (rw (field_body h, ← e) none)
