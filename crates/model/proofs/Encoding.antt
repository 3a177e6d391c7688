-- The encoding reads back: bytes give back the number that they were made of, a number the bytes; a field that is written reads as its part, and
-- bytes that read as a part are that part's field. Assumes nothing.
use Prim.Native.Nat.{ℕ, zero, suc, ◌+◌, ◌-◌, ◌*◌, ◌/◌, ◌%◌, ◌^◌, ◌≤◌, ◌<◌}
use borrow.Author.Tests.{le-ltb, lt-ltb, le-leb, leb-true, ltb-false, eqb-true}
use lib.Dec.{ltb, leb, eqb}
use lib.ListN.{length, get_or, take, drop, length-append, length-take, take-append-drop}
use lib.Seq.{take-add, length-take-le, drop-drop}
use mathlib.Core.Bool.{Bool, true, false, ◌&&◌}
use mathlib.Core.List.{List, [], ◌∷◌, ◌++◌, append_assoc, Memᴰ}
use mathlib.Core.Logic.{⊎_elim}
use mathlib.Core.Path.{◌≡◌, refl, sym, ap, ap₂, ◌∙◌, subst}
use native.Mathlib.Nat.{mod-lt}
use native.Mathlib.Omega.{arith}
use Rattle.model.specs.Certificate.{Part, answer, gap, first_of, last_of, mask_of, bytes_of, number_of, field, encode_part, size_of, unreadable, read, read_body, read_field}
use Rattle.model.specs.Demands.{Fits}
use Rattle.model.proofs.Tests.{both, and_true}

-- ---- numbers and bytes

pub bytes_length : (w x : ℕ) → length (bytes_of w x) ≡ w
unfolding bytes_of
bytes_length zero x = refl
bytes_length (suc w) x = ap suc (bytes_length w (x / 256))

pub number_bytes : (w x : ℕ) → x < 256 ^ w → number_of (bytes_of w x) ≡ x
unfolding bytes_of number_of
number_bytes zero x h = omega arith
number_bytes (suc w) x h = let i = number_bytes w (x / 256) (omega arith) in omega arith

fits_tail : {w x : ℕ} {s : List ℕ} → Fits w (x ∷ s) → Fits w s
fits_tail h = record { each = λ y m. h.each y (Memᴰ.tail m) }

fits_head : {w x : ℕ} {s : List ℕ} → Fits w (x ∷ s) → x < w
fits_head {x = x} h = h.each x (Memᴰ.head refl)

pub bytes_number : (n : ℕ) (s : List ℕ) → n ≤ length s → Fits 256 s → bytes_of n (number_of (take n s)) ≡ take n s
unfolding bytes_of number_of
bytes_number zero s l h = refl
bytes_number (suc n) [] l h = absurd (omega arith)
bytes_number (suc n) (b ∷ s) l h =
    let k = fits_head h in
    let i = bytes_number n s (omega arith) (fits_tail h) in
    let r : (b + 256 * number_of (take n s)) % 256 ≡ b = omega arith in
    let q : (b + 256 * number_of (take n s)) / 256 ≡ number_of (take n s) = omega arith in
    rw (r, q, i)

pub drop_fits : {w : ℕ} (n : ℕ) (s : List ℕ) → Fits w s → Fits w (drop n s)
drop_fits zero s h = h
drop_fits (suc n) [] h = h
drop_fits (suc n) (x ∷ s) h = drop_fits n s (fits_tail h)

-- ---- fields

pub part_size : (p : Part) → length (encode_part p) ≡ size_of p
unfolding encode_part field size_of bytes_of
part_size (answer v m) = refl
part_size (gap f l m) = refl

-- a field has at least one byte
pub size_pos : (p : Part) → 0 < size_of p
unfolding size_of
size_pos (answer v m) = omega arith
size_pos (gap f l m) = omega arith

-- the numbers of a part fit their fields
pub record InRange (p : Part) : Type 0 where
  pub first : first_of p < 256 ^ 4
  pub last : last_of p < 256 ^ 4
  pub named : mask_of p < 256 ^ 8

read_answer : (body : List ℕ) → 12 ≤ length body
    → read_body 1 12 body ≡ read (answer (number_of (take 4 body)) (number_of (take 8 (drop 4 body)))) (drop 12 body)
unfolding read_body
read_answer body h = rw (le-leb 12 (length body) h, read_body)

read_gap : (body : List ℕ) → 16 ≤ length body
    → read_body 2 16 body ≡ read (gap (number_of (take 4 body)) (number_of (take 4 (drop 4 body))) (number_of (take 8 (drop 8 body)))) (drop 16 body)
unfolding read_body
read_gap body h = rw (le-leb 16 (length body) h, read_body)

read_long : (bytes : List ℕ) → 3 ≤ length bytes → read_field bytes ≡ read_body (get_or bytes 0 0) (number_of (take 2 (drop 1 bytes))) (drop 3 bytes)
unfolding read_field
read_long bytes h = rw (le-ltb (length bytes) 3 h, read_field)

pub read_back : (p : Part) (rest : List ℕ) → InRange p → read_field (encode_part p ++ rest) ≡ read p rest
unfolding encode_part field bytes_of number_of first_of last_of mask_of
read_back (answer v m) rest h =
    read_long (encode_part (answer v m) ++ rest) (omega arith)
    ∙ (read_answer (drop 3 (encode_part (answer v m) ++ rest)) (omega arith)
    ∙ ap₂ (λ x y. read (answer x y) rest) (number_bytes 4 v h.first) (number_bytes 8 m h.named))
read_back (gap f l m) rest h =
    read_long (encode_part (gap f l m) ++ rest) (omega arith)
    ∙ (read_gap (drop 3 (encode_part (gap f l m) ++ rest)) (omega arith)
    ∙ (ap₂ (λ x y. read (gap x y (number_of (bytes_of 8 m))) rest) (number_bytes 4 f h.first) (number_bytes 4 l h.last)
    ∙ ap (λ x. read (gap f l x) rest) (number_bytes 8 m h.named)))

-- ---- bytes that read as a part

-- What a reading says of the bytes.
pub record FieldOf (p : Part) (rest bytes : List ℕ) : Type 0 where
  pub whole : bytes ≡ encode_part p ++ rest
  pub tail : Fits 256 rest

split_three : (n k j : ℕ) (s : List ℕ) → take n s ++ (take k (drop n s) ++ (take j (drop (n + k) s) ++ drop (n + k + j) s)) ≡ s
split_three n k j s =
    rw (← (drop-drop j (n + k) s), take-append-drop j (drop (n + k) s), ← (drop-drop k n s), take-append-drop k (drop n s)) (take-append-drop n s)

split_two : (n k : ℕ) (s : List ℕ) → take n s ++ (take k (drop n s) ++ drop (n + k) s) ≡ s
split_two n k s = rw (← (drop-drop k n s), take-append-drop k (drop n s)) (take-append-drop n s)

encode_answer : (v m : ℕ) → encode_part (answer v m) ≡ 1 ∷ (12 ∷ (0 ∷ (bytes_of 4 v ++ bytes_of 8 m)))
unfolding encode_part field bytes_of
encode_answer v m = refl

encode_gap : (f l m : ℕ) → encode_part (gap f l m) ≡ 2 ∷ (16 ∷ (0 ∷ (bytes_of 4 f ++ (bytes_of 4 l ++ bytes_of 8 m))))
unfolding encode_part field bytes_of
encode_gap f l m = refl

answer_field : (body : List ℕ) → 12 ≤ length body → Fits 256 body
    → FieldOf (answer (number_of (take 4 body)) (number_of (take 8 (drop 4 body)))) (drop 12 body) (1 ∷ (12 ∷ (0 ∷ body)))
answer_field body l h =
    let d = lib.ListN.length-drop 4 body in
    let e₁ = bytes_number 4 body (omega arith) h in
    let e₂ = bytes_number 8 (drop 4 body) (omega arith) (drop_fits 4 body h) in
    record {
      whole =
          rw (encode_answer (number_of (take 4 body)) (number_of (take 8 (drop 4 body))), e₁, e₂, append_assoc (take 4 body) (take 8 (drop 4 body)) (drop 12 body))
          (ap (λ s. 1 ∷ (12 ∷ (0 ∷ s))) (sym (split_two 4 8 body)));
      tail = drop_fits 12 body h;
    }

gap_field : (body : List ℕ) → 16 ≤ length body → Fits 256 body
    → FieldOf (gap (number_of (take 4 body)) (number_of (take 4 (drop 4 body))) (number_of (take 8 (drop 8 body)))) (drop 16 body) (2 ∷ (16 ∷ (0 ∷ body)))
gap_field body l h =
    let d₄ = lib.ListN.length-drop 4 body in
    let d₈ = lib.ListN.length-drop 8 body in
    let e₁ = bytes_number 4 body (omega arith) h in
    let e₂ = bytes_number 4 (drop 4 body) (omega arith) (drop_fits 4 body h) in
    let e₃ = bytes_number 8 (drop 8 body) (omega arith) (drop_fits 8 body h) in
    record {
      whole =
          rw (
            encode_gap (number_of (take 4 body)) (number_of (take 4 (drop 4 body))) (number_of (take 8 (drop 8 body))),
            e₁,
            e₂,
            e₃,
            append_assoc (take 4 body) (take 4 (drop 4 body) ++ take 8 (drop 8 body)) (drop 16 body),
            append_assoc (take 4 (drop 4 body)) (take 8 (drop 8 body)) (drop 16 body),
          )
          (ap (λ s. 2 ∷ (16 ∷ (0 ∷ s))) (sym (split_three 4 4 8 body)));
      tail = drop_fits 16 body h;
    }

-- two bytes that give a small number
two_bytes : (x y n : ℕ) → number_of (x ∷ (y ∷ [])) ≡ n → n < 256 → x < 256 → (x ≡ n) × (y ≡ 0)
unfolding number_of
two_bytes x y n e l h = (omega arith, omega arith)

-- what a body that reads is
body_read : (tag x y size : ℕ) (body rest : List ℕ) (p : Part) → read_body tag size body ≡ read p rest → Fits 256 body → number_of (x ∷ (y ∷ [])) ≡ size → x < 256
    → FieldOf p rest (tag ∷ (x ∷ (y ∷ body)))
unfolding read_body
body_read tag x y size body rest p e h i u =
    ⊎_elim
    (λ (q : (eqb tag 1 && (eqb size 12 && leb 12 (length body))) ≡ true).
    let a = and_true (eqb tag 1) (eqb size 12 && leb 12 (length body)) q in
    let b = and_true (eqb size 12) (leb 12 (length body)) a.1 in
    let t : tag ≡ 1 = eqb-true tag 1 a.0 in
    let n = two_bytes x y 12 (i ∙ eqb-true size 12 b.0) (omega arith) u in
    let r : read (answer (number_of (take 4 body)) (number_of (take 8 (drop 4 body)))) (drop 12 body) ≡ read p rest = rw (q, read_body) at e in
    let f = answer_field body (leb-true 12 (length body) b.1) h in
    moved t n.0 n.1 r f)
    (λ (q : (eqb tag 1 && (eqb size 12 && leb 12 (length body))) ≡ false).
    ⊎_elim
    (λ (o : (eqb tag 2 && (eqb size 16 && leb 16 (length body))) ≡ true).
    let a = and_true (eqb tag 2) (eqb size 16 && leb 16 (length body)) o in
    let b = and_true (eqb size 16) (leb 16 (length body)) a.1 in
    let t : tag ≡ 2 = eqb-true tag 2 a.0 in
    let n = two_bytes x y 16 (i ∙ eqb-true size 16 b.0) (omega arith) u in
    let r : read (gap (number_of (take 4 body)) (number_of (take 4 (drop 4 body))) (number_of (take 8 (drop 8 body)))) (drop 16 body) ≡ read p rest = rw (q, read_body, o) at e in
    let f = gap_field body (leb-true 16 (length body) b.1) h in
    moved t n.0 n.1 r f)
    (λ (o : (eqb tag 2 && (eqb size 16 && leb 16 (length body))) ≡ false).
    let r : unreadable 8 ≡ read p rest = rw (q, read_body, o) at e in
    absurd (let w : ◌≡◌ {A = ℕ} 0 1 = cc in omega arith))
    (both (eqb tag 2 && (eqb size 16 && leb 16 (length body)))))
    (both (eqb tag 1 && (eqb size 12 && leb 12 (length body))))
  where
    moved : {a b : ℕ} {q : Part} {s : List ℕ} → tag ≡ a → x ≡ b → y ≡ 0 → read q s ≡ read p rest → FieldOf q s (a ∷ (b ∷ (0 ∷ body)))
        → FieldOf p rest (tag ∷ (x ∷ (y ∷ body)))
    moved {a} {b} {q} {s} α β γ ρ f =
        let π : q ≡ p = cc in
        let ω : s ≡ rest = cc in
        record {
          whole = (λ j. α j ∷ (β j ∷ (γ j ∷ body))) ∙ (f.whole ∙ ap₂ (λ k l. encode_part k ++ l) π ω);
          tail = subst (λ k. Fits 256 k) ω f.tail;
        }

pub read_field_law : (bytes rest : List ℕ) (p : Part) → Fits 256 bytes → read_field bytes ≡ read p rest → FieldOf p rest bytes
unfolding read_field
read_field_law [] rest p h e = absurd (let w : ◌≡◌ {A = ℕ} 0 1 = cc in omega arith)
read_field_law (a ∷ []) rest p h e = absurd (let w : ◌≡◌ {A = ℕ} 0 1 = cc in omega arith)
read_field_law (a ∷ (b ∷ [])) rest p h e = absurd (let w : ◌≡◌ {A = ℕ} 0 1 = cc in omega arith)
read_field_law (tag ∷ (x ∷ (y ∷ body))) rest p h e =
    body_read tag x y (number_of (x ∷ (y ∷ []))) body rest p
    (sym (read_long (tag ∷ (x ∷ (y ∷ body))) (omega arith)) ∙ e)
    (fits_tail (fits_tail (fits_tail h))) refl (fits_head (fits_tail h))
