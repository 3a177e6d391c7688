-- docs/SPECIFICATION.md, 'The certificate': parts, their bytes, the reading of a field, and when a certificate is true. Definitions only.
use Rattle.std.specs.Prelude.{ℕ, zero, suc, ◌+◌, ◌-◌, ◌*◌, ◌/◌, ◌%◌, ◌≤◌, ◌<◌, Bool, true, false, ◌&&◌, not, ◌≡◌, ltb, leb, eqb, length, get_or, take, drop}
use mathlib.Core.List.{List, [], ◌∷◌, ◌++◌, Memᴰ}
use Rattle.model.specs.Runs.{Run, first_bin, past_bin, weight_of, bit, names}

-- A part: an answer with its value and mask, a gap with its first and last bin and its mask.
pub data Part : Type 0 where
  answer : (value named : ℕ) → Part
  gap : (first last named : ℕ) → Part

unfoldable pub first_of : Part → ℕ
first_of (answer v m) = v
first_of (gap f l m) = f

unfoldable pub last_of : Part → ℕ
last_of (answer v m) = v
last_of (gap f l m) = l

unfoldable pub mask_of : Part → ℕ
mask_of (answer v m) = m
mask_of (gap f l m) = m

unfoldable pub answers_of : List Part → List ℕ
answers_of [] = []
answers_of (answer v m ∷ ps) = v ∷ answers_of ps
answers_of (gap f l m ∷ ps) = answers_of ps

-- Multi-byte numbers have their lowest byte first: a number in w bytes, and the number that some bytes give.
unfoldable pub bytes_of : ℕ → ℕ → List ℕ
bytes_of zero x = []
bytes_of (suc w) x = x % 256 ∷ bytes_of w (x / 256)

unfoldable pub number_of : List ℕ → ℕ
number_of [] = 0
number_of (b ∷ bs) = b + 256 * number_of bs

-- Fields stand one after another: a one-byte tag, a two-byte length, the body.
unfoldable pub field : ℕ → List ℕ → List ℕ
field tag body = tag ∷ (bytes_of 2 (length body) ++ body)

unfoldable pub encode_part : Part → List ℕ
encode_part (answer v m) = field 1 (bytes_of 4 v ++ bytes_of 8 m)
encode_part (gap f l m) = field 2 (bytes_of 4 f ++ (bytes_of 4 l ++ bytes_of 8 m))

unfoldable pub encode : List Part → List ℕ
encode [] = []
encode (p ∷ ps) = encode_part p ++ encode ps

-- A certificate takes 15 bytes for each answer and 19 for each gap.
unfoldable pub size_of : Part → ℕ
size_of (answer v m) = 15
size_of (gap f l m) = 19

-- What stands at the front of some bytes: a part and the bytes after its field; or a refusal's number. Refusal 8: the field is cut short, its tag is
-- unknown, or its length is not the tag's.
pub data Reading : Type 0 where
  unreadable : (number : ℕ) → Reading
  read : Part → List ℕ → Reading

unfoldable pub read_body : ℕ → ℕ → List ℕ → Reading
read_body tag size body =
    elim (eqb tag 1 && (eqb size 12 && leb 12 (length body))) [
      | true ↦ read (answer (number_of (take 4 body)) (number_of (take 8 (drop 4 body)))) (drop 12 body)
      | false ↦
          elim (eqb tag 2 && (eqb size 16 && leb 16 (length body))) [
            | true ↦ read (gap (number_of (take 4 body)) (number_of (take 4 (drop 4 body))) (number_of (take 8 (drop 8 body)))) (drop 16 body)
            | false ↦ unreadable 8
          ]
    ]

unfoldable pub read_field : List ℕ → Reading
read_field bytes =
    elim (ltb (length bytes) 3) [
      | true ↦ unreadable 8
      | false ↦ read_body (get_or bytes 0 0) (number_of (take 2 (drop 1 bytes))) (drop 3 bytes)
    ]

-- Parts cover the bins from b to 4294967295 in rising order with no hole and no overlap, and each gap's first is not above its last.
pub data Covers : ℕ → List Part → Type 0 where
  covered : {b : ℕ} → b ≡ past_bin → Covers b []
  covers : {b : ℕ} {p : Part} {ps : List Part} → first_of p ≡ b → first_of p ≤ last_of p → Covers (suc (last_of p)) ps → Covers b (p ∷ ps)

-- a mask names only runs of these
abbrev pub NamesOnly : ℕ → List Run → Type 0
NamesOnly m rs = (i : ℕ) → bit m i ≡ 1 → (r : Run) × Memᴰ r rs × (r.label ≡ i)

-- Every mask names only runs of these. Of a gap, the runs that it does not name weigh less than t, and none that it names has a number in it. (Of k runs that
-- weigh 1 each, it names at least k − t + 1: specs/Plain.)
pub record TrueGap (rs : List Run) (t first last m : ℕ) : Type 0 where
  pub only : NamesOnly m rs
  pub unnamed : weight_of (λ r. not (names m r)) rs < t
  pub misses : (r : Run) → Memᴰ r rs → names m r ≡ true → (x : ℕ) → Memᴰ x r.bins → first ≤ x → x ≤ last → ⊥

-- The runs that an answer names weigh at least t, and each of these has it.
pub record TrueAnswer (rs : List Run) (t value m : ℕ) : Type 0 where
  pub only : NamesOnly m rs
  pub enough : t ≤ weight_of (names m) rs
  pub has : (r : Run) → Memᴰ r rs → names m r ≡ true → Memᴰ value r.bins

pub data TruePart (rs : List Run) (t : ℕ) : Part → Type 0 where
  gap_true : {f l m : ℕ} → TrueGap rs t f l m → TruePart rs t (gap f l m)
  answer_true : {v m : ℕ} → TrueAnswer rs t v m → TruePart rs t (answer v m)

-- When a certificate is true.
pub record TrueCertificate (rs : List Run) (t : ℕ) (ps : List Part) : Type 0 where
  pub covering : Covers first_bin ps
  pub each : (p : Part) → Memᴰ p ps → TruePart rs t p
