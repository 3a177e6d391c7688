-- The decimal value of a word, digit by digit. Assumes nothing.
use Prim.Native.Nat.{ℕ, suc, ◌+◌, ◌-◌, ◌*◌, ◌≤◌, ◌<◌, min}
use borrow.Author.Tests.{le-leb, lt-leb, leb-true}
use lib.Dec.{leb}
use lib.ListN.{length, get_or, take, drop, length-take, drop_of_length-le}
use lib.Seq.{drop-cons, take_all}
use mathlib.Core.Bool.{true, false}
use mathlib.Core.List.{List, [], ◌∷◌}
use mathlib.Core.Logic.{⊎_elim, ◌≢◌}
use mathlib.Core.Option.{none, some}
use mathlib.Core.Path.{◌≡◌, refl, sym, ap, ◌∙◌}
use native.Mathlib.Numerals.{add-one}
use native.Mathlib.Omega.{arith}
use Rattle.std.specs.Char.{is_ascii_digit}
use Rattle.model.proofs.Tests.{and_true, both, lt_or_le}
use Rattle.model.specs.Runs.{last_bin, past_bin}
use Rattle.text_read.specs.declared.Digits.{Digits}
use Rattle.text_read.specs.Numbers.{is_digit, all_digits, decimal_value, value, number, digit_count, Leads}

-- ---- a byte

-- the library's test
pub digit_is : (b : ℕ) → is_digit b ≡ is_ascii_digit b
unfolding is_digit
digit_is b = refl

pub digit_within : (b : ℕ) → is_digit b ≡ true → (48 ≤ b) × (b ≤ 57)
unfolding is_digit
digit_within b e = let w = and_true (leb 48 b) (leb b 57) e in (leb-true 48 b w.0, leb-true b 57 w.1)

-- ---- the digits that a text begins with, from a place on

-- their value, after digits of the value n
unfoldable pub leading_value : ℕ → List ℕ → ℕ
leading_value n [] = n
leading_value n (b ∷ text) = elim (is_digit b) [ true ↦ leading_value (n * 10 + (b - 48)) text | false ↦ n ]

module _ (n : ℕ) (text : List ℕ) (i : ℕ) where
  pub digits_stop : i < length text → is_digit (get_or text i 0) ≡ false → (digit_count (drop i text) ≡ 0) × (leading_value n (drop i text) ≡ n)
  unfolding digit_count leading_value
  digits_stop h e = (rw (drop-cons text i 0 h) (rw (e, digit_count)), rw (drop-cons text i 0 h) (rw (e, leading_value)))

  pub digits_on : i < length text → is_digit (get_or text i 0) ≡ true
      → (digit_count (drop i text) ≡ suc (digit_count (drop (i + 1) text))) × (leading_value n (drop i text) ≡ leading_value (n * 10 + (get_or text i 0 - 48)) (drop (i + 1) text))
  unfolding digit_count leading_value
  digits_on h e =
      (rw (drop-cons text i 0 h, add-one i) (rw (e, digit_count)), rw (drop-cons text i 0 h, add-one i) (rw (e, leading_value)))

  pub digits_end : length text ≤ i → (digit_count (drop i text) ≡ 0) × (leading_value n (drop i text) ≡ n)
  unfolding digit_count leading_value
  digits_end h = (rw (drop_of_length-le text h), rw (drop_of_length-le text h))

pub value_grows : (n : ℕ) (text : List ℕ) → n ≤ leading_value n text
unfolding leading_value
value_grows n [] = omega arith
value_grows n (b ∷ text) =
    ⊎_elim
    (λ (t : is_digit b ≡ true). rw (t, leading_value) (let h = value_grows (n * 10 + (b - 48)) text in omega arith))
    (λ (t : is_digit b ≡ false). rw (t, leading_value) (omega arith))
    (both (is_digit b))

-- ---- a word

pub count_le : (text : List ℕ) → digit_count text ≤ length text
unfolding digit_count
count_le [] = omega arith
count_le (b ∷ text) =
    ⊎_elim
    (λ (t : is_digit b ≡ true). rw (t, digit_count) (let h = count_le text in omega arith))
    (λ (t : is_digit b ≡ false). rw (t, digit_count) (omega arith))
    (both (is_digit b))

-- what the leading digits are
pub leading_digits : (text : List ℕ) → all_digits (take (digit_count text) text) ≡ true
unfolding digit_count all_digits
leading_digits [] = refl
leading_digits (b ∷ text) =
    ⊎_elim
    (λ (t : is_digit b ≡ true). rw (t, digit_count) (rw (t, all_digits) (leading_digits text)))
    (λ (t : is_digit b ≡ false). rw (t, digit_count))
    (both (is_digit b))

pub leading_value_law : (n : ℕ) (text : List ℕ) → leading_value n text ≡ decimal_value n (take (digit_count text) text)
unfolding digit_count leading_value decimal_value
leading_value_law n [] = refl
leading_value_law n (b ∷ text) =
    ⊎_elim
    (λ (t : is_digit b ≡ true). rw (t, digit_count, leading_value) (leading_value_law (n * 10 + (b - 48)) text))
    (λ (t : is_digit b ≡ false). rw (t, digit_count, leading_value))
    (both (is_digit b))

value_of : (word : List ℕ) → 1 ≤ length word → all_digits word ≡ true → value word ≡ some (decimal_value 0 word)
unfolding value
value_of [] h e = absurd (omega (arith, h))
value_of (b ∷ word) h e = rw (e, value)

pub value_not : (word : List ℕ) → all_digits word ≡ false → value word ≡ none
unfolding value
value_not [] e = refl
value_not (b ∷ word) e = rw (e, value)

-- a piece that is the digits that a text begins with
pub value_leading : (text : List ℕ) → 1 ≤ digit_count text → value (take (digit_count text) text) ≡ some (leading_value 0 text)
value_leading text h =
    let t = length-take (digit_count text) text in
    let k = count_le text in
    value_of (take (digit_count text) text) (omega arith) (leading_digits text) ∙ ap some (sym (leading_value_law 0 text))

pub value_empty : (word : List ℕ) → length word ≡ 0 → value word ≡ none
unfolding value
value_empty [] e = refl
value_empty (b ∷ word) e = let z : ◌≡◌ {A = ℕ} 0 1 = omega arith in absurd (omega arith)

-- a word that begins with fewer digits than it has bytes is none
not_all : (word : List ℕ) → digit_count word < length word → all_digits word ≡ false
unfolding digit_count all_digits
not_all [] h = absurd (omega (arith, h))
not_all (b ∷ word) h =
    ⊎_elim
    (λ (t : is_digit b ≡ true). rw (t, all_digits) (not_all word (let k = rw (t, digit_count) at h in omega (arith, k))))
    (λ (t : is_digit b ≡ false). rw (t, all_digits))
    (both (is_digit b))

-- The piece of the digits that a text begins with, by what was read of them.
module _ (text : List ℕ) (digits : Digits) (d : Leads text digits) where
  told : digits.value ≡ min (leading_value 0 text) past_bin
  told = d.values ∙ ap (λ x. min x past_bin) (sym (leading_value_law 0 text))

  -- a value above 0 is of some digits
  pub some_digits : digits.value ≢ 0 → digits.count ≢ 0
  unfolding decimal_value
  some_digits h e =
      let t : leading_value 0 text ≡ 0 = leading_value_law 0 text ∙ ap (λ n. decimal_value 0 (take n text)) (sym d.counts ∙ e) in
      let v = told in
      h (omega (arith, v, t))

  leading_piece : digits.count ≢ 0 → value (take digits.count text) ≡ some (leading_value 0 text)
  leading_piece h =
      let c = d.counts in
      ap (λ n. value (take n text)) c ∙ value_leading text (omega (arith, c, h))

  -- whether a count is above 0
  pub leading_zero : digits.count ≢ 0 → digits.value ≡ 0 → value (take digits.count text) ≡ some 0
  unfolding past_bin
  leading_zero h e = let v = told in let z : leading_value 0 text ≡ 0 = omega (arith, v, e) in leading_piece h ∙ ap some z

  pub leading_above : digits.value ≢ 0 → (n : ℕ) × ((value (take digits.count text) ≡ some n) × (n ≢ 0))
  leading_above h = let v = told in (leading_value 0 text, (leading_piece (some_digits h), λ e. h (omega (arith, v, e))))

  -- its number
  pub leading_large : past_bin ≤ digits.value → number (take digits.count text) ≡ none
  unfolding number last_bin past_bin
  leading_large l =
      let v = told in
      rw (leading_piece (some_digits (λ e. omega (arith, e, l))), number) (rw (lt-leb (leading_value 0 text) last_bin (omega (arith, v, l)), number))

  pub leading_small : digits.count ≢ 0 → digits.value < past_bin → number (take digits.count text) ≡ some digits.value
  unfolding number last_bin past_bin
  leading_small h l =
      let v = told in
      let z : leading_value 0 text ≡ digits.value = omega (arith, v, l) in
      rw (leading_piece h, number) (rw (le-leb (leading_value 0 text) last_bin (omega (arith, z, l)), number) (ap some z))

-- A word, which is that piece if it has no other byte.
module _ (word : List ℕ) (digits : Digits) (d : Leads word digits) where
  pub number_empty : digits.count ≡ 0 → number word ≡ none
  unfolding number
  number_empty e =
      let c = d.counts in
      ⊎_elim
      (λ (h : digit_count word < length word). rw (value_not word (not_all word h), number))
      (λ (h : length word ≤ digit_count word). rw (value_empty word (omega (arith, e, c)), number))
      (lt_or_le (digit_count word) (length word))

  pub number_not : digits.count < length word → number word ≡ none
  unfolding number
  number_not h = let c = d.counts in rw (value_not word (not_all word (omega (arith, c, h))), number)

  module _ (k : length word ≤ digits.count) where
    pub number_large : past_bin ≤ digits.value → number word ≡ none
    number_large l = ap number (sym (take_all digits.count word k)) ∙ leading_large word digits d l

    pub number_small : digits.count ≢ 0 → digits.value < past_bin → number word ≡ some digits.value
    number_small h l = ap number (sym (take_all digits.count word k)) ∙ leading_small word digits d h l
