-- A piece of a text as a decimal number, and the digits that a text begins with. Definitions only.
use Rattle.std.specs.Prelude.{ℕ, suc, ◌+◌, ◌-◌, ◌*◌, min, true, false, Bool, ◌&&◌, List, [], ◌∷◌, ◌≡◌, leb, take}
use Rattle.std.specs.Prelude.{Option as Found, Some, None}
use Rattle.std.proofs.Math.Option.{Option, none, some}
use Rattle.text_read.specs.declared.Digits.{Digits}
use Rattle.model.specs.Runs.{last_bin, past_bin}

abbrev pub word_is : Found ℕ → Option ℕ
word_is (Some x) = some x
word_is None = none

-- Digits are bytes 48 to 57.
unfoldable pub is_digit : ℕ → Bool
is_digit b = leb 48 b && leb b 57

unfoldable pub all_digits : List ℕ → Bool
all_digits [] = true
all_digits (b ∷ word) = is_digit b && all_digits word

-- (n is the value of the digits before)
unfoldable pub decimal_value : ℕ → List ℕ → ℕ
decimal_value n [] = n
decimal_value n (b ∷ word) = decimal_value (n * 10 + (b - 48)) word

-- The value of a word of digits, at least one; leading zeros are allowed.
unfoldable pub value : List ℕ → Option ℕ
value [] = none
value (b ∷ word) = elim (all_digits (b ∷ word)) [ true ↦ some (decimal_value 0 (b ∷ word)) | false ↦ none ]

-- A number is at most 4294967295.
unfoldable pub number : List ℕ → Option ℕ
number word = elim (value word) [ none ↦ none | some n ↦ elim (leb n last_bin) [ true ↦ some n | false ↦ none ] ]

-- The digits that a text begins with: how many; and their value or, if it is above 4294967295, the next number.
unfoldable pub digit_count : List ℕ → ℕ
digit_count [] = 0
digit_count (b ∷ text) = elim (is_digit b) [ true ↦ suc (digit_count text) | false ↦ 0 ]

pub record Leads (text : List ℕ) (digits : Digits) : Type 0 where
  pub counts : digits.count ≡ digit_count text
  pub values : digits.value ≡ min (decimal_value 0 (take (digit_count text) text)) past_bin
