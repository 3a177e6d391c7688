-- A number laid digit by digit, and a word byte by byte. Assumes nothing.
use Prim.Native.Nat.{ℕ, ◌+◌, ◌/◌, ◌%◌, ◌≤◌, ◌<◌}
use lib.ListN.{length, get_or, take}
use lib.Seq.{take-suc, take_all}
use mathlib.Core.List.{List, [], ◌∷◌}
use native.Mathlib.Numerals.{add-one}
use Rattle.text_write.specs.Laying.{Lays}
use Rattle.text_write.specs.Decimal.{decimal}
use Rattle.text_write.proofs.Decimals.{decimal_digit, decimal_more}
use Rattle.text_write.proofs.Laid.{lays_then}

module _ {l l₁ : List ℕ} {x at p₁ : ℕ} where
  pub digit_laid : x < 10 → Lays ((48 + x) ∷ []) l at l₁ p₁ → Lays (decimal x) l at l₁ p₁
  digit_laid h g = rw (decimal_digit x h) g

  pub more_laid : {l₂ : List ℕ} {p₂ : ℕ} → 10 ≤ x → Lays (decimal (x / 10)) l at l₁ p₁ → Lays ((48 + x % 10) ∷ []) l₁ p₁ l₂ p₂
      → Lays (decimal x) l at l₂ p₂
  more_laid h g k = rw (decimal_more x h) (lays_then g k)

-- ---- a word, byte by byte

module _ (word : List ℕ) (i : ℕ) {l l₁ : List ℕ} {at p₁ : ℕ} where
  pub word_on : {l₂ : List ℕ} {p₂ : ℕ} → i < length word → Lays (take i word) l at l₁ p₁ → Lays (get_or word i 0 ∷ []) l₁ p₁ l₂ p₂
      → Lays (take (i + 1) word) l at l₂ p₂
  word_on h g k = rw (add-one i, take-suc word i 0 h) (lays_then g k)

  pub word_end : length word ≤ i → Lays (take i word) l at l₁ p₁ → Lays word l at l₁ p₁
  word_end h g = rw (take_all i word h) at g
