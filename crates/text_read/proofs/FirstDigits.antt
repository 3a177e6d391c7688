-- The digits that a text begins with, and the first piece of it between separators that are no digits. Assumes nothing.
use Prim.Native.Nat.{ℕ, suc, ◌<◌}
use borrow.Author.Tests.{eq-eqb, ne_eqb}
use lib.ListN.{length, get_or, take}
use mathlib.Core.Bool.{true, false}
use mathlib.Core.List.{List, [], ◌∷◌}
use mathlib.Core.Logic.{⊎_elim, ◌≢◌}
use mathlib.Core.Path.{◌≡◌, refl, sym, ap, ◌∙◌}
use native.Mathlib.Omega.{arith}
use Rattle.model.proofs.Tests.{both, true_false}
use Rattle.text_read.specs.Numbers.{is_digit, all_digits, digit_count}
use Rattle.text_read.specs.Pieces.{until}

module _ (s : ℕ) (no_digit : is_digit s ≡ false) where
  other : (b : ℕ) → is_digit b ≡ true → b ≢ s
  other b t e = true_false (ap is_digit (sym e) ∙ t) no_digit

  -- the text is all digits
  pub piece_all : (text : List ℕ) → digit_count text ≡ length text → until s text ≡ length text
  unfolding digit_count until
  piece_all [] h = refl
  piece_all (b ∷ text) h =
      ⊎_elim
      (λ (t : is_digit b ≡ true). let k = rw (t, digit_count) at h in rw (ne_eqb b s (other b t), until) (ap suc (piece_all text (omega (arith, k)))))
      (λ (t : is_digit b ≡ false). let k = rw (t, digit_count) at h in absurd (omega (arith, k)))
      (both (is_digit b))

  -- a separator follows the digits
  pub piece_digits : (text : List ℕ) → digit_count text < length text → get_or text (digit_count text) 0 ≡ s → until s text ≡ digit_count text
  unfolding digit_count until
  piece_digits [] h e = absurd (omega (arith, h))
  piece_digits (b ∷ text) h e =
      ⊎_elim
      (λ (t : is_digit b ≡ true).
      let k = rw (t, digit_count) at h in
      let f = rw (t, digit_count) at e in
      rw (t, digit_count) (rw (ne_eqb b s (other b t), until) (ap suc (piece_digits text (omega (arith, k)) f))))
      (λ (t : is_digit b ≡ false). let f = rw (t, digit_count) at e in rw (t, digit_count) (rw (eq-eqb b s f, until)))
      (both (is_digit b))

  -- another byte follows them
  pub piece_other : (text : List ℕ) → digit_count text < length text → get_or text (digit_count text) 0 ≢ s → all_digits (take (until s text) text) ≡ false
  unfolding digit_count until all_digits
  piece_other [] h e = absurd (omega (arith, h))
  piece_other (b ∷ text) h e =
      ⊎_elim
      (λ (t : is_digit b ≡ true).
      let k = rw (t, digit_count) at h in
      let f = rw (t, digit_count) at e in
      rw (ne_eqb b s (other b t), until) (rw (t, all_digits) (piece_other text (omega (arith, k)) f)))
      (λ (t : is_digit b ≡ false). let f = rw (t, digit_count) at e in rw (ne_eqb b s f, until) (rw (t, all_digits)))
      (both (is_digit b))
