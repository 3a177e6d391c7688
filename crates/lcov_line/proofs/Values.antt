-- The values of a `DA:` line by the digits before its first two commas. Assumes nothing.
use Prim.Native.Nat.{ℕ, suc, ◌+◌, ◌-◌, ◌≤◌, ◌<◌}
use borrow.Author.Tests.{eq-eqb, ne_eqb, eqb-true}
use lib.Dec.{eqb}
use lib.ListN.{length, get_or, take, drop, length-drop}
use lib.Seq.{drop-drop}
use mathlib.Core.Bool.{true, false, not}
use mathlib.Core.List.{List, [], ◌∷◌}
use mathlib.Core.Logic.{◌⊎◌, inl, inr, ⊎_elim, ◌≢◌}
use mathlib.Core.Option.{Option, none, some}
use mathlib.Core.Path.{◌≡◌, refl, sym, ap, ◌∙◌}
use native.Mathlib.Omega.{arith}
use Rattle.model.proofs.Tests.{and_true, eq_or_ne, lt_or_le, true_false}
use Rattle.std.specs.Prelude.{Ok}
use Rattle.std.proofs.lemmas.List.{get_or-drop}
use Rattle.std.specs.Bool.{then_some}
use Rattle.std.specs.Cmp.Lexicographic.{pointwise}
use Rattle.model.specs.Runs.{past_bin}
use Rattle.lcov_form.specs.Form.{covered, malformed, passed_over, counted, values}
use Rattle.lcov_form.proofs.Records.{piece, one_value, two_values}
use Rattle.text_read.specs.declared.Digits.{Digits}
use Rattle.text_read.specs.Numbers.{is_digit, value, number, digit_count, Leads}
use Rattle.text_read.specs.Pieces.{split, until}
use Rattle.text_read.proofs.FirstDigits.{piece_all, piece_digits, piece_other}
use Rattle.text_read.proofs.Pieces.{until_le, rest_is}
use Rattle.lcov_line.specs.Records.{record_is}
use Rattle.text_read.proofs.Values.{count_le, value_empty, value_not, some_digits, leading_large, leading_small}

comma : is_digit 44 ≡ false
unfolding is_digit
comma = refl

-- ---- a line number and a count

pub passes_over : (number count : ℕ) → count ≡ 0 → record_is (Ok (then_some (not (eqb count 0)) number)) ≡ passed_over
passes_over number count e = rw (eq-eqb count 0 e)

pub covers : (number count : ℕ) → count ≢ 0 → record_is (Ok (then_some (not (eqb count 0)) number)) ≡ covered number
covers number count e = rw (ne_eqb count 0 e)

pub no_count : (number : ℕ) → counted (some number) none ≡ malformed
unfolding counted
no_count number = refl

pub count_zero : (number : ℕ) → 0 < number → counted (some number) (some 0) ≡ passed_over
unfolding counted
count_zero number h = rw (ne_eqb number 0 (λ e. omega (arith, e, h)), counted)

pub count_above : (number n : ℕ) → 0 < number → n ≢ 0 → counted (some number) (some n) ≡ covered number
unfolding counted
count_above number n h k = rw (ne_eqb number 0 (λ e. omega (arith, e, h)), ne_eqb n 0 k, counted)

line_zero : (o : Option ℕ) → counted (some 0) o ≡ malformed
unfolding counted
line_zero none = refl
line_zero (some n) = refl

no_line : (o : Option ℕ) → counted none o ≡ malformed
unfolding counted
no_line o = refl

-- ---- the piece up to the first comma

module _ (text : List ℕ) (digits : Digits) (d : Leads text digits) where
  at_count : (n : ℕ) → get_or text digits.count 0 ≡ n → get_or text (digit_count text) 0 ≡ n
  at_count n e = ap (λ i. get_or text i 0) (sym d.counts) ∙ e

  nothing : until 44 text ≡ 0 → value (piece text) ≡ none
  nothing e = ap (λ n. value (take n text)) e ∙ value_empty [] refl

  -- it is the digits, if a comma follows them or nothing does
  pub piece_stands : ((digits.count < length text) × (get_or text digits.count 0 ≡ 44)) ⊎ (length text ≤ digits.count) → until 44 text ≡ digits.count
  piece_stands (inl h) =
      let c = d.counts in
      let k = h.0 in
      piece_digits 44 comma text (omega (arith, c, k)) (at_count 44 h.1) ∙ sym c
  piece_stands (inr h) =
      let c = d.counts in
      let k = count_le text in
      let e : digit_count text ≡ length text = omega (arith, c, k, h) in
      piece_all 44 comma text e ∙ (sym e ∙ sym c)

  pub piece_none : digits.count < length text → get_or text digits.count 0 ≢ 44 → value (piece text) ≡ none
  piece_none h e =
      let c = d.counts in
      value_not (piece text) (piece_other 44 comma text (omega (arith, c, h)) (λ f. e (ap (λ i. get_or text i 0) d.counts ∙ f)))

  pub piece_empty : digits.count ≡ 0 → value (piece text) ≡ none
  piece_empty e =
      ⊎_elim
      (λ (h : digits.count < length text).
      ⊎_elim
      (λ (f : get_or text digits.count 0 ≡ 44). nothing (piece_stands (inl (h, f)) ∙ e))
      (λ (f : get_or text digits.count 0 ≢ 44). piece_none h f)
      (eq_or_ne (get_or text digits.count 0) 44))
      (λ (h : length text ≤ digits.count). nothing (piece_stands (inr h) ∙ e))
      (lt_or_le digits.count (length text))

-- ---- whether a comma follows the digits

comma_first : (l : List ℕ) → pointwise eqb (take 1 l) (44 ∷ []) ≡ true → (0 < length l) × (get_or l 0 0 ≡ 44)
comma_first [] e = true_false e refl
comma_first (b ∷ l) e = (omega arith, eqb-true b 44 (and_true (eqb b 44) true e).0)

other_first : (l : List ℕ) → pointwise eqb (take 1 l) (44 ∷ []) ≡ false → 0 < length l → get_or l 0 0 ≢ 44
other_first [] e h q = omega (arith, h)
other_first (b ∷ l) e h q = true_false (rw (eq-eqb b 44 q) refl) e

module _ (text : List ℕ) (n : ℕ) where
  first_at : get_or (drop n text) 0 0 ≡ get_or text n 0
  first_at = get_or-drop n text 0 0 ∙ ap (λ i. get_or text i 0) (omega arith)

  pub after_comma : drop 1 (take (length text - n) (drop n text)) ≡ drop (n + 1) text
  after_comma = ap (drop 1) (rest_is text n) ∙ drop-drop 1 n text

  pub comma_follows : pointwise eqb (take 1 (take (length text - n) (drop n text))) (44 ∷ []) ≡ true → (n < length text) × (get_or text n 0 ≡ 44)
  comma_follows e = let h = comma_first (drop n text) (rw (rest_is text n) at e) in (omega (arith, h.0, length-drop n text), sym (first_at) ∙ h.1)

  pub other_follows : pointwise eqb (take 1 (take (length text - n) (drop n text))) (44 ∷ []) ≡ false → n < length text → get_or text n 0 ≢ 44
  other_follows e h q = other_first (drop n text) (rw (rest_is text n) at e) (omega (arith, h, length-drop n text)) (first_at ∙ q)

-- ---- the two values

no_number : (text : List ℕ) → number (piece text) ≡ none → values (split 44 text) ≡ malformed
no_number text e =
    let u = until_le 44 text in
    ⊎_elim
    (λ (h : until 44 text < length text). two_values text h ∙ (ap (λ x. counted x (value (piece (drop (suc (until 44 text)) text)))) e ∙ no_line _))
    (λ (h : length text ≤ until 44 text). let q : until 44 text ≡ length text = omega arith in one_value text q)
    (lt_or_le (until 44 text) (length text))

number_none : (word : List ℕ) → value word ≡ none → number word ≡ none
unfolding number
number_none word e = rw (e, number)

module _ (text : List ℕ) (digits : Digits) (d : Leads text digits) where
  pub count_inside : digits.count ≤ length text
  count_inside = let c = d.counts in let k = count_le text in omega (arith, c, k)

  module _ (h : digits.count < length text) where
    other_byte : get_or text digits.count 0 ≢ 44 → values (split 44 text) ≡ malformed
    other_byte e = no_number text (number_none (piece text) (piece_none text digits d h e))

    module _ (e : get_or text digits.count 0 ≡ 44) where
      ends : until 44 text ≡ digits.count
      ends = piece_stands text digits d (inl (h, e))

      both_values : {o : Option ℕ} → number (take digits.count text) ≡ o → values (split 44 text) ≡ counted o (value (piece (drop (digits.count + 1) text)))
      both_values {o} q =
          let i : until 44 text < length text = let z = ends in omega (arith, z, h) in
          let j : suc (until 44 text) ≡ digits.count + 1 = let z = ends in omega (arith, z) in
          two_values text i
          ∙ (ap (λ x. counted x (value (piece (drop (suc (until 44 text)) text)))) (ap (λ n. number (take n text)) ends ∙ q)
          ∙ ap (λ n. counted o (value (piece (drop n text)))) j)

      pub zero_line : digits.value ≡ 0 → values (split 44 text) ≡ malformed
      unfolding past_bin
      zero_line z =
          ⊎_elim
          (λ (k : digits.count ≡ 0). both_values (number_none _ (ap (λ n. value (take n text)) k ∙ value_empty [] refl)) ∙ no_line _)
          (λ (k : digits.count ≢ 0). both_values (leading_small text digits d k (omega (arith, z)) ∙ ap some z) ∙ line_zero _)
          (eq_or_ne digits.count 0)

      pub large_line : past_bin ≤ digits.value → values (split 44 text) ≡ malformed
      large_line l = both_values (leading_large text digits d l) ∙ no_line _

      pub line_counted : digits.value ≢ 0 → digits.value < past_bin → values (split 44 text) ≡ counted (some digits.value) (value (piece (drop (digits.count + 1) text)))
      line_counted k l = both_values (leading_small text digits d (some_digits text digits d k) l)

  -- no comma follows them
  pub no_comma : pointwise eqb (take 1 (take (length text - digits.count) (drop digits.count text))) (44 ∷ []) ≡ false → values (split 44 text) ≡ malformed
  no_comma e =
      let k = count_inside in
      ⊎_elim
      (λ (h : digits.count < length text). other_byte h (other_follows text digits.count e h))
      (λ (h : length text ≤ digits.count). one_value text (piece_stands text digits d (inr h) ∙ omega (arith, h, k)))
      (lt_or_le digits.count (length text))
