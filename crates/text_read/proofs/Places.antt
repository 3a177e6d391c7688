-- The place of a first separator and of a first byte that is no digit, as the library's `position` gives it. Assumes nothing.
use Rattle.std.proofs.Common.{◌≡◌, ℕ, Bool, not, List, [], ◌∷◌, length, refl, ◌∙◌, arith, unwrap_or, position}
use Rattle.std.specs.List.{position_or_len}
use Rattle.std.specs.Char.{is_ascii_digit}
use Rattle.std.proofs.lemmas.Grind.{common_steps}
use Rattle.std.proofs.lemmas.Bool.Decides.{nat_tests}
use Rattle.std.proofs.lemmas.List.Sums.{prefix_len-le-length}
use lib.Dec.{eqb}
use Rattle.text_read.specs.Numbers.{is_digit, digit_count}
use Rattle.text_read.specs.Pieces.{until}

pub or_length : {X : Type 0} (p : X → Bool) (l : List X) → unwrap_or (position p l) (length l) ≡ position_or_len p l
or_length p l = let h = prefix_len-le-length (λ x. not (p x)) l in grind (arith, common_steps, nat_tests)

until_place : (s : ℕ) (l : List ℕ) → position_or_len (λ b. eqb b s) l ≡ until s l
unfolding until
until_place s [] = refl
until_place s (b ∷ l) = let h = until_place s l in grind (arith, common_steps)

pub until_is : (s : ℕ) (l : List ℕ) → unwrap_or (position (λ b. eqb b s) l) (length l) ≡ until s l
until_is s l = or_length _ l ∙ until_place s l

count_place : (l : List ℕ) → position_or_len (λ b. not (is_ascii_digit b)) l ≡ digit_count l
unfolding digit_count is_digit
count_place [] = refl
count_place (b ∷ l) = let h = count_place l in grind (arith, common_steps)

pub count_is : (l : List ℕ) → unwrap_or (position (λ b. not (is_ascii_digit b)) l) (length l) ≡ digit_count l
count_is l = or_length _ l ∙ count_place l
