-- The least and the largest number of a line in decimal, by computation. Assumes nothing.
use mathlib.Core.List.{[], ◌∷◌}
use mathlib.Core.Path.{◌≡◌, refl}
use Rattle.text_write.specs.Decimal.{decimal_in, decimal}

pub zero_digit : decimal 0 ≡ 48 ∷ []
unfolding decimal_in decimal
zero_digit = refl

-- 18446744073709551615, the mask of 64 runs
pub largest : decimal 18446744073709551615 ≡ 49 ∷ 56 ∷ 52 ∷ 52 ∷ 54 ∷ 55 ∷ 52 ∷ 52 ∷ 48 ∷ 55 ∷ 51 ∷ 55 ∷ 48 ∷ 57 ∷ 53 ∷ 53 ∷ 49 ∷ 54 ∷ 49 ∷ 53 ∷ []
unfolding decimal_in decimal
largest = refl
