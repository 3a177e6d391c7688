-- Numbers in decimal. Definitions only.
use Rattle.std.specs.Prelude.{ℕ, zero, suc, ◌+◌, ◌/◌, ◌%◌, true, false, List, [], ◌∷◌, ◌++◌, ltb}

-- All numbers are decimal: the digits of a tenth of the number, and then its last digit. (Digit 0 is byte 48.)
unfoldable pub decimal_in : ℕ → ℕ → List ℕ
decimal_in zero x = []
decimal_in (suc fuel) x = elim (ltb x 10) [ true ↦ (48 + x) ∷ [] | false ↦ decimal_in fuel (x / 10) ++ ((48 + x % 10) ∷ []) ]

unfoldable pub decimal : ℕ → List ℕ
decimal x = decimal_in (suc x) x
