-- Lines of a word and numbers. Definitions only.
use Rattle.std.specs.Prelude.{ℕ, List, [], ◌∷◌, ◌++◌}
use Rattle.text_write.specs.Decimal.{decimal}

-- A line: a word and numbers, a space before each number, and byte 10 at the end.
unfoldable pub numbers_after : List ℕ → List ℕ
numbers_after [] = 10 ∷ []
numbers_after (x ∷ xs) = 32 ∷ (decimal x ++ numbers_after xs)

unfoldable pub line : List ℕ → List ℕ → List ℕ
line word xs = word ++ numbers_after xs
