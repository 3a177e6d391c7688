-- The row of numbers in which the C boundary returns what a call came to that fills a lent row of numbers. Definitions only.
use Rattle.std.specs.Prelude.{ℕ, List, [], ◌∷◌}
use Rattle.model.specs.Refusals.{Check, passed, refusal}

-- refusal, place, count written
unfoldable pub filled_row : Check → ℕ → List ℕ
filled_row passed count = 0 ∷ 0 ∷ count ∷ []
filled_row (refusal number place) count = number ∷ place ∷ count ∷ []
