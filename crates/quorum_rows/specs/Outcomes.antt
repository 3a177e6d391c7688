-- The row of numbers in which the C boundary returns a question's outcome. Definitions only.
use Rattle.std.specs.Prelude.{ℕ, true, false, ◌&&◌, List, [], ◌∷◌, leb}
use Rattle.model.specs.Refusals.{Outcome, accepted, refused}

-- the whole parts written: the place of a walk refusal, 5 to 7, is their number; none where a first check refuses
unfoldable pub written_of : ℕ → ℕ → ℕ
written_of number place = elim (leb 5 number && leb number 7) [ true ↦ place | false ↦ 0 ]

-- refusal, place, answers, parts, bytes, doubling probes, halving probes
unfoldable pub outcome_row : Outcome → List ℕ
outcome_row (accepted a n b d h) = 0 ∷ 0 ∷ a ∷ n ∷ b ∷ d ∷ h ∷ []
outcome_row (refused x p a b d h) = x ∷ p ∷ a ∷ written_of x p ∷ b ∷ d ∷ h ∷ []
