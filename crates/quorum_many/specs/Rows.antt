-- The row of numbers in which the C boundary returns the outcome of a call with many questions. Definitions only.
use Rattle.std.specs.Prelude.{ℕ, List, [], ◌∷◌}
use Rattle.model.specs.Many.{ManyOutcome, all_accepted, refused_in}

-- refusal, place, question, answers, parts, bytes, doubling probes, halving probes
unfoldable pub many_row : ManyOutcome → List ℕ
many_row (all_accepted a n b d h) = 0 ∷ 0 ∷ 0 ∷ a ∷ n ∷ b ∷ d ∷ h ∷ []
many_row (refused_in q x place a n b d h) = x ∷ place ∷ q ∷ a ∷ n ∷ b ∷ d ∷ h ∷ []
