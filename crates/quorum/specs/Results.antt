-- The rows of numbers in which the C boundary returns a verdict, a bound and a part. Definitions only.
use Rattle.std.specs.Prelude.{ℕ, ◌≤◌, List, [], ◌∷◌, ◌≡◌, length, get_or}
use Rattle.bound.specs.Bound.{Bound, Sum, Refused}
use Rattle.model.specs.Between.{between}
use Rattle.model.specs.Runs.{slice}
use Rattle.model.specs.Refusals.{Verdict, valid, invalid}

-- refusal, place, answers, parts
unfoldable pub verdict_row : Verdict → List ℕ
verdict_row (valid a n) = 0 ∷ 0 ∷ a ∷ n ∷ []
verdict_row (invalid x p a n) = x ∷ p ∷ a ∷ n ∷ []

-- refusal, place, bound
unfoldable pub bound_row : Bound → List ℕ
bound_row (Sum n) = 0 ∷ 0 ∷ n ∷ []
bound_row (Refused x p) = x ∷ p ∷ 0 ∷ []

-- start and end of the part of a list between two numbers
pub record PartRow (first last : ℕ) (list row : List ℕ) : Type 0 where
  pub size : length row ≡ 2
  pub ordered : get_or row 0 0 ≤ get_or row 1 0
  pub inside : get_or row 1 0 ≤ length list
  pub part : slice list (get_or row 0 0) (get_or row 1 0) ≡ between first last list
