-- Where the bins of one run between two numbers stand in its list. Definitions only.
use Rattle.std.specs.Prelude.{ℕ, ◌≤◌, List, ◌≡◌, length}
use Rattle.model.specs.Between.{between}
use Rattle.model.specs.Runs.{slice}
use Rattle.std.specs.declared.ops.Range.{Range}

-- The places from start on and before end are within the list, and hold the part of it between two numbers.
pub record Spans (first last : ℕ) (list : List ℕ) (span : Range ℕ) : Type 0 where
  pub ordered : span.start ≤ span.end
  pub inside : span.end ≤ length list
  pub part : slice list span.start span.end ≡ between first last list
