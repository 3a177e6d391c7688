-- What the first checks of a checker give, with a mask or with weights. Definitions only.
use Rattle.std.specs.Prelude.{ℕ, ◌^◌, ◌≤◌, ◌<◌, List, ◌≡◌, length}
use Rattle.model.specs.Refusals.{passed, list_checks}
use Rattle.model.specs.Runs.{most_runs}
use Rattle.weights.specs.Named.{named_weight, Weighs}

-- Lists that pass their checks, a mask that chooses some of the runs, a row with a weight for each run or none at all, and a threshold that is neither 0 nor above
-- what the chosen runs weigh.
pub record Checkable (numbers ends weights : List ℕ) (m t : ℕ) : Type 0 where
  pub few : length ends ≤ most_runs
  pub lists : list_checks numbers ends ≡ passed
  pub within : m < 2 ^ length ends
  pub row : Weighs m weights
  pub some : 0 < t
  pub met : t ≤ named_weight weights m
