-- What a question asks after its first checks. Definitions only.
use Rattle.std.specs.Prelude.{ℕ, ◌≤◌, ◌<◌, List, ◌≡◌, length}
use Rattle.model.specs.Refusals.{passed, list_checks}
use Rattle.model.specs.Runs.{runs, weighted, weight_of_all, most_runs}

-- runs in order, a weight for each or none, and a threshold that they can meet
pub record Answerable (numbers ends weights : List ℕ) (t : ℕ) : Type 0 where
  pub some_runs : 0 < length ends
  pub few : length ends ≤ most_runs
  pub row : 0 < length weights → length weights ≡ length ends
  pub some : 0 < t
  pub met : t ≤ weight_of_all (weighted weights (runs numbers ends))
  pub lists : list_checks numbers ends ≡ passed
