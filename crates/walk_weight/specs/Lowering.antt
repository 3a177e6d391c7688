-- What is known where the weight still in play is to be lowered after a step past an answer. Definitions only.
use Rattle.std.specs.Prelude.{ℕ, ◌^◌, ◌≤◌, ◌<◌, true, ◌≡◌, length}
use mathlib.Core.List.{List, Memᴰ}
use Rattle.model.specs.Runs.{Run, past_bin, weighted, names, most_runs}
use Rattle.model.specs.Walk.{head}
use Rattle.walk_state.specs.State.{runs_at, Inside, weight_if_heads}

-- the weight is still that in which each run that a mask names has a head
pub record Lowerable (numbers ends weights positions : List ℕ) (named weight : ℕ) : Type 0 where
  pub few : length ends ≤ most_runs
  pub inside : Inside numbers positions ends
  pub only : named < 2 ^ length ends
  pub row : 0 < length weights → length weights ≡ length ends
  pub sum : weight ≡ weight_if_heads named (weighted weights (runs_at 0 numbers positions ends))

-- if `kept` is `count`, each run that a mask names has a head
pub record AllHave (numbers ends positions : List ℕ) (named count kept : ℕ) : Type 0 where
  pub each : kept ≡ count → (r : Run) → Memᴰ r (runs_at 0 numbers positions ends) → names named r ≡ true → head r < past_bin
