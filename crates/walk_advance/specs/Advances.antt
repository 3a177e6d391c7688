-- What a round raises, and what it asks from the head v on up to which runs weigh enough. Definitions only.
use Rattle.std.specs.Prelude.{ℕ, ◌≤◌, ◌<◌, List, ◌≡◌, Result, Ok, Err}
use Rattle.model.specs.Runs.{past_bin}
use Rattle.model.specs.Walk.{weight_in_play, enough_head}
use Rattle.walk_state.specs.State.{chosen_at}
use Rattle.walk_write.specs.declared.Turn.{Turn}
use Rattle.walk_write.specs.declared.Stopped.{Stopped}
use Rattle.walk_write.specs.declared.Turn.TheVariants.{On, Done}

-- a round that goes on raises the floor
abbrev pub Raises : ℕ → Result Turn Stopped → Type 0
Raises floor (Ok (On w')) = floor < w'.floor
Raises floor (Ok (Done w')) = Unit
Raises floor (Err s) = Unit

-- the weight in play is enough, and v is the least head such that the chosen runs whose heads are not above it weigh enough
pub record Advances (chosen : ℕ) (numbers ends weights positions : List ℕ) (t v : ℕ) : Type 0 where
  pub bin : v < past_bin
  pub left : t ≤ weight_in_play (chosen_at weights chosen numbers positions ends)
  pub least : enough_head t (chosen_at weights chosen numbers positions ends) ≡ v
