-- What the steps of a round ask and give: from the state and the buffers before to those after, what the question comes to stays the same.
-- Definitions only.
use Rattle.std.specs.Prelude.{ℕ, suc, ◌+◌, ◌*◌, ◌^◌, ◌≤◌, ◌<◌, ◌⊎◌, ◌≡◌, eqb, length, drop, Result, Ok, Err}
use mathlib.Core.List.{List, map, Memᴰ}
use Rattle.std.specs.Int.Count.{ones}
use Rattle.model.specs.Rows.{Rise, equal}
use Rattle.model.specs.Runs.{Run, last_bin, past_bin, mask, most_runs}
use Rattle.model.specs.Walk.{Event, head, moved_on, walk}
use Rattle.walk_keys.specs.Row.{below_count}
use Rattle.refusal.specs.Number.{number_of}
use Rattle.walk_write.specs.declared.State.{State}
use Rattle.walk_write.specs.declared.Stopped.{Stopped}
use Rattle.walk_write.specs.declared.Turn.{Turn}
use Rattle.walk_write.specs.declared.Turn.TheVariants.{On, Done}
use Rattle.walk_state.specs.State.{runs_at, chosen_at, Holds, Idle, InPlay}
use Rattle.walk_tally.specs.Tally.{undoubled}
use Rattle.walk_write.specs.Writes.{counts_of, goes_on, ends_with, Fitted}
use Rattle.weights.specs.Named.{named_weight}

-- a state before a round: the rows hold the runs, which rise from the floor on, its weight is the one still in play, and its allowance is one of 32 bits
pub record Stands (numbers ends weights positions keys : List ℕ) (t : ℕ) (w : State) : Type 0 where
  pub few : length ends ≤ most_runs
  pub some : 0 < t
  pub holds : Holds numbers ends positions keys w.start (runs_at 0 numbers positions ends)
  pub rising : (r : Run) → Memᴰ r (runs_at 0 numbers positions ends) → Rise w.floor r.bins
  pub in_play : InPlay numbers ends weights positions w.weight
  pub bin : w.floor < past_bin
  pub allowed : undoubled w.tally < 4294967296

-- a mask chooses some of these runs, which weigh at least t, and no other has a number left
pub record Chooses (m : ℕ) (numbers ends weights positions : List ℕ) (t : ℕ) : Type 0 where
  pub only : m < 2 ^ length ends
  pub enough : t ≤ named_weight weights m
  pub idle : Idle m (runs_at 0 numbers positions ends)

-- what a walk over the runs that a mask chooses comes to after these events, of which the last are rounds of any number
abbrev pub Goes : (ℕ → List Event) → ℕ → List ℕ → List ℕ → List ℕ → ℕ → State → List ℕ → List ℕ → List ℕ → List ℕ → List ℕ → List ℕ → Result Turn Stopped → Type 0
Goes es m numbers ends weights t w answers certificate positions' keys' answers' certificate' (Ok (On w')) =
    Stands numbers ends weights positions' keys' t w' × Chooses m numbers ends weights positions' t × Fitted certificate' w' × (undoubled w'.tally ≤ undoubled w.tally)
    × ((allowance n : ℕ) → undoubled w.tally ≤ allowance → goes_on allowance w answers certificate (es n)
    ≡ goes_on allowance w' answers' certificate' (walk n t w'.floor (chosen_at weights m numbers positions' ends)))
Goes es m numbers ends weights t w answers certificate positions' keys' answers' certificate' (Ok (Done w')) =
    (undoubled w'.tally ≤ undoubled w.tally)
    × ((allowance n : ℕ) → undoubled w.tally ≤ allowance → goes_on allowance w answers certificate (es n) ≡ ends_with 0 allowance w' answers' certificate')
Goes es m numbers ends weights t w answers certificate positions' keys' answers' certificate' (Err s) =
    (undoubled s.at.tally ≤ undoubled w.tally)
    × ((allowance n : ℕ) → undoubled w.tally ≤ allowance → goes_on allowance w answers certificate (es n) ≡ ends_with (number_of s.reason) allowance s.at answers' certificate')

-- after the searches for the floor it stays where it is no answer, and is raised otherwise
abbrev pub Settles : List Run → ℕ → ℕ → Result Turn Stopped → Type 0
Settles rs t v (Ok (On w')) = ((w'.floor ≡ v) × (equal v rs < t)) ⊎ (v < w'.floor)
Settles rs t v (Ok (Done w')) = Unit
Settles rs t v (Err s) = Unit

-- the runs whose head is the floor, at the front of the row
pub record AtFloor (numbers ends positions keys : List ℕ) (w : State) (number named : ℕ) : Type 0 where
  pub counts : number ≡ below_count ((w.floor + 1) * 256) (drop w.start keys)
  pub ones_are : number ≡ ones named
  pub names_them : named ≡ mask (λ r. eqb (head r) w.floor) (runs_at 0 numbers positions ends)

-- past an answer: the walk ends at the last bin, and goes on from the next one otherwise
abbrev pub Passes : List ℕ → List ℕ → List ℕ → List ℕ → ℕ → State → List ℕ → List ℕ → Turn → Type 0
Passes numbers ends weights positions t w positions' keys' (On w') =
    Stands numbers ends weights positions' keys' t w' × (w.floor < last_bin) × (w'.floor ≡ suc w.floor)
    × (runs_at 0 numbers positions' ends ≡ map (moved_on w.floor) (runs_at 0 numbers positions ends))
    × ((allowance : ℕ) → counts_of allowance w' ≡ counts_of allowance w) × (w'.tally ≡ w.tally)
    × ((certificate : List ℕ) → Fitted certificate w → Fitted certificate w')
Passes numbers ends weights positions t w positions' keys' (Done w') = (w.floor ≡ last_bin) × (w' ≡ w)
