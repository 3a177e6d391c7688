-- What the functions that move runs ask and give. Definitions only.
use Rattle.std.specs.Prelude.{ℕ, ◌^◌, ◌≤◌, ◌<◌, ◌≡◌, true, false, length, drop, ltb}
use mathlib.Core.List.{List, Memᴰ}
use Rattle.model.specs.Runs.{Run, past_bin, names, most_runs, mask_bits}
use Rattle.model.specs.Walk.{head}
use Rattle.model.specs.Rows.{Ordered}
use Rattle.walk_state.specs.State.{put_head, runs_at, Inside, Lacks}

-- there is room for one key more in front of a row
pub record Room (numbers : List ℕ) (place end : ℕ) (keys : List ℕ) (start : ℕ) : Type 0 where
  pub order : place ≤ end
  pub inside : end ≤ length numbers
  pub free : 0 < start
  pub starts : start ≤ length keys
  pub ordered : Ordered 0 (drop start keys)

-- the key of a run with this head put back
pub record PutBack (h run : ℕ) (keys : List ℕ) (start : ℕ) (after : List ℕ) (next : ℕ) : Type 0 where
  pub row : drop next after ≡ put_head h run (drop start keys)
  pub starts : next ≤ length after
  pub size : length after ≡ length keys

-- a run at its position
pub record Placeable (numbers ends positions : List ℕ) (run : ℕ) : Type 0 where
  pub index : run < length ends
  pub small : run < mask_bits
  pub inside : Inside numbers positions ends

-- the runs are these, each at its position
pub record PlacedAt (numbers ends : List ℕ) (rs : List Run) (positions : List ℕ) : Type 0 where
  pub inside : Inside numbers positions ends
  pub runs_are_law : runs_at 0 numbers positions ends ≡ rs

-- a mask names the runs whose head is below v
pub record NamesBelow (rs : List Run) (v mask : ℕ) : Type 0 where
  pub each : (r : Run) → Memᴰ r rs → names mask r ≡ ltb (head r) v

-- a mask names the runs whose head is below v, and no others
pub record Searchable (numbers ends positions : List ℕ) (named v : ℕ) : Type 0 where
  pub few : length ends ≤ most_runs
  pub inside : Inside numbers positions ends
  pub only : named < 2 ^ length ends
  pub below : NamesBelow (runs_at 0 numbers positions ends) v named

-- the keys of the runs that a mask names are not in the row
pub record PutReady (numbers ends positions keys : List ℕ) (start named : ℕ) : Type 0 where
  pub few : length ends ≤ most_runs
  pub lacks : Lacks numbers ends positions keys start (runs_at 0 numbers positions ends) named

-- the runs whose head is below v are to be searched: a mask names them and their keys are not in the row
pub record SearchReady (numbers ends positions keys : List ℕ) (start named v : ℕ) : Type 0 where
  pub few : length ends ≤ most_runs
  pub lacks : Lacks numbers ends positions keys start (runs_at 0 numbers positions ends) named
  pub below : NamesBelow (runs_at 0 numbers positions ends) v named

-- a run that a mask names moved on by one
unfoldable pub step_named : ℕ → Run → Run
step_named mask r = elim (names mask r) [ true ↦ record { label = r.label; weight = r.weight; bins = drop 1 r.bins } | false ↦ r ]

-- each of the runs that a mask names has a head
pub record Steppable (numbers ends positions : List ℕ) (named : ℕ) : Type 0 where
  pub few : length ends ≤ most_runs
  pub inside : Inside numbers positions ends
  pub only : named < 2 ^ length ends
  pub heads : (r : Run) → Memᴰ r (runs_at 0 numbers positions ends) → names named r ≡ true → head r < past_bin

-- the runs that a mask names are to be moved on by one: each has a head, and their keys are not in the row
pub record StepReady (numbers ends positions keys : List ℕ) (start named : ℕ) : Type 0 where
  pub few : length ends ≤ most_runs
  pub lacks : Lacks numbers ends positions keys start (runs_at 0 numbers positions ends) named
  pub heads : (r : Run) → Memᴰ r (runs_at 0 numbers positions ends) → names named r ≡ true → head r < past_bin
