-- Where the runs of a call begin, and where those of a walk do: a chosen run at its first bin, any other at its end. Definitions only.
use Rattle.std.specs.Prelude.{ℕ, ◌^◌, ◌≤◌, ◌<◌, true, false, List, [], ◌≡◌, eqb, length, get_or}
use Rattle.std.proofs.Math.Option.{none}
use Rattle.model.specs.Refusals.{falls_from, last_end, unrisen_in}
use Rattle.model.specs.Runs.{Run, bit, names, most_runs}
use Rattle.walk_state.specs.State.{Inside}

-- ends in order, the last of them the number of numbers, runs that rise after the zeros at their start, and a place for each run
pub record Lent (numbers ends firsts : List ℕ) : Type 0 where
  pub rise : falls_from 0 0 ends ≡ none
  pub last : last_end 0 ends ≡ length numbers
  pub risen : unrisen_in 0 numbers ends ≡ none
  pub size : length firsts ≡ length ends

-- a run as it stands where a walk over the runs that a mask chooses begins: at its end where it is not chosen, so that it is never moved
unfoldable pub standing : ℕ → Run → Run
standing chosen r = elim (names chosen r) [ true ↦ r | false ↦ record { label = r.label; weight = r.weight; bins = [] } ]

-- the place where a run with its first bin at `first` and its end at `e` begins
unfoldable pub begins_at : ℕ → ℕ → ℕ → ℕ → ℕ
begins_at chosen run first e = elim (eqb (bit chosen run) 1) [ true ↦ first | false ↦ e ]

-- the position of each of the first n runs is where it begins
pub record ChosenAt (ends firsts : List ℕ) (chosen : ℕ) (positions : List ℕ) (n : ℕ) : Type 0 where
  pub size : length positions ≡ length ends
  pub each : (i : ℕ) → i < n → get_or positions i 0 ≡ begins_at chosen i (get_or firsts i 0) (get_or ends i 0)

-- a place in each run, a mask that chooses some of them, and a position and a key for each
pub record BeginReady (numbers ends firsts : List ℕ) (chosen : ℕ) (positions keys : List ℕ) : Type 0 where
  pub few : length ends ≤ most_runs
  pub inside : Inside numbers firsts ends
  pub only : chosen < 2 ^ length ends
  pub size : length positions ≡ length ends
  pub keys_size : length keys ≡ length ends
