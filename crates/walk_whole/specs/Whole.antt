-- The walk of a question over chosen runs from its beginning to its end, in buffers that hold what the questions before it wrote. Definitions only.
use Rattle.std.specs.Prelude.{ℕ, ◌^◌, ◌≤◌, ◌<◌, List, ◌≡◌, length, Result}
use Rattle.model.specs.Compared.{whole_walk}
use Rattle.model.specs.Refusals.{passed, list_checks}
use Rattle.model.specs.Runs.{Run, runs, weighted, weight_of_all, chosen, most_runs}
use Rattle.walk_progress.specs.Progress.{Counts, counts_with, onward}
use Rattle.walk_rounds.specs.Ends.{number_at, state_at}
use Rattle.walk_state.specs.Moves.{PlacedAt}
use Rattle.walk_tally.specs.Tally.{undoubled}
use Rattle.walk_write.specs.Writes.{ends_with}
use Rattle.walk_write.specs.declared.State.{State}
use Rattle.walk_write.specs.declared.Stopped.{Stopped}

-- the runs of a question: those that a mask chooses, each with its weight
abbrev pub asked_runs : List ℕ → List ℕ → List ℕ → ℕ → List Run
asked_runs numbers ends weights m = weighted weights (chosen m (runs numbers ends))

-- a question that passed the first checks, with a weight for each run or none; the places of its runs' first bins, a certificate in which so many bytes stand, and the
-- tally of an allowance of 32 bits
pub record Asked (numbers ends weights firsts : List ℕ) (m t : ℕ) (certificate : List ℕ) (written tally : ℕ) : Type 0 where
  pub few : length ends ≤ most_runs
  pub row : 0 < length weights → length weights ≡ length ends
  pub only : m < 2 ^ length ends
  pub some : 0 < t
  pub met : t ≤ weight_of_all (asked_runs numbers ends weights m)
  pub lists : list_checks numbers ends ≡ passed
  pub placed : PlacedAt numbers ends (runs numbers ends) firsts
  pub bytes_fit : written ≤ length certificate
  pub allowed : undoubled tally < 4294967296

-- the same with rows for its walk
pub record Begins (numbers ends weights firsts : List ℕ) (m t : ℕ) (positions keys certificate : List ℕ) (written tally : ℕ) : Type 0 where
  pub asked : Asked numbers ends weights firsts m t certificate written tally
  pub positions_size : length positions ≡ length ends
  pub keys_size : length keys ≡ length ends

-- the counts where it begins: its parts are counted from 0
unfoldable pub counts_from : ℕ → ℕ → ℕ → ℕ → Counts
counts_from allowance answered written tally = counts_with allowance answered 0 written tally

-- The walk ended so, and with these buffers, as the question does, of whatever allowance the tally was.
pub record ComesTo (numbers ends weights : List ℕ) (m t answered written tally : ℕ) (answers certificate answers' certificate' : List ℕ) (r : Result State Stopped) : Type 0 where
  pub left_then : undoubled (state_at r).tally ≤ undoubled tally
  pub as_asked : (allowance : ℕ) → undoubled tally ≤ allowance
      → onward allowance (counts_from allowance answered written tally) answers certificate (whole_walk t (asked_runs numbers ends weights m))
      ≡ ends_with (number_at r) allowance (state_at r) answers' certificate'
