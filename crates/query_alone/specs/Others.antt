-- What the walk over the other runs comes to, and the answers after it. Definitions only.
use Rattle.std.specs.Prelude.{ℕ, ◌≤◌, ◌<◌, List, ◌≡◌, length, take, Result}
use Rattle.field_read.specs.Held.{parts_held}
use Rattle.model.specs.Alone.{full_number}
use Rattle.model.specs.Certificate.{encode}
use Rattle.model.specs.Compared.{parts_of}
use Rattle.model.specs.Refusals.{Ended, Outcome, over}
use Rattle.model.specs.Runs.{runs}
use Rattle.query_difference.specs.Gaps.{in_gaps}
use Rattle.walk_progress.specs.Progress.{no_counts, counts_with, counts_more, outcome_at}
use Rattle.walk_rounds.specs.Ends.{number_at, state_at}
use Rattle.walk_state.specs.Moves.{PlacedAt}
use Rattle.walk_tally.specs.Tally.{undoubled}
use Rattle.walk_write.specs.declared.State.{State}
use Rattle.walk_write.specs.declared.Stopped.{Stopped}

-- there is a run, and the row has the places of the runs' first bins
pub record RunsPlaced (numbers ends firsts : List ℕ) : Type 0 where
  pub some_runs : 0 < length ends
  pub placed : PlacedAt numbers ends (runs numbers ends) firsts

-- A walk from the call's start ended so: its number, its counts with however many answers are written after it, and the certificate.
pub record Walked (e : Ended) (allowance : ℕ) (certificate certificate' : List ℕ) (r : Result State Stopped) : Type 0 where
  pub left : undoubled (state_at r).tally ≤ allowance
  pub number : number_at r ≡ e.refused
  pub counts : (answers : ℕ) → counts_with allowance answers (state_at r).parts (state_at r).bytes (state_at r).tally ≡ counts_more no_counts answers e.events
  pub certificate_is : certificate' ≡ over (encode (parts_of e.events)) certificate

-- what of the run lies in the gaps of the certificate's bytes
unfoldable pub in_gaps_of : List ℕ → List ℕ → ℕ → List ℕ
in_gaps_of run certificate bytes = in_gaps (parts_held (take bytes certificate)) run

-- the bins found are written, as many as fit
pub record FoundAfter (run certificate : List ℕ) (allowance : ℕ) (w : State) (answers answers' : List ℕ) (o : Outcome) : Type 0 where
  pub outcome_agrees : o
      ≡ outcome_at (full_number (length answers) (in_gaps_of run certificate w.bytes))
      (counts_with allowance (length (take (length answers) (in_gaps_of run certificate w.bytes))) w.parts w.bytes w.tally)
  pub answers_are : answers' ≡ over (take (length answers) (in_gaps_of run certificate w.bytes)) answers
