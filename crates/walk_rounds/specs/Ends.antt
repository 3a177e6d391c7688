-- The rounds made to the walk's end. Definitions only.
use Rattle.std.specs.Prelude.{ℕ, ◌+◌, ◌≤◌, List, ◌≡◌, Result, Ok, Err}
use Rattle.model.specs.Runs.{Run, past_bin}
use Rattle.model.specs.Walk.{walk}
use Rattle.walk_tally.specs.Tally.{undoubled}
use Rattle.refusal.specs.Number.{number_of}
use Rattle.walk_write.specs.declared.State.{State}
use Rattle.walk_write.specs.declared.Stopped.{Stopped}
use Rattle.walk_write.specs.Writes.{goes_on, ends_with}

-- where a walk ended, and the number of the refusal that stopped it, 0 where none did
abbrev pub state_at : Result State Stopped → State
state_at (Ok w) = w
state_at (Err s) = s.at

abbrev pub number_at : Result State Stopped → ℕ
number_at (Ok w) = 0
number_at (Err s) = number_of s.reason

-- the rounds are made to the end: what the walk comes to is as it ended
pub record Finishes (rs : List Run) (t : ℕ) (w : State) (answers certificate answers' certificate' : List ℕ) (r : Result State Stopped) : Type 0 where
  pub left : undoubled (state_at r).tally ≤ undoubled w.tally
  pub comes_to : (allowance n : ℕ) → undoubled w.tally ≤ allowance → past_bin ≤ w.floor + n
      → goes_on allowance w answers certificate (walk n t w.floor rs) ≡ ends_with (number_at r) allowance (state_at r) answers' certificate'
