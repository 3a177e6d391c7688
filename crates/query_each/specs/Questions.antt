-- The questions of a call one after another: what each asks, and what the call then comes to. Definitions only.
use Rattle.std.specs.Prelude.{ℕ, zero, suc, ◌+◌, ◌*◌, ◌≤◌, ◌<◌, List, ◌∷◌, ◌≡◌, length, get_or, drop, Result, Ok, Err}
use Rattle.model.specs.Many.{ManyCheck, all_passed, refusal_in, AnsweredMany}
use Rattle.model.specs.Refusals.{passed, chosen_checks}
use Rattle.model.specs.Runs.{runs}
use Rattle.query_progress.specs.Calls.{call_ended, call_onward}
use Rattle.walk_progress.specs.Progress.{Counts, counts_with}
use Rattle.walk_tally.specs.Tally.{undoubled}
use Rattle.query_each.specs.declared.Cut.{Cut}
use Rattle.refusal.specs.Number.{number_of}
use Rattle.query_each.specs.declared.Totals.{Totals}
use Rattle.walk_write.specs.declared.State.{State}

-- the counts of a call
unfoldable pub counts_so : ℕ → Totals → Counts
counts_so allowance w = counts_with allowance w.answers w.parts w.bytes w.tally

-- what is written fits the buffers, and the allowance is one of 32 bits
pub record Fitted (A B : List ℕ) (w : Totals) : Type 0 where
  pub answered : w.answers ≤ length A
  pub written : w.bytes ≤ length B
  pub parts : w.parts ≤ w.bytes
  pub allowed : undoubled w.tally < 4294967296

-- questions that passed the first checks
pub record Rows (numbers ends masks thresholds R : List ℕ) : Type 0 where
  pub checked : (q : ℕ) → q < length masks → chosen_checks numbers ends (get_or masks q 0) (get_or thresholds q 0) ≡ passed
  pub rows : length masks ≡ length thresholds
  pub room : 2 * length masks ≤ length R

-- what a call comes to from question q on
unfoldable pub from_question : ℕ → List ℕ → List ℕ → List ℕ → List ℕ → ℕ → Totals → List ℕ → List ℕ → List ℕ → AnsweredMany
from_question allowance numbers ends masks thresholds q w A B R =
    call_onward allowance q (counts_so allowance w) A B R (runs numbers ends) (drop q masks) (drop q thresholds)

-- the totals after a question whose walk came to a state
abbrev pub totals_after : Totals → State → Totals
totals_after totals w = record { answers = w.answers; parts = totals.parts + w.parts; bytes = w.bytes; tally = w.tally }

-- how a call ended that a refusal ended, or that none did, and the totals then
abbrev pub end_of : Result Totals Cut → ManyCheck
end_of (Ok w) = all_passed
end_of (Err e) = refusal_in e.question (number_of e.refusal.reason) e.refusal.place

abbrev pub totals_of : Result Totals Cut → Totals
totals_of (Ok w) = w
totals_of (Err e) = e.at

-- what a call comes to after question q, whichever are to come: it goes on with the next one, or a refusal ended it
abbrev pub goes_on : ℕ → List ℕ → List ℕ → ℕ → List ℕ → List ℕ → List ℕ → List ℕ → List ℕ → Result Totals Cut → AnsweredMany
goes_on allowance numbers ends q A' B' R' ms ts (Ok w) = call_onward allowance (suc q) (counts_so allowance w) A' B' R' (runs numbers ends) ms ts
goes_on allowance numbers ends q A' B' R' ms ts (Err e) =
    call_ended (refusal_in e.question (number_of e.refusal.reason) e.refusal.place) (counts_so allowance e.at) A' B' R'

pub record Asks (numbers ends : List ℕ) (m t q : ℕ) (w : Totals) (A B R A' B' R' : List ℕ) (r : Result Totals Cut) : Type 0 where
  pub left : undoubled (totals_of r).tally ≤ undoubled w.tally
  pub fitted : Fitted A' B' (totals_of r)
  pub comes_to : (allowance : ℕ) → undoubled w.tally ≤ allowance → (ms ts : List ℕ)
      → call_onward allowance q (counts_so allowance w) A B R (runs numbers ends) (m ∷ ms) (t ∷ ts) ≡ goes_on allowance numbers ends q A' B' R' ms ts r

-- the call ended so
pub record Answers (numbers ends masks thresholds : List ℕ) (w : Totals) (A B R A' B' R' : List ℕ) (r : Result Totals Cut) : Type 0 where
  pub left : undoubled (totals_of r).tally ≤ undoubled w.tally
  pub comes_to : (allowance : ℕ) → undoubled w.tally ≤ allowance
      → from_question allowance numbers ends masks thresholds 0 w A B R ≡ call_ended (end_of r) (counts_so allowance (totals_of r)) A' B' R'
