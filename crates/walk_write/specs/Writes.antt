-- A walk's state between its steps, and what the steps that write a part ask and give: what the question comes to stays the same. Definitions only.
use Rattle.std.specs.Prelude.{ℕ, ◌+◌, ◌-◌, ◌≤◌, ◌<◌, true, false, ◌≡◌, ltb, length, drop, Result, Ok, Err}
use mathlib.Core.List.{List, [], ◌∷◌, ◌++◌, Memᴰ}
use Rattle.model.specs.Certificate.{answer, gap}
use Rattle.model.specs.Walk.{Event, wrote}
use Rattle.walk_keys.specs.Row.{no_key, Labels, label_sum}
use Rattle.walk_progress.specs.Progress.{Counts, counts_with, ended, onward}
use Rattle.refusal.specs.Number.{number_of}
use Rattle.refusal.specs.declared.Reason.{Reason}
use Rattle.refusal.specs.declared.Reason.TheVariants.{CertificateFull}
use Rattle.walk_write.specs.declared.State.{State}
use Rattle.walk_write.specs.declared.Stopped.{Stopped}
use Rattle.walk_write.specs.declared.Turn.{Turn}
use Rattle.walk_write.specs.declared.Turn.TheVariants.{On, Done}
use Rattle.model.specs.Runs.{last_bin}

-- the counts of a state
unfoldable pub counts_of : ℕ → State → Counts
counts_of allowance w = counts_with allowance w.answers w.parts w.bytes w.tally

-- what a question comes to from a state on
unfoldable pub goes_on : ℕ → State → List ℕ → List ℕ → List Event → Rattle.model.specs.Refusals.Answered
goes_on allowance w answers certificate es = onward allowance (counts_of allowance w) answers certificate es

unfoldable pub ends_with : ℕ → ℕ → State → List ℕ → List ℕ → Rattle.model.specs.Refusals.Answered
ends_with number allowance w answers certificate = ended number (counts_of allowance w) answers certificate

-- what is written fits the certificate
pub record Fitted (certificate : List ℕ) (w : State) : Type 0 where
  pub written : w.bytes ≤ length certificate
  pub parts : w.parts ≤ w.bytes

-- the state after a part up to so many bytes, so many answers being written
abbrev pub after_part : State → ℕ → ℕ → State
after_part w answers bytes = record { floor = w.floor; start = w.start; answers = answers; parts = w.parts + 1; bytes = bytes; tally = w.tally; weight = w.weight }

-- a part written: the certificate keeps its length, and only the counts of parts and bytes grow
pub record Grown (w : State) (certificate : List ℕ) (w' : State) (certificate' : List ℕ) : Type 0 where
  pub size : length certificate' ≡ length certificate
  pub floor : w'.floor ≡ w.floor
  pub start : w'.start ≡ w.start
  pub answers : w'.answers ≡ w.answers
  pub tally : w'.tally ≡ w.tally
  pub weight : w'.weight ≡ w.weight
  pub written : w'.bytes ≤ length certificate'
  pub parts : w'.parts ≤ w'.bytes

-- some events that write at most one part are done, or the part does not fit
abbrev pub Writes : List Event → State → List ℕ → List ℕ → Result State Reason → Type 0
Writes ds w certificate certificate' (Ok w') =
    Grown w certificate w' certificate'
    × ((allowance : ℕ) (answers : List ℕ) (es : List Event) → goes_on allowance w answers certificate (ds ++ es) ≡ goes_on allowance w' answers certificate' es)
Writes ds w certificate certificate' (Err reason) =
    (reason ≡ CertificateFull) × (certificate' ≡ certificate)
    × ((allowance : ℕ) (answers : List ℕ) (es : List Event) → goes_on allowance w answers certificate (ds ++ es) ≡ ends_with 6 allowance w answers certificate)

-- the gap from the floor to v − 1, where the floor is below v
unfoldable pub gap_events : ℕ → ℕ → ℕ → List Event
gap_events floor v named = elim (ltb floor v) [ true ↦ wrote (gap floor (v - 1) named) ∷ [] | false ↦ [] ]

-- an answer is written, into the certificate alone where the walk is told not to write answers, or a buffer is full
abbrev pub Answers : State → ℕ → List ℕ → List ℕ → List ℕ → List ℕ → Result State Reason → Type 0
Answers w named answers certificate answers' certificate' (Ok w') =
    Fitted certificate' w' × (w'.floor ≡ w.floor) × (w'.start ≡ w.start) × (w'.tally ≡ w.tally) × (w'.weight ≡ w.weight)
    × ((allowance : ℕ) (es : List Event) → goes_on allowance w answers certificate (wrote (answer w.floor named) ∷ es) ≡ goes_on allowance w' answers' certificate' es)
Answers w named answers certificate answers' certificate' (Err reason) =
    ((allowance : ℕ) (es : List Event) → goes_on allowance w answers certificate (wrote (answer w.floor named) ∷ es) ≡ ends_with (number_of reason) allowance w answers' certificate')

-- the row of keys names chosen runs alone
pub record LastReady (chosen : ℕ) (keys certificate : List ℕ) (w : State) : Type 0 where
  pub starts : w.start ≤ length keys
  pub labels : Labels (drop w.start keys)
  pub named : label_sum (drop w.start keys) ≤ chosen
  pub bins : (k : ℕ) → Memᴰ k (drop w.start keys) → k < no_key
  pub written : w.bytes ≤ length certificate
  pub parts : w.parts ≤ w.bytes

-- the last gap, which names the chosen runs that have no key in the row
abbrev pub LastGap : ℕ → List ℕ → State → List ℕ → List ℕ → Result Turn Stopped → Type 0
LastGap chosen keys w certificate certificate' (Ok (On w')) = ⊥
LastGap chosen keys w certificate certificate' (Ok (Done w')) =
    Writes (wrote (gap w.floor last_bin (chosen - label_sum (drop w.start keys))) ∷ []) w certificate certificate' (Ok w')
LastGap chosen keys w certificate certificate' (Err s) =
    (s.at ≡ w) × Writes (wrote (gap w.floor last_bin (chosen - label_sum (drop w.start keys))) ∷ []) w certificate certificate' (Err s.reason)
