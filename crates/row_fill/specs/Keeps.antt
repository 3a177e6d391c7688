-- A lent row into which numbers are written one after another. Definitions only.
use Rattle.std.specs.Prelude.{ℕ, ◌≤◌, ◌<◌, List, ◌≡◌, length, take, Result, Ok, Err}
use Rattle.model.specs.Refusals.{over}
use Rattle.refusal.specs.declared.Reason.{Reason}
use Rattle.refusal.specs.declared.Reason.TheVariants.{AnswersFull}

-- these are written into a row, or as many of them as fit
abbrev pub Keeps : List ℕ → List ℕ → List ℕ → Result ℕ Reason → Type 0
Keeps found row row' (Ok n) = (n ≡ length found) × (length found ≤ length row) × (row' ≡ over found row)
Keeps found row row' (Err reason) = (reason ≡ AnswersFull) × (length row < length found) × (row' ≡ take (length row) found)
