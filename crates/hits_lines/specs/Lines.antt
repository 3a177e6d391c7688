-- What the two passes over the lines compute. Definitions only.
use Rattle.std.specs.Prelude.{ℕ, ◌+◌, ◌≤◌, Result, Ok, Err, List, [], ◌≡◌, length, drop}
use Rattle.std.proofs.lemmas.List.Edits.{sets}
use Rattle.hits_input.specs.Input.{Lines, runs_are, fault_at, lines_from, row, ends_from}
use Rattle.hits_limits.specs.Limits.{most_bytes}
use Rattle.text_read.specs.Pieces.{split}
use Rattle.hits_lines.specs.declared.Counts.{Counts}
use Rattle.hits_lines.specs.declared.Faulty.{Faulty}

-- how many runs and numbers there are with those of the lines, or the line at fault
unfoldable pub scanned : ℕ → ℕ → Lines → Result Counts Faulty
scanned i n (runs_are runs) = Ok (record { runs = i + length runs; numbers = n + length (row runs) })
scanned i n (fault_at line) = Err (record { 0 = line })

-- there is room for the runs and numbers counted
abbrev pub Within : ℕ → ℕ → Result Counts Faulty → Type 0
Within runs room (Ok counts) = (counts.runs ≤ runs) × (counts.numbers ≤ room)
Within runs room (Err fault) = Unit {0}

unfoldable pub runs_in : Lines → List (List ℕ)
runs_in (runs_are runs) = runs
runs_in (fault_at line) = []

-- the lines from a place on, with limits that are lengths of rows
unfoldable pub lines_at : ℕ → ℕ → List ℕ → ℕ → Lines
lines_at runs numbers bytes start = lines_from (record { runs = runs; numbers = numbers }) 0 0 (split 10 (drop start bytes))

-- no line from a place on is at fault, and there are at most as many bytes as the program accepts
pub record Readable (bytes : List ℕ) (start : ℕ) (numbers ends : List ℕ) : Type 0 where
  pub inside : start ≤ length bytes
  pub short : length bytes ≤ most_bytes
  pub no_fault : lines_at (length ends) (length numbers) bytes start ≡ runs_are (runs_in (lines_at (length ends) (length numbers) bytes start))

-- the rows after the runs of the lines from a place on are stored in them
pub record Stored (bytes : List ℕ) (start : ℕ) (numbers ends numbers' ends' : List ℕ) : Type 0 where
  pub numbers_are : numbers' ≡ sets numbers 0 (row (runs_in (lines_at (length ends) (length numbers) bytes start)))
  pub ends_are : ends' ≡ sets ends 0 (ends_from 0 (runs_in (lines_at (length ends) (length numbers) bytes start)))
