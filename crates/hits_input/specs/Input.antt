-- docs/SPECIFICATION.md, 'The program hits': the input text as a question, or refusal 12 with the number of the first line at fault. Definitions only.
use Rattle.std.specs.Prelude.{ℕ, suc, ◌+◌, Bool, true, false, ◌||◌, List, [], ◌∷◌, ◌++◌, ltb, leb, eqb, length, take}
use Rattle.std.proofs.Math.Option.{Option, none, some}
use Rattle.model.specs.Refusals.{over}
use Rattle.hits_limits.specs.Limits.{most_bytes}
use Rattle.text_read.specs.Pieces.{split}
use Rattle.text_read.specs.Numbers.{number}

-- the numbers that words are, if each is one
unfoldable pub before : Option ℕ → Option (List ℕ) → Option (List ℕ)
before none o = none
before (some x) none = none
before (some x) (some xs) = some (x ∷ xs)

unfoldable pub numbers_of : List (List ℕ) → Option (List ℕ)
numbers_of [] = some []
numbers_of (word ∷ words) = before (number word) (numbers_of words)

-- Line 1 is t, a space, the allowance.
pub data Heading : Type 0 where
  no_heading : Heading
  heading : (threshold allowance : ℕ) → Heading

unfoldable pub pair : Option ℕ → Option ℕ → Heading
pair none o = no_heading
pair (some t) none = no_heading
pair (some t) (some allowance) = heading t allowance

unfoldable pub two_words : List (List ℕ) → Heading
two_words [] = no_heading
two_words (word ∷ []) = no_heading
two_words (word ∷ next ∷ []) = pair (number word) (number next)
two_words (word ∷ next ∷ other ∷ words) = no_heading

unfoldable pub heading_of : List ℕ → Heading
heading_of line = two_words (split 32 line)

-- Each further line is one run: decimal numbers with single spaces between, an empty line being an empty run.
unfoldable pub run_of : List ℕ → Option (List ℕ)
run_of [] = some []
run_of (b ∷ line) = numbers_of (split 32 (b ∷ line))

-- The lines after line 1: their runs, or the number of the first line at fault.
pub data Lines : Type 0 where
  runs_are : (runs : List (List ℕ)) → Lines
  fault_at : (line : ℕ) → Lines

unfoldable pub run_before : List ℕ → Lines → Lines
run_before run (runs_are runs) = runs_are (run ∷ runs)
run_before run (fault_at line) = fault_at line

-- How many runs and numbers there is room for.
pub record Limits : Type 0 where
  pub runs : ℕ
  pub numbers : ℕ

-- A run's line is at fault if it is not of the form, or is one run too many, or has one number too many of all the runs together. What
-- follows the last line end is at fault if there is a byte.
-- (Here: the lines after i runs with n numbers, so that the first of them is line i + 2.)
unfoldable pub lines_from : Limits → ℕ → ℕ → List (List ℕ) → Lines
lines_from limits i n [] = runs_are []
lines_from limits i n (line ∷ []) = elim (eqb (length line) 0) [ true ↦ runs_are [] | false ↦ fault_at (i + 2) ]
lines_from limits i n (line ∷ next ∷ lines) =
    elim (run_of line) [
      | none ↦ fault_at (i + 2)
      | some run ↦
          elim (leb limits.runs i || ltb limits.numbers (n + length run)) [
            | true ↦ fault_at (i + 2)
            | false ↦ run_before run (lines_from limits (suc i) (n + length run) (next ∷ lines))
          ]
    ]

-- If the input is longer than the limit, byte 65,537 is at fault; if a read failed, the byte that could not be read. It stands after the last
-- line end before it.
-- (Here: whether there is such a byte, and the lines before it.)
unfoldable pub limited : Bool → Lines → Lines
limited false lines = lines
limited true (runs_are runs) = fault_at (length runs + 2)
limited true (fault_at line) = fault_at line

-- All runs lie one after another in one row; a second row has the end of each.
unfoldable pub row : List (List ℕ) → List ℕ
row [] = []
row (run ∷ runs) = run ++ row runs

unfoldable pub ends_from : ℕ → List (List ℕ) → List ℕ
ends_from start [] = []
ends_from start (run ∷ runs) = (start + length run) ∷ ends_from (start + length run) runs

-- The question, with how many runs and numbers it has; or a refusal's number and place.
pub data Outcome : Type 0 where
  question : (threshold allowance runs numbers : ℕ) → Outcome
  refused : (number place : ℕ) → Outcome

-- The outcome with what then stands in the row of numbers and in the row of ends.
pub record Result : Type 0 where
  pub outcome : Outcome
  pub numbers : List ℕ
  pub ends : List ℕ

-- A refused input leaves both rows unchanged. The first line must have an end.
unfoldable pub result_of : Heading → Lines → List ℕ → List ℕ → Result
result_of no_heading lines numbers ends = record { outcome = refused 12 1; numbers = numbers; ends = ends }
result_of (heading t allowance) (fault_at line) numbers ends = record { outcome = refused 12 line; numbers = numbers; ends = ends }
result_of (heading t allowance) (runs_are runs) numbers ends =
    record {
      outcome = question t allowance (length runs) (length (row runs));
      numbers = over (row runs) numbers;
      ends = over (ends_from 0 runs) ends;
    }

unfoldable pub parse_lines : Bool → List (List ℕ) → List ℕ → List ℕ → Result
parse_lines more [] numbers ends = result_of no_heading (runs_are []) numbers ends
parse_lines more (line ∷ []) numbers ends = result_of no_heading (runs_are []) numbers ends
parse_lines more (line ∷ next ∷ lines) numbers ends =
    result_of (heading_of line) (limited more (lines_from (record { runs = length ends; numbers = length numbers }) 0 0 (next ∷ lines))) numbers ends

-- The input as a question: the limits of runs and numbers are the lengths of the rows. `failed` says that a read failed after these bytes
-- (docs/SPECIFICATION.md, 'The program hits').
unfoldable pub parse : Bool → List ℕ → List ℕ → List ℕ → Result
parse failed input numbers ends =
    parse_lines (failed || ltb most_bytes (length input)) (split 10 (take most_bytes input)) numbers ends
