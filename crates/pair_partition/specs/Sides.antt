-- Two sides of a pair of runs, and where they are split, as the code has it. Definitions only.
use Rattle.std.specs.Prelude.{ℕ, ◌+◌, ◌≤◌, ◌<◌, min, true, false, ◌||◌, List, [], ◌∷◌, ◌≡◌, eqb, length, get_or, drop, Option, Some, None, Result, Ok, Err}
use Rattle.insertion_rank.specs.Passed.{begins_with}
use Rattle.model.specs.Rows.{Rise}
use Rattle.model.specs.Runs.{most_numbers, one}
use Rattle.pair_model.specs.Pair.{middle, split_of}
use Rattle.pair_partition.specs.declared.Places.{Places}
use Rattle.pair_partition.specs.declared.Split.{Split}
use Rattle.refusal.specs.declared.Reason.{Reason}
use Rattle.refusal.specs.declared.Reason.TheVariants.{AnswersFull}

-- two rising lists, the first of no more numbers than there may be
pub record Risen (a b : List ℕ) : Type 0 where
  pub first : Rise 0 a
  pub second : Rise 0 b
  pub few : length a ≤ most_numbers

-- two sides that are entered: neither is empty
pub record Entered (a b : List ℕ) : Type 0 where
  pub first : Rise 0 a
  pub second : Rise 0 b
  pub some : 0 < min (length a) (length b)

-- A list is split at a place: after it the pivot is passed over, if the list has it there.
pub record SplitsAt (pivot : ℕ) (s : List ℕ) (place : ℕ) (at : Places) : Type 0 where
  pub below : at.below ≡ place
  pub above : at.above ≡ place + one (begins_with pivot (drop place s))

-- The middle number of a list splits it at its own place.
pub record MiddleOf (s : List ℕ) (pivot : ℕ) (at : Places) : Type 0 where
  pub number : pivot ≡ get_or s (middle s) 0
  pub below : at.below ≡ middle s
  pub above : at.above ≡ middle s + 1

-- Both are split where the partition splits them.
pub record Splits (a b : List ℕ) (s : Split) : Type 0 where
  pub pivot : s.pivot ≡ (split_of a b).pivot
  pub first : SplitsAt (split_of a b).pivot a (split_of a b).first s.first
  pub second : SplitsAt (split_of a b).pivot b (split_of a b).second s.second

-- the pivot, if it is passed over in both
unfoldable pub pivot_in : Split → List ℕ
pivot_in s = elim (eqb s.first.above s.first.below || eqb s.second.above s.second.below) [ true ↦ [] | false ↦ s.pivot ∷ [] ]

-- how many numbers stand in a row, or that one more was due in a full one
abbrev pub kept_as : Option ℕ → Result ℕ Reason
kept_as (Some n) = Ok n
kept_as None = Err AnswersFull
