-- What is claimed of a pair of runs: of what the call returns and leaves in its buffer, of the nesting, and of room that is enough. Definitions only.
use Rattle.std.specs.Prelude.{ℕ, ◌≤◌, ◌<◌, min, ◌≡◌, length, take}
use mathlib.Core.List.{List, Memᴰ}
use Rattle.model.specs.Certificate.{answers_of}
use Rattle.model.specs.Compared.{digits, whole_certificate}
use Rattle.model.specs.Demands.{Exact}
use Rattle.model.specs.Refusals.{Check, passed, refusal}
use Rattle.model.specs.Runs.{Run, runs}
use Rattle.pair_model.specs.Pair.{partition, found_in, nesting, pivots, pair_checks, pair}

-- The answers are those of the walk with t = 2: all the bins that both runs have, and no others, rising, each once. With 5 there are more of them than places, and
-- the least ones stand, in every place. No other refusal comes after the first checks.
pub record PairAnswers (rs : List Run) (check : Check) (places : ℕ) (answers : List ℕ) : Type 0 where
  pub of_the_walk : check ≡ passed → answers ≡ answers_of (whole_certificate 2 rs)
  pub exact : Exact rs 2 (answers_of (whole_certificate 2 rs))
  pub full : (n p : ℕ) → check ≡ refusal n p
      → (n ≡ 5) × (p ≡ places) × (places < length (answers_of (whole_certificate 2 rs))) × (answers ≡ take places (answers_of (whole_certificate 2 rs)))

pub record PairDemand2 (numbers ends : List ℕ) (places : ℕ) (check : Check) (count : ℕ) (answers : List ℕ) : Type 0 where
  pub for_every : pair_checks numbers ends ≡ passed → PairAnswers (runs numbers ends) check places (take count answers)

-- The nesting is never deeper than the binary digits of the shorter run's length.
pub record Nested (a b : List ℕ) : Type 0 where
  pub nested : nesting (partition a b) ≤ digits (min (length a) (length b))

-- No more pivots are sought than the shorter run has bins. Each search compares at most as many numbers as the longer run's length has binary digits (`sought_in`), so
-- that all searches together make at most the product of the two.
pub record FewSought (a b : List ℕ) : Type 0 where
  pub sought : pivots (partition a b) ≤ min (length a) (length b)

-- A pair has no more answers than the shorter run has bins.
pub record Few (a b : List ℕ) : Type 0 where
  pub few : length (found_in (partition a b)) ≤ min (length a) (length b)

-- Room for as many answers as the shorter run has bins is enough, and so is room for as many as there are numbers: a pair that passes the first checks is then
-- accepted. (Here: for as many as either run has.)
pub record PairRoom (numbers ends row : List ℕ) : Type 0 where
  pub either_run : pair_checks numbers ends ≡ passed → (r : Run) → Memᴰ r (runs numbers ends) → length r.bins ≤ length row
      → (pair numbers ends row).check ≡ passed
  pub all_numbers : pair_checks numbers ends ≡ passed → length numbers ≤ length row → (pair numbers ends row).check ≡ passed
