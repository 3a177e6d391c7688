-- What the runs that a mask names weigh, by a row of weights. Definitions only.
use Rattle.std.specs.Prelude.{ℕ, zero, suc, ◌+◌, ◌*◌, ◌^◌, ◌≤◌, ◌<◌, List, ◌⊎◌, ◌≡◌, length, get_or}
use Rattle.std.specs.Int.Bits.{bit_and}
use Rattle.mask.specs.Mask.{Others}
use Rattle.model.specs.Runs.{bit, mask_bits, most_runs}

-- a sum over the n runs from i on: the weight of each that the mask names, 1 where the row has none
unfoldable pub weight_from : List ℕ → ℕ → ℕ → ℕ → ℕ
weight_from weights m i zero = 0
weight_from weights m i (suc n) = bit m i * get_or weights i 1 + weight_from weights m (suc i) n

unfoldable pub named_weight : List ℕ → ℕ → ℕ
named_weight weights m = weight_from weights m 0 mask_bits

-- where the row has weights, run i has one
pub record HasWeight (i : ℕ) (weights : List ℕ) : Type 0 where
  pub within : 0 < length weights → i < length weights

-- where the row has weights, there is one for each run that the mask names
pub record Weighs (m : ℕ) (weights : List ℕ) : Type 0 where
  pub few : length weights ≤ most_runs
  pub within : 0 < length weights → m < 2 ^ length weights

-- a mask that names only runs of another, each of which has a weight where the row has any, and what the runs of the other weigh
pub record Among (m all total : ℕ) (weights : List ℕ) : Type 0 where
  pub only : bit_and m all ≡ m
  pub row : Weighs all weights
  pub whole : total ≡ named_weight weights all

-- the mask m, or what it leaves out of another
pub record Fewer (m all r : ℕ) : Type 0 where
  pub either : (r ≡ m) ⊎ Others all m r
