-- The runs that a mask leaves out, and its lowest and its highest run. Definitions only.
use Rattle.std.specs.Prelude.{ℕ, ◌+◌, ◌^◌, ◌<◌, ◌≡◌}
use Rattle.model.specs.Runs.{bit, mask_bits}

-- r names what a names and m does not, each run of m being one of a
pub record Others (a m r : ℕ) : Type 0 where
  pub each : (i : ℕ) → bit r i + bit m i ≡ bit a i

-- r is the lowest run that m names
pub record Lowest (m r : ℕ) : Type 0 where
  pub here : bit m r ≡ 1
  pub none_before : (i : ℕ) → i < r → bit m i ≡ 0
  pub small : r < mask_bits

-- r names what m names but its lowest run
pub record LowestGone (m r : ℕ) : Type 0 where
  pub gone : (i : ℕ) → Lowest m i → r + 2 ^ i ≡ m

-- r is the highest run that m names
pub record Highest (m r : ℕ) : Type 0 where
  pub here : bit m r ≡ 1
  pub none_after : (i : ℕ) → r < i → bit m i ≡ 0
  pub small : r < mask_bits
