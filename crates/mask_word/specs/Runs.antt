-- The number that a word of a mask stands for, and its lowest and its highest run. Definitions only.
use Rattle.std.specs.Prelude.{ℕ, ◌+◌, ◌*◌, ◌^◌, ◌<◌, ◌≡◌}
use Rattle.mask_word.specs.declared.Word.{Word}
use Rattle.model.specs.Runs.{bit}

-- the mask that names the runs of a word alone
unfoldable pub word_is : Word → ℕ
word_is w = w.bits * 2 ^ w.base

-- r is the lowest run that m names
pub record Lowest (m r : ℕ) : Type 0 where
  pub here : bit m r ≡ 1
  pub none_before : (i : ℕ) → i < r → bit m i ≡ 0

-- r names what m names but its lowest run
pub record LowestGone (m r : ℕ) : Type 0 where
  pub gone : (i : ℕ) → Lowest m i → r + 2 ^ i ≡ m

-- r is the highest run that m names
pub record Highest (m r : ℕ) : Type 0 where
  pub here : bit m r ≡ 1
  pub none_after : (i : ℕ) → r < i → bit m i ≡ 0

-- r names what m names but its highest run
pub record HighestGone (m r : ℕ) : Type 0 where
  pub gone : (i : ℕ) → Highest m i → r + 2 ^ i ≡ m
