-- The numbers of a run that are not above the one before, from a place on. Definitions only.
use Rattle.std.specs.Prelude.{ℕ, zero, suc, ◌+◌, ◌-◌, ◌*◌, ◌≤◌, leb, cond, get_or, drop, length, List, ◌≡◌}
use Rattle.std.proofs.Math.Option.{Option}
use Rattle.model.specs.Runs.{one, unrisen_after}

-- the first of them from place i of a run on, the run being at place a
unfoldable pub unrisen_from : ℕ → ℕ → List ℕ → Option ℕ
unrisen_from a i s = unrisen_after (a + i - 1) (get_or s (i - 1) 0) (drop i s)

-- so many numbers are compared at once
abbrev pub block : ℕ
block = 64

-- 1 where a number is not above the one before it, otherwise 0
abbrev pub fall : ℕ × ℕ → ℕ
fall p = cond (leb p.1 p.0) 1 0

-- how many of n numbers from a place on are not above the one before
unfoldable pub falls_in : List ℕ → ℕ → ℕ → ℕ
falls_in s from zero = 0
falls_in s from (suc n) = falls_in s from n + one (leb (get_or s (from + n) 0) (get_or s (from + n - 1) 0))

-- After the first number of a list blocks stand up to place i, of which each has so many numbers that are not above the one before.
pub record AfterBlocks (s : List ℕ) (each i : ℕ) : Type 0 where
  pub low : 1 ≤ i
  pub inside : i - 1 ≤ length s - 1
  pub share : block * falls_in s 1 (i - 1) ≡ each * (i - 1)
