-- A run as it is lent, and the place of its first bin. Definitions only.
use Rattle.std.specs.Prelude.{ℕ, ◌+◌, ◌≤◌, List, ◌≡◌, length}
use Rattle.std.proofs.Math.Option.{none}
use Rattle.model.specs.Runs.{first_bin, slice, rank, unrisen_run}

-- a run from place a on and before place e, which rises after the zeros at its start
pub record LentAt (numbers : List ℕ) (a e : ℕ) : Type 0 where
  pub order : a ≤ e
  pub inside : e ≤ length numbers
  pub risen : unrisen_run a (slice numbers a e) ≡ none

-- the place of its first bin, or its end: after the zeros
unfoldable pub first_bin_at : List ℕ → ℕ → ℕ → ℕ
first_bin_at numbers a e = a + rank first_bin (slice numbers a e)
