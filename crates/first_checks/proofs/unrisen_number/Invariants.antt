-- `unrisen_number` gives the first number that is not above the one before in its run. The invariant: the definition from the first run on equals it
-- from this run on, whose ends are still in order, so that it lies in the
-- numbers. Assumes nothing.
use Rattle.std.proofs.Common.{◌≡◌, ℕ, ◌<◌, ◌≤◌, List, length, get_or, drop}
use Rattle.model.specs.Refusals.{unrisen_in}
use Rattle.first_checks.proofs.Laws.{Ordered}
use Rattle.first_checks.proofs.unrisen_number.Given as goal

pub record Here (numbers ends : List ℕ) (start i : ℕ) : Type 0 where
  pub ordered : Ordered numbers ends start i
  pub inside : i < length ends → (start ≤ get_or ends i 0) × (get_or ends i 0 ≤ length numbers)
  pub same : unrisen_in 0 numbers ends ≡ unrisen_in start numbers (drop i ends)

abbrev pub invariant-loop-end : goal.invariant-loop-end
invariant-loop-end l = Here l.numbers l.ends l.start l.end-index
