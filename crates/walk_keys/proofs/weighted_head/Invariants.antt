-- `weighted_head` goes up the row and takes each run's weight off what is missing until a run has enough. The invariant: what is looked for in the whole row is what
-- is looked for from here on, with what is missing, and the runs from here on weigh that much, so that the row has not ended. The measure is what is left of the row.
-- Assumes nothing.
use Rattle.std.proofs.Common.{◌≡◌, ◌-◌, ◌≤◌, ◌<◌, length, drop, List, ℕ}
use Rattle.walk_keys.specs.Row.{sum_of, key_weight, reached_head}
use Rattle.walk_keys.proofs.weighted_head.Given as goal

pub record Missing (keys : List ℕ) (start : ℕ) (weights : List ℕ) (t missing i : ℕ) : Type 0 where
  pub low : start ≤ i
  pub wanted : 0 < missing
  pub enough : missing ≤ sum_of (key_weight weights) (drop i keys)
  pub same : reached_head weights t (drop start keys) ≡ reached_head weights missing (drop i keys)

abbrev pub invariant-loop-missing : goal.invariant-loop-missing
invariant-loop-missing l = Missing l.keys l.start l.weights l.t l.missing l.i

abbrev pub decreases-loop-missing : goal.decreases-loop-missing
decreases-loop-missing l = length l.keys - l.i
