-- `row_weight` counts the keys of the row where there are no weights, and adds their runs' weights otherwise. The invariant: what is added and what the runs from here
-- on weigh are together what the row's runs weigh. Assumes nothing.
use Rattle.std.proofs.Common.{◌≡◌, ◌+◌, ◌*◌, ◌≤◌, drop, List, ℕ}
use Rattle.walk_keys.specs.Row.{sum_of, key_weight}
use Rattle.walk_keys.proofs.row_weight.Given as goal

pub record Added (row weights : List ℕ) (total i : ℕ) : Type 0 where
  pub same : total + sum_of (key_weight weights) (drop i row) ≡ sum_of (key_weight weights) row
  pub small : total ≤ i * 4294967296

abbrev pub invariant-loop-key : goal.invariant-loop-key
invariant-loop-key l = Added l.row l.weights l.total l.key-index
