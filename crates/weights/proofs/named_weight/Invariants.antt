-- `named_weight` adds the weights of the runs that the mask names. The invariant: what is added and what is left to add are together what the mask's runs weigh,
-- and no run is left that the mask does not name. The measure is the mask that is left. Assumes nothing.
use Prim.Native.Nat.{ℕ, ◌+◌, ◌≤◌}
use mathlib.Core.List.{List}
use mathlib.Core.Path.{◌≡◌}
use Rattle.weights.specs.Named.{named_weight}
use Rattle.weights.proofs.named_weight.Given as goal

pub record Here (mask : ℕ) (weights : List ℕ) (total rest : ℕ) : Type 0 where
  pub within : rest ≤ mask
  pub same : total + named_weight weights rest ≡ named_weight weights mask

abbrev pub invariant-loop-rest : goal.invariant-loop-rest
invariant-loop-rest l = Here l.mask l.weights l.total l.rest

abbrev pub decreases-loop-rest : goal.decreases-loop-rest
decreases-loop-rest l = l.rest
