-- `lowered` lowers the weight for each run that the mask names and that has no number left. The invariant: the weight is that in which each run that is still named
-- has a head. The measure is the mask, from which each turn takes a bit. Assumes nothing.
use Rattle.walk_weight.specs.Lowering.{Lowerable}
use Rattle.walk_weight.proofs.lowered.Given as goal

abbrev pub invariant-loop-rest : goal.invariant-loop-rest
invariant-loop-rest l = Lowerable l.numbers l.ends l.weights l.positions l.rest l.weight

abbrev pub decreases-loop-rest : goal.decreases-loop-rest
decreases-loop-rest l = l.rest
