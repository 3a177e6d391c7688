-- `step_each` moves the runs that the mask names on by one. The invariant is `Here`; the measure is the mask, from which each turn takes a bit.
-- Assumes nothing.
use Rattle.walk_step.proofs.Steps.{Here}
use Rattle.walk_step.proofs.step_each.Given as goal

abbrev pub invariant-loop-rest : goal.invariant-loop-rest
invariant-loop-rest l = Here l.numbers l.ends l.initial.positions l.movers l.positions l.rest

abbrev pub decreases-loop-rest : goal.decreases-loop-rest
decreases-loop-rest l = l.rest
