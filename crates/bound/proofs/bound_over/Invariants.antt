-- `bound_over` meets its contract. The loop's invariant is `Summed`: the definition from the start is the definition from here. Assumes nothing.
use Rattle.bound.specs.Bound.{named}
use Rattle.bound.proofs.Checks.{Summed}
use Rattle.bound.proofs.bound_over.Given as goal

abbrev pub invariant-loop-i : goal.invariant-loop-i
invariant-loop-i l = Summed (named l.mask) l.ends l.parts l.sum l.before l.i
