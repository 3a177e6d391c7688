-- `in_gaps` passes over the run along the certificate's parts. The invariant is `Passing`; the measure is what is left of the certificate. Assumes nothing.
use Prim.Native.Nat.{◌-◌}
use lib.ListN.{length}
use Rattle.query_difference.proofs.Passing.{Passing}
use Rattle.query_difference.proofs.in_gaps.Given as goal

abbrev pub invariant-loop-place : goal.invariant-loop-place
invariant-loop-place l = Passing l.run l.certificate l.initial.answers l.answers l.place l.at l.count

abbrev pub decreases-loop-place : goal.decreases-loop-place
decreases-loop-place l = length l.certificate - l.at
