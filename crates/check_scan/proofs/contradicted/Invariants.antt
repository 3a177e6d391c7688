-- `contradicted` takes up the runs that an answer names, or those that a gap names and reaches, and scans each from its cursor on. The invariant over the
-- runs is `Sofar`, that over the numbers of a run is `Scan`; the measures are the mask of the runs left and what is left of the run. Assumes nothing.
use Prim.Native.Nat.{◌-◌}
use Rattle.check_scan.proofs.Scanning.{Sofar, Scan}
use Rattle.check_scan.proofs.contradicted.Given as goal

abbrev pub invariant-loop-x : goal.invariant-loop-x
invariant-loop-x l = Scan l.numbers l.ends l.claim.held l.claim.first l.claim.last l.claim.mask l.cursors l.rest l.i l.end l.j l.x

abbrev pub decreases-loop-x : goal.decreases-loop-x
decreases-loop-x l = l.end - l.j

abbrev pub invariant-runs : goal.invariant-runs
invariant-runs l = Sofar l.numbers l.ends l.claim.held l.claim.first l.claim.last l.claim.mask l.cursors l.rest

abbrev pub decreases-runs : goal.decreases-runs
decreases-runs l = l.rest
