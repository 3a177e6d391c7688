-- `check_parts` settles one field after another. The invariant is `Along`; the measure is what is left of the certificate. Assumes nothing.
use Prim.Native.Nat.{◌-◌}
use lib.ListN.{length}
use Rattle.checker.proofs.Following.{Along}
use Rattle.checker.proofs.check_parts.Given as goal

abbrev pub invariant-loop-at : goal.invariant-loop-at
invariant-loop-at l = Along l.numbers l.ends l.weights l.mask l.threshold l.certificate l.cursors l.bin l.at l.answers l.parts

abbrev pub decreases-loop-at : goal.decreases-loop-at
decreases-loop-at l = length l.certificate - l.at
