-- `to_scan` takes the runs that an answer names, or those that a gap names and reaches. Assumes nothing.
use Rattle.check_scan.specs.Scan.{to_scan}
use Rattle.check_scan.proofs.Claim.to_scan.Goals as goal

pub returns-then-self : goal.returns-then-self
unfolding to_scan
returns-then-self c = rw c.if-self.true

pub returns-else-self : goal.returns-else-self
unfolding to_scan
returns-else-self c = rw (c.if-self.false, c.reached.ensures)
