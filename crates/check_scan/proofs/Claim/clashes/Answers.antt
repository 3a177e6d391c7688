-- `clashes` tests a run's first number from `first` on. Assumes nothing.
use Rattle.check_scan.specs.Scan.{clash}
use Rattle.check_scan.proofs.Claim.clashes.Goals as goal

pub returns-then-self : goal.returns-then-self
unfolding clash
returns-then-self c = rw (c.if-self.true, c.from.ensures)

pub returns-else-self : goal.returns-else-self
unfolding clash
returns-else-self c = rw (c.if-self.false, c.from-else-self.ensures)
