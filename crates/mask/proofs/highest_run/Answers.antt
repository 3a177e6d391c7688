-- `highest_run` meets its contract: a mask that is not 0 has its highest run at the greatest power of 2 that is not above it. Assumes nothing.
use Rattle.mask.proofs.Highest.{highest_from}
use Rattle.mask.proofs.highest_run.Goals as goal

pub returns : goal.returns
returns c =
    let e = c.ilog2.ensures in highest_from c.args.mask c.ilog2.result e.power_le e.next_power_gt e.bound
