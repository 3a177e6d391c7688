-- `lowest_run` meets its contract: a mask that is not 0 has its lowest run at the number of its trailing zeros. Assumes nothing.
use Rattle.mask.proofs.Lowest.{lowest_zeros}
use Rattle.mask.proofs.lowest_run.Goals as goal

pub returns : goal.returns
returns c =
    lowest_zeros c.args.mask c.requires c.ranges.mask.fits
