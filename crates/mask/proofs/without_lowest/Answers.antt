-- `without_lowest` meets its contract: a mask and the number before it have all its runs but the lowest in common. Assumes nothing.
use Rattle.mask.proofs.Lowest.{lowest_gone}
use Rattle.mask.proofs.without_lowest.Goals as goal

pub returns : goal.returns
returns c =
    lowest_gone c.args.mask c.requires c.ranges.mask.fits
