-- `left` takes the lower half of a tally: a mask of 32 ones leaves the remainder by 2 ^ 32. Assumes nothing.
use lib.Bits.{and_mask, mask_lt}
use mir.Facts.{Fits-bits}
use Rattle.walk_tally.proofs.left.Goals as goal

pub returns : goal.returns
returns c =
    and_mask c.args.tally 32

pub overflow_cast-result : goal.overflow_cast-result
overflow_cast-result c =
    Fits-bits 32 tt (mask_lt c.args.tally 32)
