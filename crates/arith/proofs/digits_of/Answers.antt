-- `digits_of` meets its contract, by the law at 32 bits. Assumes nothing.
use lib.Count.{leading_le}
use native.Mathlib.Omega.{arith}
use Rattle.arith.proofs.Digits.{digits_leading}
use Rattle.arith.proofs.digits_of.Goals as goal

pub overflow_sub-result : goal.overflow_sub-result
overflow_sub-result c =
    omega (arith, leading_le 32 c.args.n)

pub returns : goal.returns
returns c =
    digits_leading 32 c.args.n c.ranges.n.fits
