-- The blocks after a 0 in which no number is above the one before are all zeros. Assumes nothing.
use Rattle.std.proofs.Common.{arith}
use Rattle.model.proofs.Zeros.{zero_among}
use Rattle.rising.proofs.Rising.{blocks_zeros}
use Rattle.rising.proofs.zero_part.Goals as goal

pub returns-in-Some : goal.returns-in-Some
returns-in-Some c =
    let s = c.args.run.now in
    let k = c.in-Some.ensures.item in
    blocks_zeros s c.after_blocks.result c.after_blocks.ensures (zero_among s 0 (omega arith) (omega (arith, k.3.0)) (rw (k.3.1 0) at c.if-first-lt-FIRST_BIN.true))
