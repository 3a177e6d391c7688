-- `highest_run` meets its contract: a word that names a run has its highest at its base and the greatest power of 2 that is not above its bits. Assumes nothing.
use Rattle.mask_word.specs.Runs.{word_is}
use Rattle.mask_word.proofs.Bits.{shifted_some}
use Rattle.mask_word.proofs.Highest.{highest_at}
use Rattle.mask_word.proofs.highest_run.Goals as goal

pub ilog2-requires : goal.ilog2-requires
unfolding word_is
ilog2-requires c =
    shifted_some c.args.word.bits c.args.word.base c.requires

pub returns : goal.returns
unfolding word_is
returns c =
    let w = c.args.word in
    let e = c.ilog2.ensures in
    rw c.from.ensures (highest_at w.base w.bits c.ilog2.result e.power_le e.next_power_gt)
