-- `lowest_run` meets its contract: a word that names a run has its lowest at its base and the number of its trailing zeros. Assumes nothing.
use borrow.Author.Rules.{rules}
use Prim.Native.Nat.{◌^◌, ◌<◌}
use lib.Count.{trailing_le}
use Rattle.mask_word.specs.Runs.{word_is}
use Rattle.mask_word.proofs.Bits.{shifted_some}
use Rattle.mask_word.proofs.Lowest.{lowest_zeros}
use Rattle.mask_word.proofs.lowest_run.Goals as goal

pub overflow_add-result : goal.overflow_add-result
overflow_add-result c =
    let l = trailing_le 64 c.args.word.bits in
    search rules

pub returns : goal.returns
unfolding word_is
returns c =
    let w = c.args.word in
    let f : w.bits < 2 ^ 64 = search rules in
    rw c.from.ensures (lowest_zeros 64 w.base w.bits (shifted_some w.bits w.base c.requires) f)
