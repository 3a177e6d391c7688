-- `without_lowest` meets its contract: a word's bits and the number before them have all its runs but the lowest in common. Assumes nothing.
use Prim.Native.Nat.{◌^◌, ◌<◌}
use borrow.Author.Rules.{rules}
use native.Mathlib.Omega.{arith}
use Rattle.mask_word.specs.Runs.{word_is}
use Rattle.mask_word.proofs.Bits.{shifted_some}
use Rattle.mask_word.proofs.Lowest.{lowest_gone}
use Rattle.mask_word.proofs.without_lowest.Goals as goal

pub overflow_sub-result : goal.overflow_sub-result
unfolding word_is
overflow_sub-result c =
    let w = c.args.word in let s = shifted_some w.bits w.base c.requires in omega arith

pub returns : goal.returns
unfolding word_is
returns c =
    let w = c.args.word in
    let f : w.bits < 2 ^ 64 = search rules in
    lowest_gone 64 w.base w.bits (shifted_some w.bits w.base c.requires) f
