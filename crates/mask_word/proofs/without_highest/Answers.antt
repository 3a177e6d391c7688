-- `without_highest` meets its contract: a word's bits are at least the power of 2 of their highest. Assumes nothing.
use Prim.Native.Nat.{◌-◌, ◌*◌, ◌^◌}
use mathlib.Core.Path.{subst⁻¹}
use Rattle.mask_word.specs.Runs.{word_is, HighestGone}
use Rattle.mask_word.proofs.Bits.{one_shifted, shifted_some}
use Rattle.mask_word.proofs.Highest.{highest_gone}
use Rattle.mask_word.proofs.without_highest.Goals as goal

pub ilog2-requires : goal.ilog2-requires
unfolding word_is
ilog2-requires c =
    shifted_some c.args.word.bits c.args.word.base c.requires

pub returns : goal.returns
unfolding word_is
returns c =
    let w = c.args.word in
    let e = c.ilog2.ensures in
    subst⁻¹ (λ x. HighestGone (w.bits * 2 ^ w.base) ((w.bits - x) * 2 ^ w.base)) (one_shifted 64 c.ilog2.result e.bound)
    (highest_gone w.base w.bits c.ilog2.result e.power_le e.next_power_gt)
