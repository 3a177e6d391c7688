-- `names_any` meets its contract: the mask that a word stands for is not 0 where its bits are not. Assumes nothing.
use borrow.Author.Tests.{lt-ltb, le-ltb}
use mathlib.Core.Logic.{⊎_elim}
use mathlib.Core.Path.{◌∙◌, sym}
use Prim.Native.Nat.{◌*◌, ◌^◌, ◌≤◌, ◌<◌}
use Rattle.mask_word.specs.Runs.{word_is}
use Rattle.mask_word.proofs.Bits.{some_shifted, shifted_none}
use Rattle.model.proofs.Tests.{lt_or_le}
use Rattle.mask_word.proofs.names_any.Goals as goal

pub returns : goal.returns
unfolding word_is
returns c =
    let w = c.args.word in
    ⊎_elim
    (λ (h : 0 < w.bits). lt-ltb 0 w.bits h ∙ sym (lt-ltb 0 (w.bits * 2 ^ w.base) (some_shifted w.bits w.base h)))
    (λ (h : w.bits ≤ 0). le-ltb 0 w.bits h ∙ sym (le-ltb 0 (w.bits * 2 ^ w.base) (shifted_none w.bits w.base h)))
    (lt_or_le 0 w.bits)
