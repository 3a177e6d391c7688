-- `others` meets its contract: a run of `all` is in the mask, or in what the two do not have in common. Assumes nothing.
use Rattle.mask.proofs.Mask.{bit_others}
use Rattle.mask.proofs.others.Goals as goal

pub returns : goal.returns
returns c =
    record { each = λ i. bit_others c.args.all c.args.mask i c.requires }
