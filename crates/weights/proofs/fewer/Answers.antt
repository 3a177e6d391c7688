-- `fewer` is the mask or what it leaves out. Assumes nothing.
use mathlib.Core.Logic.{inl, inr}
use mathlib.Core.Path.{refl}
use Rattle.weights.proofs.fewer.Goals as goal

pub returns-then-ones_of-gt-HALF : goal.returns-then-ones_of-gt-HALF
returns-then-ones_of-gt-HALF c =
    record { either = inr c.others.ensures }

pub returns : goal.returns
returns c =
    record { either = inl refl }
