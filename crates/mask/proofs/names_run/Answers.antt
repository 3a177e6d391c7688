-- `names_run` meets its contract: the shifted mask's lowest bit is the run's. Assumes nothing.
use Prim.Native.Nat.{ℕ, ◌/◌, ◌^◌}
use lib.Bits.{and_mask}
use lib.Dec.{eqb}
use mathlib.Core.Path.{ap}
use Rattle.model.specs.Runs.{bit}
use Rattle.mask.proofs.names_run.Goals as goal

pub returns : goal.returns
unfolding bit
returns c =
    ap (λ (b : ℕ). eqb b 1) (and_mask (c.args.mask / 2 ^ c.args.run) 1)
