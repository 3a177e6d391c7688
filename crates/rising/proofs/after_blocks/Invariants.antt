-- `after_blocks` passes over a block of numbers at a time. The invariant: what the contract says holds of the place so far. The measure is what is left of the
-- list. Assumes nothing.
use Rattle.std.proofs.Common.{◌-◌, length}
use Rattle.rising.specs.Rising.{AfterBlocks}
use Rattle.rising.proofs.after_blocks.Given as goal

abbrev pub invariant-loop-numbers : goal.invariant-loop-numbers
invariant-loop-numbers l = AfterBlocks l.list l.each l.place

abbrev pub decreases-loop-numbers : goal.decreases-loop-numbers
decreases-loop-numbers l = length l.list - l.place
