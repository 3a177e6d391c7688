-- `zeros_front` doubles a front until a bin stands after it. The measure is what is left of the run. Assumes nothing.
use Rattle.std.proofs.Common.{◌-◌, length}
use Rattle.first_bin.proofs.zeros_front.Given as goal

abbrev pub decreases-loop-x : goal.decreases-loop-x
decreases-loop-x l = length l.run - l.front
