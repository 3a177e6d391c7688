-- The measure of `partition` is `nesting`: no more calls are nested than it says.
use Rattle.pair_partition.proofs.+partition.Given as goal

abbrev pub decreases-partition : goal.decreases-partition
decreases-partition l = l.nesting
