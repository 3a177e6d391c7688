-- `intersect` writes the answers of the partition, if both lists are entered. Assumes nothing.
use Rattle.std.proofs.Common.{arith}
use Rattle.pair_partition.proofs.Writing.{none_kept}
use Rattle.pair_partition.proofs.intersect.Goals as goal

pub returns-then-shorter-eq0 : goal.returns-then-shorter-eq0
returns-then-shorter-eq0 c =
    none_kept _ _ c.args.answers.now 0 (omega arith) (omega (arith, c.min-shorter.ensures, c.if-shorter-eq0.true))
